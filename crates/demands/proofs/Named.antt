-- What an accepted program's records name lies in tables of the device's sizes: from line 3, place by place, to the instruction.
use Prim.Native.Nat.{ℕ, zero, suc, ◌+◌, ◌-◌, ◌*◌, ◌≤◌, ◌<◌}
use mathlib.Core.Bool.{Bool, true, false, not, ◌&&◌, ◌||◌, or-false}
use mathlib.Core.List.{List}
use mathlib.Core.Logic.{inl, inr}
use mathlib.Core.Path.{◌≡◌, refl, sym, ap, subst, ◌∙◌}
use native.Mathlib.Omega.{arith}
use lib.Dec.{eqb, leb, ltb}
use lib.IntN.{pos, neg_ℤ}
use lib.ListN.{length}
use borrow.Author.Tests.{eqb-true, eq-eqb, leb-true, ltb-true}
use Rattle.ec20.proofs.EachRow.{every, row-test}
use Rattle.ec20.proofs.Forms.{same_role}
use Rattle.ec20.proofs.Laws.{no-fault}
use Rattle.ec20.proofs.NoFault.{accepted-records, record-fine}
use Rattle.ec20.proofs.Tests.{both, each, either, three, differ, implied, picked}
use Rattle.ec20.specs.declared.Form.{Form}
use Rattle.ec20.specs.declared.Operand.{Operand}
use Rattle.ec20.specs.declared.Place.{Place}
use Rattle.ec20.specs.declared.Rec.{Rec}
use Rattle.ec20.specs.declared.Role.{Role}
use Rattle.ec20.specs.declared.Row.{Row}
use Rattle.ec20.specs.Verdict.{Accepted}
use Rattle.ec20.specs.Basics.{pick}
use Rattle.ec20.specs.Check.{check_for}
use Rattle.ec20.specs.Code.{instr_by, instr_of, code_of, program_of}
use Rattle.ec20.specs.Devices.{Device, kind_constant, kind_x, kind_y, kind_m, kind_sm, kind_t, kind_d, limit_of}
use Rattle.ec20.specs.File.{count_of}
use Rattle.ec20.specs.Forms.{form_code, form_is, form_nop, form_contact, form_join, form_branch, form_coil, form_compare, form_timer, form_for, form_next, form_jump, form_label, form_end, form_three, form_two, form_one}
use Rattle.ec20.specs.Memory.{Memory, bits_of}
use Rattle.ec20.specs.Mnemonics.{DIV, DDIV}
use Rattle.ec20.specs.Numbers.{half}
use Rattle.ec20.specs.Operands.{kind_is, plain, in_range, one_of, constant_in, group_in, words_in, is_bit_read, is_bit_written, is_source, is_target, allowed, operands_ok, fault_in}
use Rattle.ec20.specs.Roles.{role_is, role_bit_read, role_bit_written, role_source, role_target, role_changed, role_quotient, role_timer}
use Rattle.ec20.specs.Step.{width_of}
use Rattle.ec20.specs.Table.{table, unknown, row_of}
use Rattle.ec20.specs.Words.{is}
use Rattle.moving.proofs.Outcome.{written_one}
use Rattle.moving.specs.Rename.{words_of, written_by}
use Rattle.refusals.proofs.Operands.{all-allowed}
use Rattle.refusals.specs.Records.{first, second, third}
use Rattle.refusals.specs.Table.{record_at}
use Rattle.demands.specs.Named.{Filled, Bits, Group, Words, OneTimer, Source, constant, from_group, from_timer, from_words, Target, to_group, to_words, two_sources, Named}
use Rattle.demands.proofs.Lengths.{Sizes}

-- ---- the table: which places a form of instruction has

-- a source, and the target, of the row w, which is that of n: each of the row's width, with the words that are read and written
abbrev reads : Row → Place → Bool
reads w p = role_is role_source p && eqb p.width w.first.width && eqb p.extent (words_of w.first.width)

abbrev writes : ℕ → Row → Place → Bool
writes n w p =
    pick (is n DIV DDIV) (role_is role_quotient p) (role_is role_target p || role_is role_changed p)
    && eqb p.width w.first.width
    && eqb p.extent (pick (is n DIV DDIV) (2 * words_of w.first.width) (words_of w.first.width))

-- a rule for the rows of one form
module _ (form : Form) (test : ℕ → Row → Bool) where
  abbrev rule : ℕ → Row → Bool
  rule n w = not (form_is w.form form) || test n w

  of-form : ((n : ℕ) → rule n unknown ≡ true) → every rule 0 table ≡ true → (n : ℕ) → (row_of n).form ≡ form → test n (row_of n) ≡ true
  of-form u e n q = implied (form_is (row_of n).form form) (test n (row_of n)) (row-test rule u e n) (eq-eqb _ _ (ap form_code q))

contact-row : (n : ℕ) → (row_of n).form ≡ form_contact → role_is role_bit_read (row_of n).first ≡ true
unfolding table
contact-row = of-form form_contact (λ n w. role_is role_bit_read w.first) (λ n. refl) refl

coil-row : (n : ℕ) → (row_of n).form ≡ form_coil → role_is role_bit_written (row_of n).first ≡ true
unfolding table
coil-row = of-form form_coil (λ n w. role_is role_bit_written w.first) (λ n. refl) refl

timer-row : (n : ℕ) → (row_of n).form ≡ form_timer → role_is role_timer (row_of n).first ≡ true
unfolding table
timer-row = of-form form_timer (λ n w. role_is role_timer w.first) (λ n. refl) refl

compare-row : (n : ℕ) → (row_of n).form ≡ form_compare
    → (reads (row_of n) (row_of n).first && reads (row_of n) (row_of n).second && eqb (width_of n) 16) ≡ true
unfolding table
compare-row = of-form form_compare (λ n w. reads w w.first && reads w w.second && eqb w.first.width 16) (λ n. refl) refl

three-row : (n : ℕ) → (row_of n).form ≡ form_three
    → (reads (row_of n) (row_of n).first && reads (row_of n) (row_of n).second && writes n (row_of n) (row_of n).third) ≡ true
unfolding table
three-row = of-form form_three (λ n w. reads w w.first && reads w w.second && writes n w w.third) (λ n. refl) refl

two-row : (n : ℕ) → (row_of n).form ≡ form_two → (reads (row_of n) (row_of n).first && writes n (row_of n) (row_of n).second) ≡ true
unfolding table
two-row = of-form form_two (λ n w. reads w w.first && writes n w w.second) (λ n. refl) refl

one-row : (n : ℕ) → (row_of n).form ≡ form_one → writes n (row_of n) (row_of n).first ≡ true
unfolding table
one-row = of-form form_one (λ n w. writes n w w.first) (λ n. refl) refl

-- ---- what is allowed at a place, by its role

module _ (v : Device) (p : Place) (o : Operand) where
  abbrev Of : Role → Place
  Of r = record { role = r; width = p.width; extent = p.extent }

  by-role : (r : Role) (test : Place → Bool) → allowed v (Of r) o ≡ test (Of r) → role_is r p ≡ true → allowed v p o ≡ true → test p ≡ true
  by-role r test h t a =
      let e : p.role ≡ r = same_role _ _ (eqb-true _ _ t) in
      subst (λ (i : Role). test (Of i) ≡ true) (sym e) (sym h ∙ subst (λ (i : Role). allowed v (Of i) o ≡ true) e a)

  at_bit_read : role_is role_bit_read p ≡ true → allowed v p o ≡ true → is_bit_read v o ≡ true
  unfolding allowed
  at_bit_read = by-role role_bit_read (λ _. is_bit_read v o) (simp or-false)

  at_bit_written : role_is role_bit_written p ≡ true → allowed v p o ≡ true → is_bit_written v o ≡ true
  unfolding allowed
  at_bit_written = by-role role_bit_written (λ _. is_bit_written v o) (simp or-false)

  at_source : role_is role_source p ≡ true → allowed v p o ≡ true → is_source v p o ≡ true
  unfolding allowed
  at_source = by-role role_source (λ q. is_source v q o) (simp or-false)

  at_target : role_is role_target p ≡ true → allowed v p o ≡ true → is_target v p o ≡ true
  unfolding allowed
  at_target = by-role role_target (λ q. is_target v q o) (simp or-false)

  at-changed : role_is role_changed p ≡ true → allowed v p o ≡ true → is_target v p o ≡ true
  unfolding allowed
  at-changed = by-role role_changed (λ q. is_target v q o) (simp or-false)

  at_quotient : role_is role_quotient p ≡ true → allowed v p o ≡ true → words_in v p.extent o ≡ true
  unfolding allowed
  at_quotient = by-role role_quotient (λ q. words_in v q.extent o) (simp or-false)

  at_timer : role_is role_timer p ≡ true → allowed v p o ≡ true → one_of v kind_t o ≡ true
  unfolding allowed
  at_timer = by-role role_timer (λ _. one_of v kind_t o) (simp or-false)

-- ---- in a memory of the device's sizes

module _ (v : Device) (full : Filled v) (c : Memory) (s : Sizes v c) where
  -- the table of a kind has as many bits as the device
  all-bits : (k : ℕ) → kind_x ≤ k → k ≤ kind_t → limit_of v k ≡ 8 * length (bits_of k c)
  unfolding limit_of bits_of
  all-bits zero a b = absurd (omega arith)
  all-bits (suc zero) a b = absurd (omega arith)
  all-bits (suc (suc zero)) a b = let z : v.x ≡ 8 * length c.x = omega (arith, s.x, full.x) in z
  all-bits (suc (suc (suc zero))) a b = let z : v.y ≡ 8 * length c.y = omega (arith, s.y, full.y) in z
  all-bits (suc (suc (suc (suc zero)))) a b = let z : v.m ≡ 8 * length c.m = omega (arith, s.m, full.m) in z
  all-bits (suc (suc (suc (suc (suc zero))))) a b = let z : v.sm ≡ 8 * length c.sm = omega (arith, s.sm, full.sm) in z
  all-bits (suc (suc (suc (suc (suc (suc zero)))))) a b = let z : v.t ≡ 8 * length c.t = omega (arith, s.t, full.t) in z
  all-bits (suc (suc (suc (suc (suc (suc (suc k))))))) a b = absurd (omega arith)

  -- the operand o: its kind is one from a to b
  module _ (o : Operand) where
    in_range_lem : (n : ℕ) → in_range v n o ≡ true → o.value + n ≤ limit_of v o.kind
    unfolding in_range
    in_range_lem n e = leb-true _ _ e

    bits : (a b n : ℕ) → kind_x ≤ a → b ≤ kind_t → a ≤ o.kind → o.kind ≤ b → o.value + n ≤ limit_of v o.kind → Bits a b n c o
    bits a b n l u x y h =
        let t : limit_of v o.kind ≡ 8 * length (bits_of o.kind c) = all-bits o.kind (omega arith) (omega arith) in
        record { from = x; to = y; inside = omega (arith, h, t) }

    among : (a b k : ℕ) → a ≤ k → k ≤ b → kind_is k o ≡ true → (a ≤ o.kind) × (o.kind ≤ b)
    among a b k x y e = let z : o.kind ≡ k = eqb-true _ _ e in (omega arith, omega arith)

    one_of_lem : (k : ℕ) → one_of v k o ≡ true → (o.kind ≡ k) × (in_range v 1 o ≡ true)
    unfolding one_of
    one_of_lem k e = let q = each (kind_is k o) (plain o) (in_range v 1 o) e in (eqb-true _ _ q.0, q.2)

    one_bit : (a b k : ℕ) → kind_x ≤ a → b ≤ kind_t → a ≤ k → k ≤ b → one_of v k o ≡ true → Bits a b 1 c o
    one_bit a b k l u x y e =
        let q = one_of_lem k e in
        let z : o.kind ≡ k = q.0 in
        bits a b 1 l u (omega arith) (omega arith) (in_range_lem 1 q.1)

    read_one : (k : ℕ) → kind_x ≤ k → k ≤ kind_t → one_of v k o ≡ true → Bits kind_x kind_t 1 c o
    read_one k = one_bit kind_x kind_t k (omega arith) (omega arith)

    bit-read : is_bit_read v o ≡ true → Bits kind_x kind_t 1 c o
    unfolding is_bit_read
    bit-read e =
        elim (either (one_of v kind_x o || one_of v kind_y o || one_of v kind_m o || one_of v kind_sm o) (one_of v kind_t o) e) [
          | inl q ↦
              elim (either (one_of v kind_x o || one_of v kind_y o || one_of v kind_m o) (one_of v kind_sm o) q) [
                | inl q ↦
                    three (one_of v kind_x o) (one_of v kind_y o) (one_of v kind_m o) q
                    (read_one kind_x (omega arith) (omega arith)) (read_one kind_y (omega arith) (omega arith)) (read_one kind_m (omega arith) (omega arith))
                | inr q ↦ read_one kind_sm (omega arith) (omega arith) q
              ]
          | inr q ↦ read_one kind_t (omega arith) (omega arith) q
        ]

    bit-written : is_bit_written v o ≡ true → Bits kind_y kind_m 1 c o
    unfolding is_bit_written
    bit-written e =
        elim (either (one_of v kind_y o) (one_of v kind_m o) e) [
          | inl q ↦ one_bit kind_y kind_m kind_y (omega arith) (omega arith) (omega arith) (omega arith) q
          | inr q ↦ one_bit kind_y kind_m kind_m (omega arith) (omega arith) (omega arith) (omega arith) q
        ]

    group : (a b w : ℕ) → kind_x ≤ a → b ≤ kind_t → a ≤ o.kind → o.kind ≤ b → group_in v w o ≡ true → Group a b w c o
    unfolding group_in
    group a b w l u x y e =
        let q = each (leb 1 o.group) (leb (4 * o.group) w) (in_range v (4 * o.group) o) e in
        let h = in_range_lem (4 * o.group) q.2 in
        record { some = leb-true _ _ q.0; fits = leb-true _ _ q.1; bits = bits a b _ l u x y (omega (arith, h)) }

    words : (n k : ℕ) → n ≡ k → words_in v n o ≡ true → Words k c o
    unfolding words_in limit_of
    words n k z e =
        let q = each (kind_is kind_d o) (plain o) (in_range v n o) e in
        let i : o.kind ≡ kind_d = eqb-true _ _ q.0 in
        let h = in_range_lem n q.2 in
        let t : limit_of v o.kind ≡ v.words = ap (limit_of v) i in
        record { kind = i; inside = omega (arith, h, t, s.d) }

    timer : one_of v kind_t o ≡ true → OneTimer c o.value
    unfolding limit_of
    timer e =
        let q = one_of_lem kind_t e in
        let h = in_range_lem 1 q.1 in
        let t : limit_of v o.kind ≡ v.t = ap (limit_of v) q.0 in
        record { contact = omega (arith, h, t, s.t, full.t); value = omega (arith, h, t, s.tv) }

    -- a source of w bits, at a place of that width with as many words
    module _ (p : Place) (w : ℕ) (x : p.width ≡ w) (y : p.extent ≡ words_of w) where
      abbrev K : Bool
      K = constant_in (neg_ℤ (pos (half p.width))) (pos (half p.width - 1)) o

      abbrev G : Bool
      G = (kind_is kind_x o || kind_is kind_y o || kind_is kind_m o) && group_in v p.width o

      abbrev T : Bool
      T = eqb p.width 16 && one_of v kind_t o

      is-constant : K ≡ true → o.kind ≡ kind_constant
      unfolding constant_in
      is-constant e =
          let r = both (kind_is kind_constant o && plain o) _ e in eqb-true _ _ (both (kind_is kind_constant o) (plain o) r.0).0

      source : is_source v p o ≡ true → Source w c o
      unfolding is_source
      source e =
          elim (either (K || G || T) (words_in v p.extent o) e) [
            | inl q ↦
                three K G T q (λ z. constant (is-constant z))
                (λ z.
                let r = both (kind_is kind_x o || kind_is kind_y o || kind_is kind_m o) (group_in v p.width o) z in
                let i =
                three (kind_is kind_x o) (kind_is kind_y o) (kind_is kind_m o) r.0
                (among kind_x kind_m kind_x (omega arith) (omega arith))
                (among kind_x kind_m kind_y (omega arith) (omega arith))
                (among kind_x kind_m kind_m (omega arith) (omega arith)) in
                from_group (subst (λ (k : ℕ). Group kind_x kind_m k c o) x (group kind_x kind_m p.width (omega arith) (omega arith) i.0 i.1 r.1)))
                (λ z.
                let r = both (eqb p.width 16) (one_of v kind_t o) z in
                from_timer (sym x ∙ eqb-true _ _ r.0) (one_of_lem kind_t r.1).0 (timer r.1).value)
            | inr q ↦ from_words (words p.extent (words_of w) y q)
          ]

    -- the target of n, at a place of its width with as many words as it writes
    module _ (n : ℕ) (p : Place) (x : p.width ≡ width_of n) (y : p.extent ≡ written_by n) where
      target : is n DIV DDIV ≡ false → is_target v p o ≡ true → Target n c o
      unfolding is_target
      target h e =
          elim (either ((kind_is kind_y o || kind_is kind_m o) && group_in v p.width o) (words_in v p.extent o) e) [
            | inl z ↦
                let r = both (kind_is kind_y o || kind_is kind_m o) (group_in v p.width o) z in
                let i : (kind_y ≤ o.kind) × (o.kind ≤ kind_m) =
                elim (either (kind_is kind_y o) (kind_is kind_m o) r.0) [
                  | inl k ↦ among kind_y kind_m kind_y (omega arith) (omega arith) k
                  | inr k ↦ among kind_y kind_m kind_m (omega arith) (omega arith) k
                ] in
                to_group h (subst (λ (k : ℕ). Group kind_y kind_m k c o) x (group kind_y kind_m p.width (omega arith) (omega arith) i.0 i.1 r.1))
            | inr q ↦ to_words (words p.extent (written_by n) y q)
          ]

    -- ---- at the places of a row

    reads-source : (w : Row) (p : Place) → reads w p ≡ true → allowed v p o ≡ true → Source w.first.width c o
    reads-source w p r a =
        let q = each (role_is role_source p) (eqb p.width w.first.width) (eqb p.extent (words_of w.first.width)) r in
        source p w.first.width (eqb-true _ _ q.1) (eqb-true _ _ q.2) (at_source v p o q.0 a)

    writes-target : (n : ℕ) (p : Place) → writes n (row_of n) p ≡ true → allowed v p o ≡ true → Target n c o
    writes-target n p r a = go (is n DIV DDIV) refl q.0
      where
        q : (pick (is n DIV DDIV) (role_is role_quotient p) (role_is role_target p || role_is role_changed p) ≡ true)
            × (eqb p.width (width_of n) ≡ true)
            × (eqb p.extent (written_by n) ≡ true)
        q = each _ (eqb p.width (width_of n)) (eqb p.extent (written_by n)) r

        go : (t : Bool) → is n DIV DDIV ≡ t → pick t (role_is role_quotient p) (role_is role_target p || role_is role_changed p) ≡ true → Target n c o
        go true h e = to_words (words p.extent (written_by n) (eqb-true _ _ q.2) (at_quotient v p o e a))
        go false h e =
            target n p (eqb-true _ _ q.1) (eqb-true _ _ q.2) h
            (elim (either (role_is role_target p) (role_is role_changed p) e) [
              | inl z ↦ at_target v p o z a
              | inr z ↦ at-changed v p o z a
            ])

    -- a "target, also read" is a source too
    read-too : (n : ℕ) → Target n c o → Source (width_of n) c o
    read-too n (to_group h g) =
        let i : kind_y ≤ o.kind = g.bits.from in
        from_group (record { some = g.some; fits = g.fits; bits = record { from = omega arith; to = g.bits.to; inside = g.bits.inside } })
    read-too n (to_words h) = from_words (record { kind = h.kind; inside = omega (arith, h.inside, written_one n) })

  has-flags : 182 < 8 * length c.sm
  has-flags = omega (arith, s.sm, full.sm, full.flags)

  -- a record that 3 does not refuse
  record-named : (r : Rec) → operands_ok v (row_of r.number) r ≡ true → Named c (instr_of r)
  unfolding instr_by
  record-named r ok = by-form w.form refl
    where
      n : ℕ
      n = r.number

      w : Row
      w = row_of n

      o1 : allowed v w.first r.first ≡ true
      o1 = all-allowed v r ok first

      o2 : allowed v w.second r.second ≡ true
      o2 = all-allowed v r ok second

      o3 : allowed v w.third r.third ≡ true
      o3 = all-allowed v r ok third

      two_for : (f : Form) → w.form ≡ f → two_sources n ≡ form_is f form_three
      two_for f q = ap (λ (g : Form). form_is g form_three) q

      by-form : (f : Form) → w.form ≡ f → Named c (instr_by f r)
      by-form form_nop q = tt
      by-form form_contact q = bit-read r.first (at_bit_read v w.first r.first (contact-row n q) o1)
      by-form form_join q = tt
      by-form form_branch q = tt
      by-form form_coil q = bit-written r.first (at_bit_written v w.first r.first (coil-row n q) o1)
      by-form form_compare q =
          let t = each (reads w w.first) (reads w w.second) (eqb w.first.width 16) (compare-row n q) in
          let z : w.first.width ≡ 16 = eqb-true _ _ t.2 in (
            subst (λ (k : ℕ). Source k c r.first) z (reads-source r.first w w.first t.0 o1),
            subst (λ (k : ℕ). Source k c r.second) z (reads-source r.second w w.second t.1 o2),
          )
      by-form form_timer q = timer r.first (at_timer v w.first r.first (timer-row n q) o1)
      by-form form_for q = tt
      by-form form_next q = tt
      by-form form_jump q = tt
      by-form form_label q = tt
      by-form form_end q = tt
      by-form form_three q =
          let t = each (reads w w.first) (reads w w.second) (writes n w w.third) (three-row n q) in
          record {
            first = reads-source r.first w w.first t.0 o1;
            second = λ _. reads-source r.second w w.second t.1 o2;
            no_second = λ z. differ (sym (two_for form_three q) ∙ z);
            target = writes-target r.third n w.third t.2 o3;
            flags = has-flags;
          }
      by-form form_two q =
          let t = both (reads w w.first) (writes n w w.second) (two-row n q) in
          record {
            first = reads-source r.first w w.first t.0 o1;
            second = λ z. differ (sym z ∙ two_for form_two q);
            no_second = λ _. refl;
            target = writes-target r.second n w.second t.1 o2;
            flags = has-flags;
          }
      by-form form_one q =
          let t = writes-target r.first n w.first (one-row n q) o1 in
          record {
            first = read-too r.first n t;
            second = λ z. differ (sym z ∙ two_for form_one q);
            no_second = λ _. refl;
            target = t;
            flags = has-flags;
          }

  -- NAMED: each record of an accepted program
  pub code-named : (f : List ℕ) (n w : ℕ) → check_for v f ≡ Accepted n w → (k : ℕ) → Named c ((program_of f).code k)
  unfolding program_of code_of
  code-named f n w ok k =
      picked (Named c) (ltb k (count_of f)) _ _
      (λ q.
      let l : k < count_of f = ltb-true _ _ q in
      let e = no-fault (λ i. fault_in v (record_at f i)) 0 (count_of f) (accepted-records v f n w ok) k (omega arith) (omega arith) in
      record-named (record_at f k) (record-fine v (record_at f k) e).1)
      (λ _. tt)

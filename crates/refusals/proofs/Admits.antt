-- What the check allows of an operand (`allowed`) is what the table admits in words (`Admits`), at each place that the table has.
use Prim.Native.Nat.{ℕ, ◌+◌, ◌-◌, ◌*◌, ◌<◌, ◌≤◌, ◌^◌}
use mathlib.Core.Bool.{Bool, true, false, ◌&&◌, ◌||◌, or-false}
use mathlib.Core.List.{List, [], ◌∷◌}
use mathlib.Core.Logic.{◌↔◌}
use mathlib.Core.Path.{◌≡◌, refl, sym, ap, ap₂, subst, ◌∙◌}
use native.Mathlib.Omega.{arith}
use lib.Dec.{T, leb, ltb, eqb}
use lib.IntN.{ℤ, pos, neg_ℤ, sub_ℕ}
use lib.Signed.{le_z}
use borrow.Author.Tests.{leb-true, le-leb, ltb-true, ltb-false, lt-ltb, le-ltb, eqb-true, eq-eqb}
use Rattle.ec20.specs.Basics.{pick}
use Rattle.ec20.specs.declared.Operand.{Operand}
use Rattle.ec20.specs.declared.Place.{Place}
use Rattle.ec20.specs.declared.Rec.{Rec}
use Rattle.ec20.specs.declared.Role.{Role}
use Rattle.ec20.specs.declared.Row.{Row}
use Rattle.ec20.specs.Devices.{Device, kind_constant, kind_x, kind_y, kind_m, kind_sm, kind_t, kind_d, kind_label, limit_of}
use Rattle.ec20.specs.Numbers.{signed}
use Rattle.ec20.specs.Operands.{kind_is, plain, in_range, one_of, constant_of, constant_in, group_in, words_in, is_unused, is_bit_read, is_bit_written, is_source, is_target, allowed}
use Rattle.ec20.specs.Roles.{place, role_is, role_source, role_target, role_changed, role_quotient, unused, bit_read, bit_written, source, target, changed, quotient, timer, units, passes, label}
use Rattle.ec20.specs.Table.{table, row_of}
use Rattle.ec20.proofs.EachRow.{row-test}
use Rattle.ec20.proofs.Forms.{same_role}
use Rattle.ec20.proofs.Tests.{both, each, or_right, differ}
use Rattle.refusals.specs.Admits.{SixZeros, Whole, One, Group, Words, Labelled, StandsFor, as_it_is, less_2_to_32, Constant}
use Rattle.refusals.specs.Admits.{BitRead, bit_X, bit_Y, bit_M, bit_SM, bit_T, BitWritten, coil_Y, coil_M}
use Rattle.refusals.specs.Admits.{Source16, constant_16, group_16_X, group_16_Y, group_16_M, value_of_T, one_word}
use Rattle.refusals.specs.Admits.{Source32, constant_32, group_32_X, group_32_Y, group_32_M, pair, TargetOf, onto_Y, onto_M, onto_D}
use Rattle.refusals.specs.Admits.{Admits, at_unused, at_bit_read, at_bit_written, at_source_16, at_source_32, at_target_16, at_target_32}
use Rattle.refusals.specs.Admits.{at_changed_16, at_changed_32, at_quotient_16, at_quotient_32, at_timer, at_units, at_passes, at_label}
use Rattle.refusals.specs.Records.{OperandAt, first, second, third}

-- ---- extents

all_of : (a n c : ℕ) → a + n ≤ c → Whole a n c
all_of a n c h i l = omega arith

of-all : (a n c : ℕ) → 1 ≤ n → Whole a n c → a + n ≤ c
of-all a n c h w = let g : a + (n - 1) < c = w (n - 1) (omega arith) in omega arith

-- ---- each form of operand, as it is computed and in words

zeros : (o : Operand) → is_unused o ≡ true → SixZeros o
unfolding is_unused
zeros o e =
    let a = each (eqb o.kind 0) (eqb o.group 0) (eqb o.value 0) e in
    record { kind = eqb-true _ _ a.0; group = eqb-true _ _ a.1; value = eqb-true _ _ a.2 }

of-zeros : (o : Operand) → SixZeros o → is_unused o ≡ true
unfolding is_unused
of-zeros o z = ap₂ ◌&&◌ (ap₂ ◌&&◌ (eq-eqb _ _ z.kind) (eq-eqb _ _ z.group)) (eq-eqb _ _ z.value)

module _ (v : Device) (o : Operand) where
  -- the operand's own kind, for a kind that it has
  limited : (k n : ℕ) → o.kind ≡ k → n ≤ limit_of v o.kind → n ≤ limit_of v k
  limited k n e h = subst (λ (i : ℕ). n ≤ limit_of v i) e h

  one : (k : ℕ) → one_of v k o ≡ true → One k (limit_of v k) o
  unfolding one_of in_range
  one k e =
      let a = each (kind_is k o) (plain o) (leb (o.value + 1) (limit_of v o.kind)) e in
      let q : o.kind ≡ k = eqb-true _ _ a.0 in
      let h : o.value + 1 ≤ limit_of v k = limited k (o.value + 1) q (leb-true _ _ a.2) in
      record { kind = q; group = eqb-true _ _ a.1; inside = omega arith }

  of_one : (k : ℕ) → One k (limit_of v k) o → one_of v k o ≡ true
  unfolding one_of in_range
  of_one k z =
      let h : o.value + 1 ≤ limit_of v k = omega (arith, z.inside) in
      let g : o.value + 1 ≤ limit_of v o.kind = subst (λ (i : ℕ). o.value + 1 ≤ limit_of v i) (sym z.kind) h in
      ap₂ ◌&&◌ (ap₂ ◌&&◌ (eq-eqb _ _ z.kind) (eq-eqb _ _ z.group)) (le-leb _ _ g)

  group : (k most w : ℕ) → w ≤ 4 * most → kind_is k o ≡ true → group_in v w o ≡ true → Group k (limit_of v k) most o
  unfolding group_in in_range
  group k most w m d e =
      let a = each (leb 1 o.group) (leb (4 * o.group) w) (leb (o.value + 4 * o.group) (limit_of v o.kind)) e in
      let q : o.kind ≡ k = eqb-true _ _ d in
      let h : 4 * o.group ≤ w = leb-true _ _ a.1 in
      let l : o.value + 4 * o.group ≤ limit_of v k = limited k (o.value + 4 * o.group) q (leb-true _ _ a.2) in
      record { kind = q; from = leb-true _ _ a.0; to = omega arith; inside = all_of o.value (4 * o.group) (limit_of v k) l }

  of-group : (k most w : ℕ) → 4 * most ≤ w → Group k (limit_of v k) most o → group_in v w o ≡ true
  unfolding group_in in_range
  of-group k most w m z =
      let f : 1 ≤ o.group = z.from in
      let t : o.group ≤ most = z.to in
      let h : o.value + 4 * o.group ≤ limit_of v k = of-all o.value (4 * o.group) (limit_of v k) (omega arith) z.inside in
      let g : o.value + 4 * o.group ≤ limit_of v o.kind = subst (λ (i : ℕ). o.value + 4 * o.group ≤ limit_of v i) (sym z.kind) h in
      ap₂ ◌&&◌ (ap₂ ◌&&◌ (le-leb 1 o.group f) (le-leb (4 * o.group) w (omega arith))) (le-leb _ _ g)

  words : (n : ℕ) → words_in v n o ≡ true → Words v n o
  unfolding words_in in_range limit_of
  words n e =
      let a = each (kind_is kind_d o) (plain o) (leb (o.value + n) (limit_of v o.kind)) e in
      let q : o.kind ≡ kind_d = eqb-true _ _ a.0 in
      let h : o.value + n ≤ limit_of v kind_d = limited kind_d (o.value + n) q (leb-true _ _ a.2) in
      record { kind = q; group = eqb-true _ _ a.1; inside = all_of o.value n v.words h }

  of_words : (n : ℕ) → 1 ≤ n → Words v n o → words_in v n o ≡ true
  unfolding words_in in_range limit_of
  of_words n s z =
      let h : o.value + n ≤ limit_of v kind_d = of-all o.value n v.words s z.inside in
      let g : o.value + n ≤ limit_of v o.kind = subst (λ (i : ℕ). o.value + n ≤ limit_of v i) (sym z.kind) h in
      ap₂ ◌&&◌ (ap₂ ◌&&◌ (eq-eqb _ _ z.kind) (eq-eqb _ _ z.group)) (le-leb _ _ g)

-- ---- constants

holds : (b : Bool) → b ≡ true → T b
holds true e = tt
holds false e = differ (sym e)

of-holds : (b : Bool) → T b → b ≡ true
of-holds true t = refl
of-holds false t = absurd t

stands : (u : ℕ) → StandsFor u (signed (2 ^ 31) u)
unfolding signed
stands u = go (ltb u (2 ^ 31)) refl
  where
    go : (t : Bool) → ltb u (2 ^ 31) ≡ t → StandsFor u (pick t (pos u) (sub_ℕ u (2 ^ 31 + 2 ^ 31)))
    go true e = as_it_is (ltb-true u (2 ^ 31) e)
    go false e = less_2_to_32 (ltb-false u (2 ^ 31) e)

stood : {u : ℕ} {z : ℤ} → StandsFor u z → signed (2 ^ 31) u ≡ z
unfolding signed
stood {u} (as_it_is h) = rw (lt-ltb u (2 ^ 31) h) refl
stood {u} (less_2_to_32 h) = rw (le-ltb u (2 ^ 31) h) refl

constant : (a b : ℤ) (o : Operand) → constant_in a b o ≡ true → Constant a b o
unfolding constant_in
constant a b o e =
    let x = both (kind_is kind_constant o && plain o) (le_z a (constant_of o) && le_z (constant_of o) b) e in
    let y = both (kind_is kind_constant o) (plain o) x.0 in
    let z = both (le_z a (constant_of o)) (le_z (constant_of o) b) x.1 in
    record {
      kind = eqb-true _ _ y.0;
      group = eqb-true _ _ y.1;
      number = constant_of o;
      stands = stands o.value;
      from = record { le = holds _ z.0 };
      to = record { le = holds _ z.1 };
    }

of-constant : (a b : ℤ) (o : Operand) → Constant a b o → constant_in a b o ≡ true
unfolding constant_in
of-constant a b o z =
    let q : z.number ≡ constant_of o = sym (stood z.stands) in
    let h : (le_z a z.number && le_z z.number b) ≡ true = ap₂ ◌&&◌ (of-holds (le_z a z.number) z.from.le) (of-holds (le_z z.number b) z.to.le) in
    ap₂ ◌&&◌ (ap₂ ◌&&◌ (eq-eqb _ _ z.kind) (eq-eqb _ _ z.group)) (subst (λ (i : ℤ). (le_z a i && le_z i b) ≡ true) q h)

-- ---- sources and targets

-- one of two, as it is computed
or_else : {A : Type 0} (a b : Bool) → (a || b) ≡ true → (a ≡ true → A) → (b ≡ true → A) → A
or_else true b e f g = f refl
or_else false b e f g = g e

or_left : (a b : Bool) → a ≡ true → (a || b) ≡ true
or_left a b e = ap (λ (x : Bool). x || b) e

-- the first or the second of four
first_of : (a b c d : Bool) → a ≡ true → (a || b || c || d) ≡ true
first_of a b c d e = or_left (a || b || c) d (or_left (a || b) c (or_left a b e))

second-of : (a b c d : Bool) → b ≡ true → (a || b || c || d) ≡ true
second-of a b c d e = or_left (a || b || c) d (or_left (a || b) c (or_right a b e))

module _ (v : Device) (o : Operand) where
  bits : is_bit_read v o ≡ true → BitRead v o
  unfolding is_bit_read limit_of
  bits e =
      or_else _ (one_of v kind_t o) e
      (λ e. or_else _ (one_of v kind_sm o) e
      (λ e. or_else _ (one_of v kind_m o) e
      (λ e. or_else (one_of v kind_x o) (one_of v kind_y o) e (λ q. bit_X (one v o kind_x q))
      (λ q. bit_Y (one v o kind_y q)))
      (λ q. bit_M (one v o kind_m q)))
      (λ q. bit_SM (one v o kind_sm q)))
      (λ q. bit_T (one v o kind_t q))

  of-bits : BitRead v o → is_bit_read v o ≡ true
  unfolding is_bit_read limit_of
  of-bits (bit_X z) = rw (of_one v o kind_x z) refl
  of-bits (bit_Y z) = first_of (one_of v kind_x o || one_of v kind_y o) (one_of v kind_m o) (one_of v kind_sm o) (one_of v kind_t o) (or_right (one_of v kind_x o) _ (of_one v o kind_y z))
  of-bits (bit_M z) = second-of (one_of v kind_x o || one_of v kind_y o) (one_of v kind_m o) (one_of v kind_sm o) (one_of v kind_t o) (of_one v o kind_m z)
  of-bits (bit_SM z) =
      or_left _ (one_of v kind_t o) (or_right (one_of v kind_x o || one_of v kind_y o || one_of v kind_m o) (one_of v kind_sm o) (of_one v o kind_sm z))
  of-bits (bit_T z) = or_right (one_of v kind_x o || one_of v kind_y o || one_of v kind_m o || one_of v kind_sm o) (one_of v kind_t o) (of_one v o kind_t z)

  coils : is_bit_written v o ≡ true → BitWritten v o
  unfolding is_bit_written limit_of
  coils e = or_else (one_of v kind_y o) (one_of v kind_m o) e (λ q. coil_Y (one v o kind_y q)) (λ q. coil_M (one v o kind_m q))

  of-coils : BitWritten v o → is_bit_written v o ≡ true
  unfolding is_bit_written limit_of
  of-coils (coil_Y z) = or_left _ (one_of v kind_m o) (of_one v o kind_y z)
  of-coils (coil_M z) = or_right (one_of v kind_y o) _ (of_one v o kind_m z)

  labelled : one_of v kind_label o ≡ true → Labelled o
  unfolding limit_of
  labelled e = let z = one v o kind_label e in record { kind = z.kind; group = z.group; to = omega (arith, z.inside) }

  of-labelled : Labelled o → one_of v kind_label o ≡ true
  unfolding limit_of
  of-labelled z = of_one v o kind_label (record { kind = z.kind; group = z.group; inside = omega (arith, z.to) })

  -- a group of X, Y or M; of Y or M
  abbrev of-XYM : Bool
  of-XYM = kind_is kind_x o || kind_is kind_y o || kind_is kind_m o

  abbrev of-YM : Bool
  of-YM = kind_is kind_y o || kind_is kind_m o

  is-X : o.kind ≡ kind_x → of-XYM ≡ true
  is-X e = or_left _ (kind_is kind_m o) (or_left _ (kind_is kind_y o) (eq-eqb _ _ e))

  is-Y : o.kind ≡ kind_y → of-XYM ≡ true
  is-Y e = or_left _ (kind_is kind_m o) (or_right (kind_is kind_x o) _ (eq-eqb _ _ e))

  is-M : o.kind ≡ kind_m → of-XYM ≡ true
  is-M e = or_right (kind_is kind_x o || kind_is kind_y o) (kind_is kind_m o) (eq-eqb _ _ e)

  -- the ways of a source, computed
  abbrev number-16 : Bool
  number-16 = constant_in (neg_ℤ (pos 32768)) (pos 32767) o

  abbrev number-32 : Bool
  number-32 = constant_in (neg_ℤ (pos 2147483648)) (pos 2147483647) o

  abbrev grouped : ℕ → Bool
  grouped w = of-XYM && group_in v w o

  abbrev timed : Bool
  timed = one_of v kind_t o

  source-16 : is_source v (source 16) o ≡ true → Source16 v o
  unfolding is_source limit_of
  source-16 e =
      or_else (number-16 || grouped 16 || timed) (words_in v 1 o) e
      (λ e. or_else (number-16 || grouped 16) timed e
      (λ e. or_else number-16 (grouped 16) e
      (λ q. constant_16 (constant (neg_ℤ (pos 32768)) (pos 32767) o q))
      (λ q.
      let a = both of-XYM (group_in v 16 o) q in
      or_else _ (kind_is kind_m o) a.0
      (λ b. or_else (kind_is kind_x o) (kind_is kind_y o) b (λ c. group_16_X (group v o kind_x _ 16 (omega arith) c a.1))
      (λ c. group_16_Y (group v o kind_y _ 16 (omega arith) c a.1)))
      (λ c. group_16_M (group v o kind_m _ 16 (omega arith) c a.1))))
      (λ q. value_of_T (one v o kind_t q)))
      (λ q. one_word (words v o 1 q))

  source-32 : is_source v (source 32) o ≡ true → Source32 v o
  unfolding is_source limit_of
  source-32 e =
      or_else (number-32 || grouped 32 || false) (words_in v 2 o) e
      (λ e. or_else (number-32 || grouped 32) false e
      (λ e. or_else number-32 (grouped 32) e
      (λ q. constant_32 (constant (neg_ℤ (pos 2147483648)) (pos 2147483647) o q))
      (λ q.
      let a = both of-XYM (group_in v 32 o) q in
      or_else _ (kind_is kind_m o) a.0
      (λ b. or_else (kind_is kind_x o) (kind_is kind_y o) b (λ c. group_32_X (group v o kind_x _ 32 (omega arith) c a.1))
      (λ c. group_32_Y (group v o kind_y _ 32 (omega arith) c a.1)))
      (λ c. group_32_M (group v o kind_m _ 32 (omega arith) c a.1))))
      (λ q. differ (sym q)))
      (λ q. pair (words v o 2 q))

  of-source-16 : Source16 v o → is_source v (source 16) o ≡ true
  unfolding is_source limit_of
  of-source-16 (constant_16 z) = first_of number-16 (grouped 16) timed (words_in v 1 o) (of-constant (neg_ℤ (pos 32768)) (pos 32767) o z)
  of-source-16 (group_16_X z) = second-of number-16 (grouped 16) timed (words_in v 1 o) (ap₂ ◌&&◌ (is-X z.kind) (of-group v o kind_x _ 16 (omega arith) z))
  of-source-16 (group_16_Y z) = second-of number-16 (grouped 16) timed (words_in v 1 o) (ap₂ ◌&&◌ (is-Y z.kind) (of-group v o kind_y _ 16 (omega arith) z))
  of-source-16 (group_16_M z) = second-of number-16 (grouped 16) timed (words_in v 1 o) (ap₂ ◌&&◌ (is-M z.kind) (of-group v o kind_m _ 16 (omega arith) z))
  of-source-16 (value_of_T z) = or_left (number-16 || grouped 16 || timed) (words_in v 1 o) (or_right (number-16 || grouped 16) timed (of_one v o kind_t z))
  of-source-16 (one_word z) = or_right (number-16 || grouped 16 || timed) (words_in v 1 o) (of_words v o 1 (omega arith) z)

  of-source-32 : Source32 v o → is_source v (source 32) o ≡ true
  unfolding is_source limit_of
  of-source-32 (constant_32 z) = first_of number-32 (grouped 32) false (words_in v 2 o) (of-constant (neg_ℤ (pos 2147483648)) (pos 2147483647) o z)
  of-source-32 (group_32_X z) = second-of number-32 (grouped 32) false (words_in v 2 o) (ap₂ ◌&&◌ (is-X z.kind) (of-group v o kind_x _ 32 (omega arith) z))
  of-source-32 (group_32_Y z) = second-of number-32 (grouped 32) false (words_in v 2 o) (ap₂ ◌&&◌ (is-Y z.kind) (of-group v o kind_y _ 32 (omega arith) z))
  of-source-32 (group_32_M z) = second-of number-32 (grouped 32) false (words_in v 2 o) (ap₂ ◌&&◌ (is-M z.kind) (of-group v o kind_m _ 32 (omega arith) z))
  of-source-32 (pair z) = or_right (number-32 || grouped 32 || false) (words_in v 2 o) (of_words v o 2 (omega arith) z)

  -- a target of w bits and n words, whatever its role
  target-in : (r : Role) (w n most : ℕ) → w ≤ 4 * most → is_target v (place r w n) o ≡ true → TargetOf v most n o
  unfolding is_target limit_of
  target-in r w n most m e =
      or_else (of-YM && group_in v w o) (words_in v n o) e
      (λ q.
      let a = both of-YM (group_in v w o) q in
      or_else (kind_is kind_y o) (kind_is kind_m o) a.0 (λ c. onto_Y (group v o kind_y most w m c a.1))
      (λ c. onto_M (group v o kind_m most w m c a.1)))
      (λ q. onto_D (words v o n q))

  of-target : (r : Role) (w n most : ℕ) → 4 * most ≤ w → 1 ≤ n → TargetOf v most n o → is_target v (place r w n) o ≡ true
  unfolding is_target limit_of
  of-target r w n most m s (onto_Y z) =
      or_left (of-YM && group_in v w o) (words_in v n o) (ap₂ ◌&&◌ (or_left _ (kind_is kind_m o) (eq-eqb _ _ z.kind)) (of-group v o kind_y most w m z))
  of-target r w n most m s (onto_M z) =
      or_left (of-YM && group_in v w o) (words_in v n o) (ap₂ ◌&&◌ (or_right (kind_is kind_y o) _ (eq-eqb _ _ z.kind)) (of-group v o kind_m most w m z))
  of-target r w n most m s (onto_D z) = or_right (of-YM && group_in v w o) (words_in v n o) (of_words v o n s z)

  -- ---- what is computed at each role

  by-unused : allowed v unused o ≡ is_unused o
  unfolding allowed
  by-unused = simp or-false

  by-bit-read : allowed v bit_read o ≡ is_bit_read v o
  unfolding allowed
  by-bit-read = simp or-false

  by-bit-written : allowed v bit_written o ≡ is_bit_written v o
  unfolding allowed
  by-bit-written = simp or-false

  by-source : (w n : ℕ) → allowed v (place role_source w n) o ≡ is_source v (place role_source w n) o
  unfolding allowed
  by-source w n = simp or-false

  by-target : (w n : ℕ) → allowed v (place role_target w n) o ≡ is_target v (place role_target w n) o
  unfolding allowed
  by-target w n = simp or-false

  by-changed : (w n : ℕ) → allowed v (place role_changed w n) o ≡ is_target v (place role_changed w n) o
  unfolding allowed
  by-changed w n = simp or-false

  by-quotient : (w n : ℕ) → allowed v (place role_quotient w n) o ≡ words_in v n o
  unfolding allowed
  by-quotient w n = simp or-false

  by-timer : allowed v timer o ≡ one_of v kind_t o
  unfolding allowed
  by-timer = simp or-false

  by_units : allowed v units o ≡ constant_in (pos 1) (pos 32767) o
  unfolding allowed
  by_units = simp or-false

  by-passes : allowed v passes o ≡ constant_in (pos 0) (pos 32767) o
  unfolding allowed
  by-passes = simp or-false

  by-label : allowed v label o ≡ one_of v kind_label o
  unfolding allowed
  by-label = refl

  -- what is admitted is allowed
  there : {p q : Place} → p ≡ q → allowed v q o ≡ true → allowed v p o ≡ true
  there e h = ap (λ (x : Place). allowed v x o) e ∙ h

  pub admitted : {p : Place} → Admits v p o → allowed v p o ≡ true
  unfolding limit_of
  admitted (at_unused e z) = there e (by-unused ∙ of-zeros o z)
  admitted (at_bit_read e z) = there e (by-bit-read ∙ of-bits z)
  admitted (at_bit_written e z) = there e (by-bit-written ∙ of-coils z)
  admitted (at_source_16 e z) = there e (by-source 16 1 ∙ of-source-16 z)
  admitted (at_source_32 e z) = there e (by-source 32 2 ∙ of-source-32 z)
  admitted (at_target_16 e z) = there e (by-target 16 1 ∙ of-target role_target 16 1 _ (omega arith) (omega arith) z)
  admitted (at_target_32 e z) = there e (by-target 32 2 ∙ of-target role_target 32 2 _ (omega arith) (omega arith) z)
  admitted (at_changed_16 e z) = there e (by-changed 16 1 ∙ of-target role_changed 16 1 _ (omega arith) (omega arith) z)
  admitted (at_changed_32 e z) = there e (by-changed 32 2 ∙ of-target role_changed 32 2 _ (omega arith) (omega arith) z)
  admitted (at_quotient_16 e z) = there e (by-quotient 16 2 ∙ of_words v o 2 (omega arith) z)
  admitted (at_quotient_32 e z) = there e (by-quotient 32 4 ∙ of_words v o 4 (omega arith) z)
  admitted (at_timer e z) = there e (by-timer ∙ of_one v o kind_t z)
  admitted (at_units e z) = there e (by_units ∙ of-constant (pos 1) (pos 32767) o z)
  admitted (at_passes e z) = there e (by-passes ∙ of-constant (pos 0) (pos 32767) o z)
  admitted (at_label e z) = there e (by-label ∙ of-labelled z)

-- ---- the places of the table

unfoldable same : Place → Place → Bool
same p q = role_is q.role p && eqb p.width q.width && eqb p.extent q.extent

same_place : (p q : Place) → same p q ≡ true → p ≡ q
unfolding same
same_place p q e =
    let a = each (role_is q.role p) (eqb p.width q.width) (eqb p.extent q.extent) e in
    let x : p.role ≡ q.role = same_role _ _ (eqb-true _ _ a.0) in
    let y : p.width ≡ q.width = eqb-true _ _ a.1 in
    let z : p.extent ≡ q.extent = eqb-true _ _ a.2 in
    λ i. record { role = x i; width = y i; extent = z i }

unfoldable one_of_lem : List Place → Place → Bool
one_of_lem [] p = false
one_of_lem (q ∷ l) p = same p q || one_of_lem l p

abbrev Each : (Place → Type 0) → List Place → Type 0
Each P [] = Unit {0}
Each P (q ∷ l) = P q × Each P l

each_of : (P : Place → Type 0) (l : List Place) → Each P l → (p : Place) → one_of_lem l p ≡ true → P p
unfolding one_of_lem
each_of P [] a p e = differ (sym e)
each_of P (q ∷ l) a p e = or_else (same p q) (one_of_lem l p) e (λ h. subst P (sym (same_place p q h)) a.0) (λ h. each_of P l a.1 p h)

abbrev places : List Place
places =
    unused ∷ bit_read ∷ bit_written ∷ source 16 ∷ source 32 ∷ target 16 ∷ target 32 ∷ changed 16 ∷ changed 32 ∷ quotient 16 ∷ quotient 32 ∷ timer
    ∷ units ∷ passes ∷ label ∷ []

-- what holds of each of them
by-places : (P : Place → Type 0) → P unused → P bit_read → P bit_written → P (source 16) → P (source 32) → P (target 16) → P (target 32)
    → P (changed 16) → P (changed 32) → P (quotient 16) → P (quotient 32) → P timer → P units → P passes → P label → (p : Place)
    → one_of_lem places p ≡ true → P p
by-places P a b c d e f g h i j k l m n o =
    each_of P places (a, (b, (c, (d, (e, (f, (g, (h, (i, (j, (k, (l, (m, (n, (o, tt)))))))))))))))

-- each place of each row is one of them
known : (n : ℕ) → (one_of_lem places (row_of n).first && one_of_lem places (row_of n).second && one_of_lem places (row_of n).third) ≡ true
unfolding table one_of_lem same
known n = row-test (λ n w. one_of_lem places w.first && one_of_lem places w.second && one_of_lem places w.third) (λ n. refl) refl n

known_at : {r : Rec} {p : Place} {o : Operand} → OperandAt r p o → one_of_lem places p ≡ true
known_at {r} x = go x (each (one_of_lem places w.first) (one_of_lem places w.second) (one_of_lem places w.third) (known r.number))
  where
    w : Row
    w = row_of r.number

    go : {p : Place} {o : Operand} → OperandAt r p o
        → (one_of_lem places w.first ≡ true) × (one_of_lem places w.second ≡ true) × (one_of_lem places w.third ≡ true)
        → one_of_lem places p ≡ true
    go first z = z.0
    go second z = z.1
    go third z = z.2

-- what is allowed there is admitted
module _ (v : Device) (o : Operand) where
  abbrev Said : Place → Type 0
  Said p = allowed v p o ≡ true → Admits v p o

  said : (p : Place) → one_of_lem places p ≡ true → Said p
  unfolding limit_of
  said =
      by-places Said (λ h. at_unused refl (zeros o (sym (by-unused v o) ∙ h)))
      (λ h. at_bit_read refl (bits v o (sym (by-bit-read v o) ∙ h)))
      (λ h. at_bit_written refl (coils v o (sym (by-bit-written v o) ∙ h)))
      (λ h. at_source_16 refl (source-16 v o (sym (by-source v o 16 1) ∙ h)))
      (λ h. at_source_32 refl (source-32 v o (sym (by-source v o 32 2) ∙ h)))
      (λ h. at_target_16 refl (target-in v o role_target 16 1 _ (omega arith) (sym (by-target v o 16 1) ∙ h)))
      (λ h. at_target_32 refl (target-in v o role_target 32 2 _ (omega arith) (sym (by-target v o 32 2) ∙ h)))
      (λ h. at_changed_16 refl (target-in v o role_changed 16 1 _ (omega arith) (sym (by-changed v o 16 1) ∙ h)))
      (λ h. at_changed_32 refl (target-in v o role_changed 32 2 _ (omega arith) (sym (by-changed v o 32 2) ∙ h)))
      (λ h. at_quotient_16 refl (words v o 2 (sym (by-quotient v o 16 2) ∙ h)))
      (λ h. at_quotient_32 refl (words v o 4 (sym (by-quotient v o 32 4) ∙ h)))
      (λ h. at_timer refl (one v o kind_t (sym (by-timer v o) ∙ h)))
      (λ h. at_units refl (constant (pos 1) (pos 32767) o (sym (by_units v o) ∙ h)))
      (λ h. at_passes refl (constant (pos 0) (pos 32767) o (sym (by-passes v o) ∙ h)))
      (λ h. at_label refl (labelled v o (sym (by-label v o) ∙ h)))

-- 3, OF AN OPERAND: what the check allows at a place of the table is what the scope's sentences admit there
pub admits : (v : Device) {r : Rec} {p : Place} {o : Operand} → OperandAt r p o → (allowed v p o ≡ true) ↔ Admits v p o
admits v {p = p} {o = o} x = (said v o p (known_at x), admitted v o)

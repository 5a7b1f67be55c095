-- A step of an accepted program: flow and stacks stay as the rung rule has them in record order. Jumps and loops land where flow is absent and both
-- stacks are empty: after a FOR, after a NEXT, or at an LBL, which needs no flow.
use Prim.Native.Nat.{ℕ, ◌+◌, ◌-◌, ◌<◌}
use mathlib.Core.Bool.{Bool, true, false}
use mathlib.Core.List.{List}
use mathlib.Core.Path.{◌≡◌, refl, sym, ap, subst, ◌∙◌}
use native.Mathlib.Omega.{arith}
use native.Mathlib.Numerals.{add-one}
use native.Mathlib.Decide.{ℕ_discrete}
use lib.Dec.{eqb, ltb}
use lib.ListN.{get_or, set}
use lib.Seq.{get_or-set_same, get_or-set_other}
use borrow.Author.Tests.{eqb-true, ltb-true}
use Rattle.ec20.proofs.Tests.{both, picked}
use Rattle.ec20.specs.declared.Control.TheVariants.{Closes}
use Rattle.ec20.specs.declared.Units.{Units}
use Rattle.ec20.specs.declared.Instr.{Instr}
use Rattle.ec20.specs.declared.Instr.TheVariants.{Nop, Contact, Compare, Join, Branch, Coil, Timer, For, Next, Jump, Label, End, Word}
use Rattle.ec20.specs.declared.Machine.{Machine}
use Rattle.ec20.specs.declared.Operand.{Operand}
use Rattle.ec20.specs.declared.Outcome.{Outcome}
use Rattle.ec20.specs.declared.Rung.{Rung}
use Rattle.ec20.specs.Code.{Program}
use Rattle.ec20.specs.Control.{control_of, controls_of, marks, next_of_for, first_label, or_past}
use Rattle.ec20.specs.Flow.{is_on, acted, failed, gone}
use Rattle.ec20.specs.Rung.{start_rung, both_empty, keeps, after_action, after_record}
use Rattle.ec20.specs.Step.{World, going, for_of, close_of, jump_of, outcome_of, settle, word_of, exec_of, step_of}
use Rattle.bound.specs.Safe.{Enters, Lands, Due, Safe}
use Rattle.bound.proofs.Onward.{Ahead, ahead, acted-on, contact-on, compare-on, join-on, branch-on, word_on}
use Rattle.refusals.specs.Rung.{rung_at}
use Rattle.demands.specs.Total.{Empty, Holds, Needs, Powered}
use Rattle.demands.proofs.Power.{Flow, Follows, Fresh, fresh-follows, empty-both, is-empty, needed, contact-follows, compare-follows, join-follows, branch_follows}
use Rattle.demands.proofs.Stacks.{none-holds}

-- ---- actions

-- from the state s to the state t by an action
record Acted (s t : Machine) : Type 0 where
  pub flow : t.flow ≡ s.flow
  pub action : t.action ≡ 1
  pub blocks : t.blocks ≡ s.blocks
  pub branches : t.branches ≡ s.branches

is-acted : (s : Machine) → Acted s (acted s)
is-acted s = record { flow = refl; action = refl; blocks = refl; branches = refl }

is-failed : (s : Machine) (e : ℕ) → Acted s (failed s e)
unfolding failed
is-failed s e = picked (Acted s) (eqb s.error 0) _ _ (λ _. record { flow = refl; action = refl; blocks = refl; branches = refl }) (λ _. is-acted s)

is-settled : (n : ℕ) (t : Operand) (r : Outcome) (w : World) → Acted w.st (settle n t r w).st
unfolding settle
is-settled n t r w = picked (λ (u : World). Acted w.st u.st) (eqb r.error 0) _ _ (λ _. is-acted w.st) (λ _. is-failed w.st r.error)

is_word : (n : ℕ) (a b t : Operand) (w : World) → Acted w.st (word_of n a b t w).st
unfolding word_of
is_word n a b t w =
    picked (λ (u : World). Acted w.st u.st) (is_on w.st) _ _ (λ _. is-settled n t (outcome_of n a b w.mem) w) (λ _. is-acted w.st)

action-follows : (g : Rung) (s t : Machine) → Follows g s → Acted s t → Follows (after_action g) t
action-follows g s t f a = record {
  flow = subst (Flow g.present) (sym a.flow) f.flow;
  action = a.action;
  blocks = subst (Holds g.blocks) (sym a.blocks) f.blocks;
  branches = subst (Holds g.branches) (sym a.branches) f.branches;
}

-- ---- 19 to 22

abbrev Clears : Instr → Type 0
Clears Nop = ⊥
Clears (Contact n o) = ⊥
Clears (Compare n a b) = ⊥
Clears (Join n) = ⊥
Clears (Branch n) = ⊥
Clears (Coil n o) = ⊥
Clears (Timer i c) = ⊥
Clears (For c) = Unit {0}
Clears Next = Unit {0}
Clears (Jump l) = Unit {0}
Clears (Label l) = Unit {0}
Clears End = ⊥
Clears (Word n a b t) = ⊥

emptied : (i : Instr) (g : Rung) → Clears i → keeps i g ≡ true → both_empty g ≡ true
unfolding keeps
emptied Nop g x e = absurd x
emptied (Contact n o) g x e = absurd x
emptied (Compare n a b) g x e = absurd x
emptied (Join n) g x e = absurd x
emptied (Branch n) g x e = absurd x
emptied (Coil n o) g x e = absurd x
emptied (Timer i c) g x e = absurd x
emptied (For c) g x e = e
emptied Next g x e = e
emptied (Jump l) g x e = (both g.present (both_empty g) e).1
emptied (Label l) g x e = e
emptied End g x e = absurd x
emptied (Word n a b t) g x e = absurd x

cleared : (i : Instr) (g : Rung) → Clears i → both_empty g ≡ true → after_record i g ≡ start_rung
unfolding after_record
cleared Nop g x e = absurd x
cleared (Contact n o) g x e = absurd x
cleared (Compare n a b) g x e = absurd x
cleared (Join n) g x e = absurd x
cleared (Branch n) g x e = absurd x
cleared (Coil n o) g x e = absurd x
cleared (Timer i c) g x e = absurd x
cleared (For c) g x e = let q = empty-both g e in rw (q.0, q.1)
cleared Next g x e = let q = empty-both g e in rw (q.0, q.1)
cleared (Jump l) g x e = let q = empty-both g e in rw (q.0, q.1)
cleared (Label l) g x e = let q = empty-both g e in rw (q.0, q.1)
cleared End g x e = absurd x
cleared (Word n a b t) g x e = absurd x

-- what closes a loop is NEXT, what marks a label LBL
closes-next : (i : Instr) → control_of i ≡ Closes → i ≡ Next
unfolding control_of
closes-next Nop e = let z : ◌≡◌ {A = ℕ} 0 1 = cc in absurd (omega arith)
closes-next (Contact n o) e = let z : ◌≡◌ {A = ℕ} 0 1 = cc in absurd (omega arith)
closes-next (Compare n a b) e = let z : ◌≡◌ {A = ℕ} 0 1 = cc in absurd (omega arith)
closes-next (Join n) e = let z : ◌≡◌ {A = ℕ} 0 1 = cc in absurd (omega arith)
closes-next (Branch n) e = let z : ◌≡◌ {A = ℕ} 0 1 = cc in absurd (omega arith)
closes-next (Coil n o) e = let z : ◌≡◌ {A = ℕ} 0 1 = cc in absurd (omega arith)
closes-next (Timer i c) e = let z : ◌≡◌ {A = ℕ} 0 1 = cc in absurd (omega arith)
closes-next (For c) e = let z : ◌≡◌ {A = ℕ} 0 1 = cc in absurd (omega arith)
closes-next Next e = refl
closes-next (Jump l) e = let z : ◌≡◌ {A = ℕ} 0 1 = cc in absurd (omega arith)
closes-next (Label l) e = let z : ◌≡◌ {A = ℕ} 0 1 = cc in absurd (omega arith)
closes-next End e = let z : ◌≡◌ {A = ℕ} 0 1 = cc in absurd (omega arith)
closes-next (Word n a b t) e = let z : ◌≡◌ {A = ℕ} 0 1 = cc in absurd (omega arith)

no-mark : {A : Type 0} → ◌≡◌ {A = Bool} false true → A
no-mark e = let z : ◌≡◌ {A = ℕ} 0 1 = cc in absurd (omega arith)

marks-label : (l : ℕ) (i : Instr) → marks l (control_of i) ≡ true → i ≡ Label l
unfolding control_of marks
marks-label l Nop e = no-mark e
marks-label l (Contact n o) e = no-mark e
marks-label l (Compare n a b) e = no-mark e
marks-label l (Join n) e = no-mark e
marks-label l (Branch n) e = no-mark e
marks-label l (Coil n o) e = no-mark e
marks-label l (Timer i c) e = no-mark e
marks-label l (For c) e = no-mark e
marks-label l Next e = no-mark e
marks-label l (Jump m) e = no-mark e
marks-label l (Label m) e = ap Label (eqb-true _ _ e)
marks-label l End e = no-mark e
marks-label l (Word n a b t) e = no-mark e

-- ---- a program of which every record keeps the rule

module _ (p : Program) (kept : (k : ℕ) → k < p.count → keeps (p.code k) (rung_at p k) ≡ true) where
  rung-next : (k : ℕ) → rung_at p (k + 1) ≡ after_record (p.code k) (rung_at p k)
  unfolding rung_at
  rung-next k = rw (add-one k)

  -- after 19 to 22 the rung state is that of the start
  start-after : (k : ℕ) (i : Instr) → k < p.count → p.code k ≡ i → Clears i → rung_at p (k + 1) ≡ start_rung
  start-after k i h e x =
      rung-next k ∙ cleared (p.code k) (rung_at p k) (subst Clears (sym e) x) (emptied (p.code k) (rung_at p k) (subst Clears (sym e) x) (kept k h))

  -- the machine stands as record order has it, or at an LBL that was jumped to
  pub data Stand (s : Machine) : Type 0 where
    in_order : Follows (rung_at p s.pc) s → Stand s
    jumped : (l : ℕ) → p.code s.pc ≡ Label l → Fresh s → Stand s

  -- where a loop's NEXT goes back to: the record after a FOR
  pub record Back (n : ℕ) : Type 0 where
    pub at : ℕ
    pub after : n ≡ at + 1
    pub inside : at < p.count
    pub passes : ℕ
    pub is-for : p.code at ≡ For passes

  pub record Going (w : World) : Type 0 where
    pub stand : Stand w.st
    pub backs : (i : ℕ) → i < w.st.depth → Back (get_or w.loops.back i 0)

  -- so it has what the record due needs
  pub powered : (s : Machine) → s.pc < p.count → Stand s → Powered p s
  powered s h (in_order f) =
      record { blocks = f.blocks; branches = f.branches; needs = needed (rung_at p s.pc) s f (p.code s.pc) (kept s.pc h) }
  powered s h (jumped l e f) =
      let x : Clears (p.code s.pc) = subst Clears (sym e) tt in
      let q = empty-both (rung_at p s.pc) (emptied (p.code s.pc) (rung_at p s.pc) x (kept s.pc h)) in
      record {
        blocks = rw (q.0, f.blocks) none-holds;
        branches = rw (q.1, f.branches) none-holds;
        needs = subst (Needs (rung_at p s.pc) s) (sym e) (record { blocks = f.blocks; branches = f.branches });
      }

  -- on to the next record
  on : (w u : World) (i : Instr) → p.code w.st.pc ≡ i → Ahead w u → Follows (after_record i (rung_at p w.st.pc)) u.st → Going w → Going u
  on w u i e a f h =
      let k : rung_at p u.st.pc ≡ after_record i (rung_at p w.st.pc) =
      ap (rung_at p) a.st.pc ∙ rung-next w.st.pc ∙ ap (λ (j : Instr). after_record j (rung_at p w.st.pc)) e in
      record {
        stand = in_order (subst (λ (g : Rung). Follows g u.st) (sym k) f);
        backs = λ j l. subst (λ (b : List ℕ). Back (get_or b j 0)) (sym a.back) (h.backs j (subst (λ (d : ℕ). j < d) a.st.depth l));
      }

  -- to a record before which the rung state is that of the start
  fresh : (s : Machine) (k d : ℕ) → Empty s → Fresh (gone s k d)
  fresh s k d x = record { flow = refl; action = refl; blocks = x.blocks; branches = x.branches }

  land : (s : Machine) (k d : ℕ) → Empty s → rung_at p k ≡ start_rung → Stand (gone s k d)
  land s k d x e = in_order (subst (λ (g : Rung). Follows g (gone s k d)) (sym e) (fresh-follows (gone s k d) (fresh s k d x)))

  module _ (w : World) (safe : Safe p w) (h : Going w) where
    abbrev s : Machine
    s = w.st

    abbrev g : Rung
    g = rung_at p s.pc

    rule : {i : Instr} → p.code s.pc ≡ i → keeps i g ≡ true
    rule {i} e = subst (λ (j : Instr). keeps j g ≡ true) e (kept s.pc safe.inside)

    due : {i : Instr} → p.code s.pc ≡ i → Due (controls_of p) p.count s.pc s.depth (control_of i)
    due e = subst (λ (j : Instr). Due (controls_of p) p.count s.pc s.depth (control_of j)) e safe.due

    next : {i : Instr} → p.code s.pc ≡ i → Clears i → rung_at p (s.pc + 1) ≡ start_rung
    next {i} e x = start-after s.pc i safe.inside e x

    pub after_for : (c : ℕ) → p.code s.pc ≡ For c → Empty s → Going (for_of p c w)
    unfolding for_of control_of
    after_for c e x =
        picked Going (eqb c 0) _ _
        (λ _. record { stand = past; backs = h.backs })
        (λ _. picked Going (ltb s.depth 8) _ _
        (λ q. record { stand = land s (s.pc + 1) (s.depth + 1) x (next e tt); backs = more (ltb-true _ _ q) })
        (λ _. record { stand = land s (s.pc + 1) s.depth x (next e tt); backs = h.backs }))
      where
        u : Enters (controls_of p) p.count s.pc s.depth
        u = due e

        past : Stand (gone s (or_past p.count (next_of_for (controls_of p) p.count s.pc) + 1) s.depth)
        past =
            rw u.found
            (land s (u.next + 1) s.depth x
            (start-after u.next Next (omega (arith, u.inside)) (closes-next (p.code u.next) u.closing) tt))

        more : s.depth < 8 → (i : ℕ) → i < s.depth + 1 → Back (get_or (set w.loops.back s.depth (s.pc + 1)) i 0)
        more r i l =
            elim (ℕ_discrete i s.depth) [
              | yes z ↦
                  rw (z, get_or-set_same w.loops.back s.depth (s.pc + 1) 0 (omega (arith, safe.places, r)))
                  (record { at = s.pc; after = refl; inside = safe.inside; passes = c; is-for = e })
              | no z ↦ rw (get_or-set_other w.loops.back s.depth i (s.pc + 1) 0 z) (h.backs i (omega arith))
            ]

    pub after_next : p.code s.pc ≡ Next → Empty s → Going (close_of w)
    unfolding close_of control_of
    after_next e x =
        picked Going (ltb 1 (get_or w.loops.left (s.depth - 1) 0)) _ _
        (λ _. record { stand = again; backs = h.backs })
        (λ _. record { stand = land s (s.pc + 1) (s.depth - 1) x (next e tt); backs = λ i l. h.backs i (omega arith) })
      where
        some : 0 < s.depth
        some = due e

        r : Back (get_or w.loops.back (s.depth - 1) 0)
        r = h.backs (s.depth - 1) (omega (arith, some))

        again : Stand (gone s (get_or w.loops.back (s.depth - 1) 0) s.depth)
        again = land s (get_or w.loops.back (s.depth - 1) 0) s.depth x (ap (rung_at p) r.after ∙ start-after r.at (For r.passes) r.inside r.is-for tt)

    pub after_jump : (l : ℕ) → p.code s.pc ≡ Jump l → Empty s → Going (going w w.mem (jump_of p l s))
    unfolding jump_of control_of
    after_jump l e x =
        picked (λ (k : ℕ). Going (going w w.mem (gone s k s.depth))) (is_on s) _ _
        (λ _. record { stand = lands; backs = h.backs })
        (λ _. record { stand = land s (s.pc + 1) s.depth x (next e tt); backs = h.backs })
      where
        u : Lands (controls_of p) p.count s.pc l
        u = due e

        lands : Stand (gone s (or_past p.count (first_label (controls_of p) p.count l)) s.depth)
        lands = rw u.stands.first (jumped l (marks-label l (p.code u.to) u.marked) (fresh s u.to s.depth x))

    after_label : (l : ℕ) → p.code s.pc ≡ Label l → Empty s → Going (going w w.mem (gone s (s.pc + 1) s.depth))
    after_label l e x = record { stand = land s (s.pc + 1) s.depth x (next e tt); backs = h.backs }

    -- in record order
    ordered : (u : Units) (i : Instr) → p.code s.pc ≡ i → Follows g s → (exec_of p u i w).st.ended ≡ 0 → Going (exec_of p u i w)
    unfolding exec_of keeps after_record
    ordered u Nop q f z =
        on w _ Nop q (ahead w _ _ (record { pc = refl; depth = refl; ended = refl }))
        (record { flow = f.flow; action = f.action; blocks = f.blocks; branches = f.branches }) h
    ordered u (Contact n o) q f z = on w _ (Contact n o) q (ahead w _ _ (contact-on n _ s)) (contact-follows g s f n _ (rule q)) h
    ordered u (Compare n a b) q f z = on w _ (Compare n a b) q (ahead w _ _ (compare-on n _ _ s)) (compare-follows g s f n _ _ (rule q)) h
    ordered u (Join n) q f z = on w _ (Join n) q (ahead w _ _ (join-on n s)) (join-follows g s f n (rule q)) h
    ordered u (Branch n) q f z = on w _ (Branch n) q (ahead w _ _ (branch-on n s)) (branch_follows g s f n (rule q)) h
    ordered u (Coil n o) q f z = on w _ (Coil n o) q (ahead w _ _ (acted-on s)) (action-follows g s (acted s) f (is-acted s)) h
    ordered u (Timer i c) q f z = on w _ (Timer i c) q (ahead w _ _ (acted-on s)) (action-follows g s (acted s) f (is-acted s)) h
    ordered u (For c) q f z = after_for c q (is-empty g s f (rule q))
    ordered u Next q f z = after_next q (is-empty g s f (rule q))
    ordered u (Jump l) q f z = after_jump l q (is-empty g s f (both g.present (both_empty g) (rule q)).1)
    ordered u (Label l) q f z = after_label l q (is-empty g s f (rule q))
    ordered u End q f z = absurd (omega (arith, z))
    ordered u (Word n a b t) q f z = on w _ (Word n a b t) q (word_on n a b t w) (action-follows g s _ f (is_word n a b t w)) h

    -- THE STEP: if the scan goes on, it stands so again
    pub step-going : (u : Units) → (step_of p u w).st.ended ≡ 0 → Going (step_of p u w)
    unfolding step_of exec_of
    step-going u z = go h.stand
      where
        go : Stand s → Going (exec_of p u (p.code s.pc) w)
        go (in_order f) = ordered u (p.code s.pc) refl f z
        go (jumped l q f) =
            subst (λ (i : Instr). Going (exec_of p u i w)) (sym q) (after_label l q (record { blocks = f.blocks; branches = f.branches }))

-- Flow and stacks of the machine go as the rung rule's go, where the rule is kept.
use Prim.Native.Nat.{ℕ, ◌+◌, ◌-◌}
use mathlib.Core.Bool.{Bool, true, false, not, ◌&&◌, ◌||◌}
use mathlib.Core.Logic.{◌⊎◌, inl, inr}
use mathlib.Core.Path.{◌≡◌, refl, sym, subst, ◌∙◌}
use native.Mathlib.Omega.{arith}
use lib.Dec.{eqb, ltb}
use lib.IntN.{ℤ}
use borrow.Author.Tests.{eqb-true, ltb-true}
use Rattle.ec20.proofs.Tests.{both}
use Rattle.ec20.specs.declared.Instr.{Instr}
use Rattle.ec20.specs.declared.Instr.TheVariants.{Nop, Contact, Compare, Join, Branch, Coil, Timer, For, Next, Jump, Label, End, Word}
use Rattle.ec20.specs.declared.Machine.{Machine}
use Rattle.ec20.specs.declared.Rung.{Rung}
use Rattle.ec20.specs.Basics.{pick, one_if}
use Rattle.ec20.specs.Flow.{flow_of, is_on, push, top, pop, flowed, starts_now, loaded, contact_of, compare_of, join_of, branch_of}
use Rattle.ec20.specs.Rung.{rung, start_rung, is_load, starts, blocks_empty, both_empty, load_ok, action_ok, branch_ok, keeps, after_load, branches_after}
use Rattle.demands.specs.Total.{Present, Empty, Holds, Loads, Acts, Needs}
use Rattle.demands.proofs.Stacks.{holds-none, none-holds, holds-room, holds-push, holds-pop}

-- absent is 0; present is off or on
abbrev pub Flow : Bool → ℕ → Type 0
Flow true f = (f ≡ 1) ⊎ (f ≡ 2)
Flow false f = f ≡ 0

-- the machine's flow and stacks are those of the rung state g
pub record Follows (g : Rung) (s : Machine) : Type 0 where
  pub flow : Flow g.present s.flow
  pub action : s.action ≡ one_if g.action
  pub blocks : Holds g.blocks s.blocks
  pub branches : Holds g.branches s.branches

-- flow absent, both stacks empty
pub record Fresh (s : Machine) : Type 0 where
  pub flow : s.flow ≡ 0
  pub action : s.action ≡ 0
  pub blocks : s.blocks ≡ 0
  pub branches : s.branches ≡ 0

pub fresh-follows : (s : Machine) → Fresh s → Follows start_rung s
fresh-follows s f = record {
  flow = f.flow;
  action = f.action;
  blocks = subst (Holds 0) (sym f.blocks) none-holds;
  branches = subst (Holds 0) (sym f.branches) none-holds;
}

-- what a contact takes: LDI, ANI and ORI the bit's opposite
abbrev taken : ℕ → Bool → Bool
taken n bit = pick (eqb n 2 || eqb n 4 || eqb n 6) (not bit) bit

present-flow : (b : Bool) → Flow true (flow_of b)
present-flow true = inr refl
present-flow false = inl refl

-- ---- what the rule says

module _ (g : Rung) where
  pub empty-both : both_empty g ≡ true → (g.blocks ≡ 0) × (g.branches ≡ 0)
  empty-both e = let q = both (blocks_empty g) (eqb g.branches 0) e in (eqb-true _ _ q.0, eqb-true _ _ q.1)

  pub acting : action_ok g ≡ true → (g.present ≡ true) × (g.blocks ≡ 0)
  unfolding action_ok
  acting e = let q = both g.present (blocks_empty g) e in (q.0, eqb-true _ _ q.1)

module _ (g : Rung) (s : Machine) (h : Follows g s) where
  pub is-present : g.present ≡ true → Present s
  is-present e z = go (subst (λ (t : Bool). Flow t s.flow) e h.flow)
    where
      go : Flow true s.flow → ⊥
      go (inl q) = omega (arith, q, z)
      go (inr q) = omega (arith, q, z)

  pub no_blocks : g.blocks ≡ 0 → s.blocks ≡ 0
  no_blocks e = holds-none s.blocks (subst (λ (n : ℕ). Holds n s.blocks) e h.blocks)

  pub no-branches : g.branches ≡ 0 → s.branches ≡ 0
  no-branches e = holds-none s.branches (subst (λ (n : ℕ). Holds n s.branches) e h.branches)

  pub is-empty : both_empty g ≡ true → Empty s
  is-empty e = let q = empty-both g e in record { blocks = no_blocks q.0; branches = no-branches q.1 }

  is-acting : action_ok g ≡ true → Acts s
  is-acting e = let q = acting g e in record { flow = is-present q.0; blocks = no_blocks q.1 }

  -- an LDType starts a rung where the rule says so
  same_start : starts_now s ≡ starts g
  unfolding starts_now
  same_start = go g.present g.action h.flow h.action
    where
      go : (t a : Bool) → Flow t s.flow → s.action ≡ one_if a → (eqb s.flow 0 || eqb s.action 1) ≡ (not t || a)
      go true true (inl q) z = rw (q, z)
      go true true (inr q) z = rw (q, z)
      go true false (inl q) z = rw (q, z)
      go true false (inr q) z = rw (q, z)
      go false a q z = rw q

  loading : load_ok g ≡ true → Loads s
  unfolding load_ok
  loading e = record {
    starting = λ z. is-empty (subst (λ (t : Bool). pick t (both_empty g) (ltb g.blocks 8) ≡ true) (sym same_start ∙ z) e);
    pushing = λ z.
        let q = subst (λ (t : Bool). pick t (both_empty g) (ltb g.blocks 8) ≡ true) (sym same_start ∙ z) e in
        holds-room g.blocks s.blocks (ltb-true _ _ q) h.blocks;
  }

  -- THE RULE KEPT: what the record needs is there
  pub needed : (i : Instr) → keeps i g ≡ true → Needs g s i
  unfolding keeps branch_ok
  needed Nop e = tt
  needed (Contact n o) e = (
    λ z. loading (subst (λ (t : Bool). pick t (load_ok g) g.present ≡ true) z e),
    λ z. is-present (subst (λ (t : Bool). pick t (load_ok g) g.present ≡ true) z e),
  )
  needed (Compare n a b) e = loading e
  needed (Join n) e = let q = both g.present (ltb 0 g.blocks) e in (is-present q.0, ltb-true _ _ q.1)
  needed (Branch n) e =
      let q = both (action_ok g) (pick (eqb n 9) (ltb g.branches 8) (ltb 0 g.branches)) e in (
        is-acting q.0,
        λ z.
            let r = subst (λ (t : Bool). pick t (ltb g.branches 8) (ltb 0 g.branches) ≡ true) z q.1 in
            holds-room g.branches s.branches (ltb-true _ _ r) h.branches,
        λ z. ltb-true _ _ (subst (λ (t : Bool). pick t (ltb g.branches 8) (ltb 0 g.branches) ≡ true) z q.1),
      )
  needed (Coil n o) e = is-acting e
  needed (Timer i c) e = is-acting e
  needed (For c) e = is-empty e
  needed Next e = is-empty e
  needed (Jump l) e = let q = both g.present (both_empty g) e in (is-present q.0, is-empty q.1)
  needed (Label l) e = is-empty e
  needed End e = is-empty e
  needed (Word n a b t) e = is-acting e

  -- ---- and the machine follows on

  pub load-follows : (b : Bool) → load_ok g ≡ true → Follows (after_load g) (loaded s b)
  unfolding load_ok after_load loaded
  load-follows b e = record {
    flow = present-flow b;
    action = refl;
    blocks = rw same_start (go (starts g) e);
    branches = h.branches;
  }
    where
      go : (t : Bool) → pick t (both_empty g) (ltb g.blocks 8) ≡ true
          → Holds (pick t g.blocks (g.blocks + 1)) (pick t s.blocks (push s.blocks (is_on s)))
      go true z = h.blocks
      go false z = holds-push g.blocks s.blocks (is_on s) (ltb-true _ _ z) h.blocks

  -- a contact that is no load, a join, MRD: flow is made anew where it was present
  made-anew : {k n m : ℕ} {x y : ℕ} (b : Bool) → g.present ≡ true → Holds n x → Holds m y
      → Follows (rung g.present false n m) (record { pc = k; flow = flow_of b; action = 0; blocks = x; branches = y; depth = s.depth; ended = s.ended; error = s.error; at = s.at })
  made-anew b e x y =
      record { flow = subst (λ (t : Bool). Flow t (flow_of b)) (sym e) (present-flow b); action = refl; blocks = x; branches = y }

  pub contact-follows : (n : ℕ) (bit : Bool) → pick (is_load n) (load_ok g) g.present ≡ true
      → Follows (pick (is_load n) (after_load g) (rung g.present false g.blocks g.branches)) (contact_of n bit s)
  unfolding contact_of
  contact-follows n bit e = go (is_load n) (eqb n 3 || eqb n 4) e
    where
      go : (t u : Bool) → pick t (load_ok g) g.present ≡ true
          → Follows (pick t (after_load g) (rung g.present false g.blocks g.branches)) (pick t (loaded s (taken n bit)) (pick u (flowed s (flow_of (is_on s && taken n bit)) s.blocks s.branches)
          (flowed s (flow_of (is_on s || taken n bit)) s.blocks s.branches)))
      go true u z = load-follows (taken n bit) z
      go false true z = made-anew (is_on s && taken n bit) z h.blocks h.branches
      go false false z = made-anew (is_on s || taken n bit) z h.blocks h.branches

  pub compare-follows : (n : ℕ) (x y : ℤ) → load_ok g ≡ true → Follows (after_load g) (compare_of n x y s)
  unfolding compare_of
  compare-follows n x y e = load-follows _ e

  pub join-follows : (n : ℕ) → (g.present && ltb 0 g.blocks) ≡ true → Follows (rung g.present false (g.blocks - 1) g.branches) (join_of n s)
  unfolding join_of
  join-follows n e =
      let q = both g.present (ltb 0 g.blocks) e in
      made-anew (pick (eqb n 7) (top s.blocks && is_on s) (top s.blocks || is_on s)) q.0
      (holds-pop g.blocks s.blocks (ltb-true _ _ q.1) h.blocks)
      h.branches

  pub branch_follows : (n : ℕ) → branch_ok n g ≡ true → Follows (rung g.present false g.blocks (branches_after n g.branches)) (branch_of n s)
  unfolding branch_ok branches_after branch_of
  branch_follows n e = go (eqb n 9) (eqb n 10) q.1
    where
      q : (action_ok g ≡ true) × (pick (eqb n 9) (ltb g.branches 8) (ltb 0 g.branches) ≡ true)
      q = both (action_ok g) (pick (eqb n 9) (ltb g.branches 8) (ltb 0 g.branches)) e

      here : g.present ≡ true
      here = (acting g q.0).0

      go : (t u : Bool) → pick t (ltb g.branches 8) (ltb 0 g.branches) ≡ true
          → Follows (rung g.present false g.blocks (pick t (g.branches + 1) (pick u g.branches (g.branches - 1))))
          (pick t (flowed s s.flow s.blocks (push s.branches (is_on s)))
          (pick u (flowed s (flow_of (top s.branches)) s.blocks s.branches)
          (flowed s (flow_of (top s.branches)) s.blocks (pop s.branches))))
      go true u z =
          record {
            flow = h.flow;
            action = refl;
            blocks = h.blocks;
            branches = holds-push g.branches s.branches (is_on s) (ltb-true _ _ z) h.branches;
          }
      go false true z = made-anew (top s.branches) here h.blocks h.branches
      go false false z = made-anew (top s.branches) here h.blocks (holds-pop g.branches s.branches (ltb-true _ _ z) h.branches)

-- A word instruction, by whether there is flow. Assumes nothing.
use Prim.Native.Nat.{ℕ}
use mathlib.Core.Bool.{Bool, true, false}
use mathlib.Core.Path.{◌≡◌, refl, subst}
use lib.Dec.{eqb}
use Rattle.ec20.specs.Basics.{pick}
use Rattle.ec20.specs.Flow.{is_on, acted, failed}
use Rattle.ec20.specs.Memory.{Memory}
use Rattle.ec20.specs.Step.{Open, world, width_of, outcome_of, settle, word_of}
use Rattle.ec20.specs.Words.{store_all}
use Rattle.ec20.specs.declared.Machine.{Machine}
use Rattle.ec20.specs.declared.Operand.{Operand}
use Rattle.outcomes.specs.Done.{Done}

-- no flow: nothing
module _ (n : ℕ) (a b t : Operand) (c : Memory) (o : Open) (s : Machine) where
  pub word-off : {q : Machine} → is_on s ≡ false → q ≡ acted s → world c o q ≡ word_of n a b t (world c o s)
  unfolding word_of
  word-off h e = rw (h, e) refl

  -- with flow: an error, or what is stored
  pub word_on : {q : Machine} {e : ℕ} {after : Memory} → is_on s ≡ true → Done n a b t c e after → q ≡ pick (eqb e 0) (acted s) (failed s e) → world after o q ≡ word_of n a b t (world c o s)
  unfolding word_of settle
  word_on {q = q} {after = after} on d f =
      let r = outcome_of n a b c in
      let state : q ≡ pick (eqb r.error 0) (acted s) (failed s r.error) = subst (λ (z : ℕ). q ≡ pick (eqb z 0) (acted s) (failed s z)) d.error f in
      let memory : after ≡ pick (eqb r.error 0) (store_all (width_of n) t r c) c = subst (λ (z : ℕ). after ≡ pick (eqb z 0) (store_all (width_of n) t r c) c) d.error d.stored in
      rw (memory, state, on) (by (eqb r.error 0))
    where
      by : (z : Bool) → world (pick z (store_all (width_of n) t (outcome_of n a b c) c) c) o (pick z (acted s) (failed s (outcome_of n a b c).error)) ≡ pick z (world (store_all (width_of n) t (outcome_of n a b c) c) o (acted s)) (world c o (failed s (outcome_of n a b c).error))
      by true = refl
      by false = refl

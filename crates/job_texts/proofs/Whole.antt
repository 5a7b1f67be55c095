-- What is read of a job that the room has places for is the job: as many lines of the room as are counted. Assumes nothing.
use Prim.Native.Nat.{ℕ, ◌≤◌}
use mathlib.Core.List.{List}
use mathlib.Core.Path.{◌≡◌, ap, subst, ◌∙◌}
use lib.ListN.{length, take}
use Rattle.units.proofs.Walk.{kept-all}
use Rattle.units.specs.Kept.{kept_in}
use Rattle.units.specs.Reading.{Read}
use Rattle.job_texts.specs.Held.{held_of}
use Rattle.job_texts.specs.declared.Lines.{Lines}

pub whole-job : (x : Read (List ℕ)) (r : Lines) (b t : List (List ℕ)) → r ≡ held_of x → t ≡ kept_in b x.list → r.count ≤ length b → take r.count t ≡ x.list
unfolding held_of
whole-job x r b t e g h =
    let n : r.count ≡ length x.list = ap (λ (y : Lines). y.count) e in
    ap (λ (i : ℕ). take i t) n ∙ ap (take (length x.list)) g ∙ kept-all b x.list (subst (λ (i : ℕ). i ≤ length b) n h)

-- The ways out of `split`, over the frame that was read. Assumes nothing.
use Prim.Native.Nat.{ℕ}
use mathlib.Core.Bool.{Bool, true, false}
use mathlib.Core.List.{List}
use mathlib.Core.Path.{◌≡◌, refl, sym, ap, ◌∙◌}
use Rattle.checker.proofs.Accepted.{apart, whole-pick, whole-records}
use Rattle.ec20.specs.Basics.{pick}
use Rattle.ec20.specs.File.{Records, framed, frame_of, first_of, count_of, records_from, records_of}
use Rattle.ec20.specs.Move.{split_fault}
use Rattle.ec20.specs.Frame.{Frame}
use Rattle.ec20.specs.Frame.{Whole, Broken}
use Rattle.ec20.specs.Judged.{Judged}
use Rattle.ec20.specs.Judged.{Fine}
use Rattle.units.specs.Report.{block_of}
use Rattle.units.specs.Splits.{split_in}
use Rattle.units.specs.declared.Declaration.{Declaration}

module _ (f : List ℕ) (a : Declaration) (x : Frame) (g : x ≡ frame_of f) where
  pub of-whole : (first count : ℕ) → x ≡ Whole first count → (r : Judged) → r ≡ split_fault (records_from f first count) (block_of a) → r ≡ split_in f a
  unfolding frame_of split_in
  of-whole first count e r er = rw (whole-pick (framed f) (sym g ∙ e)).0 (er ∙ ap (λ (rs : Records). split_fault rs (block_of a)) (whole-records f g e))

  broken-by : (t : Bool) → pick t (Whole (first_of f) (count_of f)) Broken ≡ Broken → Fine ≡ pick t (split_fault (records_of f) (block_of a)) Fine
  broken-by true e = apart (sym e)
  broken-by false e = refl

  pub of-broken : x ≡ Broken → Fine ≡ split_in f a
  unfolding frame_of split_in
  of-broken e = broken-by (framed f) (sym g ∙ e)

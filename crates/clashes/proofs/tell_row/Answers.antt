use Prim.Native.Nat.{ℕ, ◌%◌}
use mathlib.Core.List.{List, [], ◌++◌}
use mathlib.Core.Path.{refl}
use native.Mathlib.Omega.{arith}
use lib.Dec.{eqb}
use borrow.Author.Rules.{rules}
use Rattle.clashes.specs.Rows.{noted}
use Rattle.clashes.proofs.PairLaws.{pairs-none, pairs-zero, pairs-step, noted-most}
use Rattle.clashes.proofs.Telling.{telling-none, telling-more, telling-all, one_more}
use Rattle.clashes.proofs.tell_row.Goals as goal

pub loop-j-init : goal.loop-j-init
loop-j-init c = (refl, ([], (omega arith, telling-none _ _ _)))

-- nothing is left of the row
pub returns-then-r-eq0 : goal.returns-then-r-eq0
returns-then-r-eq0 c =
    let l = c.loop-j in
    let all = telling-all _ _ _ _ _ _ l.invariant.1.0 l.invariant.1.1.1 (pairs-zero _ _ _ _ c.if-r-eq0.true) in
    record { value = all.0; by_index = all.1 }

pub note-at-requires : goal.note-at-requires
note-at-requires c =
    let l = c.loop-j in
    (omega (arith, l.invariant.1.1.0, l.invariant.1.1.1.1, l.invariant.0), omega arith, omega arith)

pub loop-j-preserved : goal.loop-j-preserved
loop-j-preserved c =
    let l = c.loop-j in
    let t = l.invariant.1.0 in
    let one : List (List ℕ) = noted (eqb (l.r % 2) 1) c.args.i l.j in (
      search rules,
      (
        t ++ one,
        (
          one_more t one _ _ l.invariant.1.1.0 (noted-most _ _ _),
          telling-more _ _ _ _ _ _ t one _ _ _ l.invariant.1.1.1 (pairs-step _ _ _ _ _ (omega arith)) c.note-at.ensures.value c.note-at.ensures.by_index,
        ),
      ),
    )

pub returns : goal.returns
returns c =
    let l = c.loop-j in
    let all = telling-all _ _ _ _ _ _ l.invariant.1.0 l.invariant.1.1.1 (pairs-none _ _ _ _ (omega arith)) in
    record { value = all.0; by_index = all.1 }

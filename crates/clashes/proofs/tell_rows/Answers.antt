use Prim.Native.Nat.{ℕ, ◌+◌, ◌-◌}
use mathlib.Core.List.{List, [], ◌++◌}
use mathlib.Core.Path.{refl, sym, subst, ◌∙◌}
use native.Mathlib.Omega.{arith}
use lib.ListN.{get_or}
use borrow.Author.Rules.{rules}
use Rattle.clashes.specs.Rows.{pairs_in, pairs_from}
use Rattle.clashes.proofs.PairLaws.{filled_none, pairs-most, rows_end, rows_step, room-at-first, room-left, still-room}
use Rattle.clashes.proofs.Telling.{Telling, telling-none, telling-more, telling-all}
use Rattle.clashes.proofs.tell_rows.Goals as goal

pub loop-i-init : goal.loop-i-init
loop-i-init c =
    let a = c.args in (
      refl,
      room-at-first a.n (search rules),
      (
        [],
        subst (λ (k : ℕ). Telling 0 (pairs_from a.of 0 a.n) a.report.now 0 a.report.now (pairs_from a.of 0 k) []) {x = a.n} {y = a.n - 0} (omega arith)
            (telling-none _ _ _),
      ),
    )

pub tell_row-at-requires : goal.tell_row-at-requires
tell_row-at-requires c =
    let l = c.loop-i in
    let n : ℕ = c.args.n in
    (search rules, search rules, room-left l.at l.i n _ (search rules) l.invariant.1 (omega arith))

pub loop-i-preserved : goal.loop-i-preserved
loop-i-preserved c =
    let l = c.loop-i in
    let a = c.args in
    let t = l.invariant.2.0 in
    let one : List (List ℕ) = pairs_in (get_or a.of l.i 0) l.i (l.i + 1) (a.n - (l.i + 1)) in (
      search rules,
      still-room l.at l.i a.n _ one (search rules) l.invariant.1 (pairs-most _ _ _ _) c.tell_row-at.ensures.value,
      (
        t ++ one,
        telling-more _ _ _ _ _ _ t one _ _ _ l.invariant.2.1 (rows_step _ _ _ _ (omega arith)) c.tell_row-at.ensures.value c.tell_row-at.ensures.by_index,
      ),
    )

pub returns : goal.returns
returns c =
    let l = c.loop-i in
    let all = telling-all _ _ _ _ _ _ l.invariant.2.0 l.invariant.2.1 (rows_end _ _ _ (omega arith)) in
    (all.0 ∙ omega arith, all.1 [] _ refl (sym (filled_none _)))

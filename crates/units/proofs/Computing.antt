-- Every definition that a computed theorem may have to unfold: `unfolding declarations` names them all, with those of the controller.
use Prim.Native.Nat.{ℕ}
use Rattle.ec20.proofs.Computing.{computing}
use Rattle.units.specs.Clash.{same_to, clash_of}
use Rattle.units.specs.Report.{clashes_with, clashes_from, blocks_fault, list_fault, room_fault, judge_clashes, filled, report_of, told_by_clashes}
use Rattle.units.specs.Spelling.{digit_of, digits_of, number_at}
use Rattle.units.specs.Text.{named, line_at, longer_of, told_by_longer}
use Rattle.units.specs.Listed.{unit_at, units_of}
use Rattle.units.specs.Reading.{read_from}
use Rattle.units.specs.Kept.{kept_in}
use Rattle.units.specs.Splits.{split_in}

unfoldable pub declarations : ℕ
unfolding computing same_to clash_of clashes_with clashes_from blocks_fault list_fault room_fault judge_clashes filled report_of told_by_clashes digit_of digits_of number_at named line_at longer_of told_by_longer unit_at read_from kept_in units_of split_in
declarations = 0

-- A record of a file whose place is taken: moved it is the renamed one, and no more at fault than before.
use Prim.Native.Nat.{ℕ, ◌<◌}
use mathlib.Core.Bool.{true, false, ◌&&◌, ◌||◌}
use mathlib.Core.Path.{◌≡◌, ap₂}
use native.Mathlib.Omega.{arith}
use Rattle.ec20.proofs.Laws.{no-fault}
use Rattle.ec20.proofs.NoFault.{record-fine}
use Rattle.ec20.proofs.Some.{none-at}
use Rattle.ec20.specs.declared.Operand.{Operand}
use Rattle.ec20.specs.declared.Place.{Place}
use Rattle.ec20.specs.declared.Rec.{Rec}
use Rattle.ec20.specs.Devices.{Device}
use Rattle.ec20.specs.Exchange.{swapped}
use Rattle.ec20.specs.File.{Records}
use Rattle.ec20.specs.Move.{Block, block, partly, touches, split_fault}
use Rattle.ec20.specs.Operands.{in_work, is_known, operands_ok, target_in_work, fault_of, fault_in}
use Rattle.ec20.specs.Table.{row_of}
use Rattle.ec20.specs.UseMap.{some_operand, record_has, some_record}
use Rattle.bound.proofs.Accepted.{none-refused}
use Rattle.bound.proofs.First.{no-first}
use Rattle.moving.specs.Rename.{rename_rec}
use Rattle.refusals.proofs.Has.{has-none, some_word}
use Rattle.refusals.proofs.Operands.{all-allowed}
use Rattle.refusals.specs.Records.{OperandAt, first, second, third}
use Rattle.moved.specs.Placed.{Placed}
use Rattle.moved.proofs.Bytes.{moved_rec}
use Rattle.moved.proofs.Fit.{Fit, moved-is, allows-new, off-work-new}

module _ {v : Device} {rs : Records} {b : Block} {q : ℕ} (pl : Placed v rs b q) (k : ℕ) (h : k < rs.count) where
  abbrev r : Rec
  r = rs.at k

  no-fault-here : fault_in v r ≡ 0
  no-fault-here = no-fault (λ i. fault_in v (rs.at i)) 0 rs.count pl.sound k (omega arith) (omega arith)

  no-split : record_has (partly b) r ≡ false
  unfolding split_fault
  no-split = no-first (λ i. record_has (partly b) (rs.at i)) rs.count 0 (none-refused 13 _ pl.unsplit) k (omega arith) (omega arith)

  not-used : record_has (touches (block q b.length)) r ≡ false
  unfolding some_record
  not-used = none-at (λ i. record_has (touches (block q b.length)) (rs.at i)) 0 rs.count pl.unused k (omega arith) (omega arith)

  pub fit : {p : Place} {o : Operand} → OperandAt r p o → Fit v b q p o
  unfolding target_in_work some_operand
  fit at =
      record {
        allows = all-allowed v r (record-fine v r no-fault-here).1 at;
        off_work = has-none (in_work v) r (record-fine v r no-fault-here).2 at;
        unsplit = has-none (partly b) r no-split at;
        unused = has-none (touches (block q b.length)) r not-used at;
        some = λ k. some_word v r at k (all-allowed v r (record-fine v r no-fault-here).1 at);
      }

  -- the record that the mover writes is the renamed one
  pub renamed : moved_rec b q r ≡ rename_rec (swapped b q) r
  unfolding rename_rec
  renamed = rw (moved-is pl.two (fit first), moved-is pl.two (fit second), moved-is pl.two (fit third))

  -- and it is not at fault
  abbrev new : Rec
  new = rename_rec (swapped b q) r

  known-new : is_known (row_of new.number) new ≡ true
  unfolding rename_rec is_known
  known-new = (record-fine v r no-fault-here).0

  operands-new : operands_ok v (row_of new.number) new ≡ true
  unfolding rename_rec operands_ok
  operands-new = ap₂ ◌&&◌ (ap₂ ◌&&◌ (allows-new pl.two (fit first)) (allows-new pl.two (fit second))) (allows-new pl.two (fit third))

  targets-new : target_in_work v (row_of new.number) new ≡ false
  unfolding rename_rec target_in_work
  targets-new =
      ap₂ ◌||◌ (ap₂ ◌||◌ (off-work-new pl.two (fit first) pl.off_work) (off-work-new pl.two (fit second) pl.off_work))
      (off-work-new pl.two (fit third) pl.off_work)

  pub no-fault-new : fault_in v new ≡ 0
  unfolding fault_in fault_of
  no-fault-new = rw (known-new, operands-new, targets-new)

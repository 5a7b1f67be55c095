-- The moved file as a program, and what the check says of it.
use Prim.Native.Nat.{ℕ, zero, suc, ◌+◌, ◌*◌, ◌≤◌, ◌<◌, ◌^◌}
use mathlib.Core.Bool.{true}
use mathlib.Core.List.{List}
use mathlib.Core.Path.{◌≡◌, refl, ap, ◌∙◌}
use native.Mathlib.Omega.{arith}
use lib.ListN.{length}
use Rattle.ec20.specs.Basics.{pick, first_fault}
use Rattle.ec20.specs.Judged.{Fine}
use Rattle.ec20.specs.Verdict.{Verdict}
use Rattle.ec20.specs.Verdict.{Refused}
use Rattle.ec20.specs.Check.{judge_file, check_for}
use Rattle.ec20.specs.Code.{program_of}
use Rattle.ec20.specs.Devices.{Device}
use Rattle.ec20.specs.Exchange.{swapped}
use Rattle.ec20.specs.File.{byte_at, count_of, first_of, framed, operand_at, record_from, records_of}
use Rattle.ec20.specs.Move.{Block, moved_file, moved_number}
use Rattle.ec20.specs.Operands.{fault_in, first_bad}
use Rattle.moving.specs.Rename.{rename_rec, rename_program}
use Rattle.moved.specs.Placed.{Placed}
use Rattle.moved.proofs.Alike.{same-judged, same-verdict}
use Rattle.moved.proofs.Bytes.{frame-whole, below, small-number, same-edition, same_count, same_first, same-frame, record-moved}
use Rattle.moved.proofs.Program.{program-renamed}
use Rattle.moved.proofs.Records.{renamed, no-fault-new}

-- no record at fault: no fault is found
all-fine : (fault : ℕ → ℕ) (k n : ℕ) → ((j : ℕ) → k ≤ j → j < k + n → fault j ≡ 0) → first_fault fault k n ≡ Fine
unfolding first_fault
all-fine fault k zero h = refl
all-fine fault k (suc n) h = rw (h k (omega arith) (omega arith)) (all-fine fault (suc k) n (λ j a c. h j (omega arith) (omega arith)))

-- A file of bytes with a whole frame, a place that is taken in it, and a device whose D numbers fit four bytes
module _ (v : Device) (f : List ℕ) (b : Block) (q : ℕ) (byte : (i : ℕ) → byte_at f i < 256) (few : v.words ≤ 2 ^ 32) (frame : framed f ≡ true) (pl : Placed v (records_of f) b q) where
  abbrev σ : ℕ → ℕ
  σ = swapped b q

  abbrev g : List ℕ
  g = moved_file b q f

  whole : first_of f + 20 * count_of f + 8 ≡ length f
  whole = frame-whole f frame

  small : (i : ℕ) → moved_number b q (operand_at f i) < 2 ^ 32
  unfolding operand_at
  small i = small-number b q (operand_at f i) (below f byte (i + 2)) (omega (arith, pl.two.place_in))

  -- record k of the moved file is the renamed record k
  pub record-renamed : (k : ℕ) → k < count_of f → (records_of g).at k ≡ rename_rec σ ((records_of f).at k)
  record-renamed k h =
      ap (λ (n : ℕ). record_from g (n + 20 * k)) (same_first b q f whole) ∙ record-moved b q f whole k h small ∙ renamed pl k h

  -- so the moved file is the renamed program
  pub moved-program : program_of g ≡ rename_program σ (program_of f)
  unfolding program_of
  moved-program = program-renamed pl (records_of g) (same-edition b q f whole) (same_count b q f whole) record-renamed

  -- none of its records breaks 2, 3 or 4
  moved-sound : first_bad v (records_of g) ≡ Fine
  moved-sound =
      rw (same_count b q f whole)
      (all-fine (λ k. fault_in v ((records_of g).at k)) 0 (count_of f) (λ k _ h.
      let l : k < count_of f = omega arith in ap (fault_in v) (record-renamed k l) ∙ no-fault-new pl k l))

  -- and the check answers as before
  same-file : judge_file v g ≡ judge_file v f
  unfolding judge_file
  same-file = rw (moved-sound, pl.sound, moved-program) (same-judged σ (program_of f))

  pub moved-answer : check_for v g ≡ check_for v f
  unfolding check_for
  moved-answer =
      rw (same-frame b q f whole, same-file, moved-program)
      (ap (λ (x : Verdict). pick (framed f) x (Refused 1 0)) (same-verdict σ (program_of f) (judge_file v f)))

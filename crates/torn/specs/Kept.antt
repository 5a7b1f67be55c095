-- DOCUMENT 02, (x). "Disks give us edition 1 files with the trailer torn off or scrambled. Assume no comment bytes. Keep the longest run of whole records
-- from the start that pass refusals 2 and 3, stopping after the first END; if there is none, add one."
use Rattle.std.specs.Prelude.{ℕ, suc, ◌/◌, Bool, not, ◌&&◌, List, eqb, length}
use Rattle.ec20.specs.Basics.{first_at}
use Rattle.ec20.specs.Devices.{Device}
use Rattle.ec20.specs.File.{Records, records_as}
use Rattle.ec20.specs.Mnemonics.{END}
use Rattle.ec20.specs.Operands.{is_known, operands_ok}
use Rattle.ec20.specs.Table.{row_of}
use Rattle.ec20.specs.Found.{Found}
use Rattle.ec20.specs.Found.{At, Nowhere}
use Rattle.ec20.specs.declared.Rec.{Rec}
use Rattle.torn.specs.declared.Kept.{Kept}

-- "whole records from the start", of "edition 1", with "no comment bytes": as many as the file has twenties of bytes
abbrev pub whole_records : List ℕ → Records
whole_records t = records_as 1 t 0 (length t / 20)

-- "that pass refusals 2 and 3": known, with a spare byte of 0, and each operand as the table allows. Whether a target meets WORK (4) is not asked.
unfoldable pub passes : Device → Rec → Bool
passes v r = is_known (row_of r.number) r && operands_ok v (row_of r.number) r

-- so many as stand ahead of what was found; all, where nothing was
abbrev pub ahead : ℕ → Found → ℕ
ahead all (At k) = k
ahead all Nowhere = all

-- "the longest run of .. records from the start that pass": those ahead of the first that does not
unfoldable pub run_of : Device → Records → ℕ
run_of v rs = ahead rs.count (first_at (λ k. not (passes v (rs.at k))) 0 rs.count)

abbrev pub is_end : Rec → Bool
is_end r = eqb r.number END

-- "the first END" of that run
unfoldable pub end_of : Device → Records → Found
end_of v rs = first_at (λ k. is_end (rs.at k)) 0 (run_of v rs)

abbrev pub kept : ℕ → ℕ → Kept
kept n a = record { count = n; added = a }

-- "stopping after the first END; if there is none, add one", to the n records of the run
abbrev pub stop_at : ℕ → Found → Kept
stop_at n (At k) = kept (suc k) 0
stop_at n Nowhere = kept n 1

-- what is kept of records
unfoldable pub kept_of : Device → Records → Kept
kept_of v rs = stop_at (run_of v rs) (end_of v rs)

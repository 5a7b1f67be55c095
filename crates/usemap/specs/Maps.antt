-- The two maps of records.
use Rattle.std.specs.Prelude.{ℕ, Bool, ◌&&◌}
use Rattle.ec20.specs.Devices.{ec20}
use Rattle.ec20.specs.File.{Records}
use Rattle.ec20.specs.Roles.{is_read, is_written}
use Rattle.ec20.specs.UseMap.{holds, marked_read, marked_written, map_of}
use Rattle.ec20.specs.declared.UseMap.{UseMap}
use Rattle.ec20.specs.declared.Operand.{Operand}
use Rattle.ec20.specs.declared.Place.{Place}

-- the operand's extent is read there and holds word i; the same of written
abbrev pub read_by : ℕ → Place → Operand → Bool
read_by i p o = is_read p && holds i p o

abbrev pub written_by : ℕ → Place → Operand → Bool
written_by i p o = is_written p && holds i p o

-- of records that are not refused
unfoldable pub maps_in : Records → UseMap
maps_in rs = record { read = map_of ec20 (marked_read rs); written = map_of ec20 (marked_written rs) }

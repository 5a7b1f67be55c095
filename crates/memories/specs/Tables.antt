-- "The bytes of a memory file, and the tables and the leftovers that they mean."
use Rattle.ec20.specs.Memory.{memory}
use Rattle.ec20.specs.Plant.{Plant, plant}
use Rattle.memories.specs.declared.tables.Tables.{Tables}

-- memory and leftovers of the tables
abbrev pub plant_in : Tables → Plant
plant_in t = plant (memory t.x t.y t.m t.sm t.t t.d t.tv) t.rest

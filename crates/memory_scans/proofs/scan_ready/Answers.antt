-- Tables and leftovers split, the scan over them, with X whole or none of it, and all joined. Assumes nothing.
use Rattle.memory_scans.proofs.Scanning.{scan-after}
use Rattle.memory_scans.proofs.scan_ready.Goals as goal

pub scan_ready-scanned-requires : goal.scan_ready-scanned-requires
scan_ready-scanned-requires c = c.requires

pub returns : goal.returns
returns c =
    let a = c.args in
    let split = c.split-tables.ensures in
    let join = c.join.ensures in
    let all =
    scan-after _ _ a.elapsed a.budget split.sizes split.value split.back c.entries-n.ensures.0 c.scan_ready-scanned.ensures join.image_after join.value in
    record { value = all.0; image_after = all.1.0; image_after_2 = all.1.1.0; by_index = all.1.1.1 }

use Rattle.requests.proofs.Laws.{wrote-5, wrote-15, wrote-no-coil, room-15}
use Rattle.requests.proofs.writes.write_coils.Goals as goal

pub returns-then-n-eq5 : goal.returns-then-n-eq5
returns-then-n-eq5 c =
    wrote-5 c.args.f.now c.args.n _ _ c.requires.0 c.number_in-a.ensures.0 c.number_in-q.ensures.0 c.args.m.now _ _ c.if-n-eq5.true c.switched.ensures.0 c.put_bit.ensures

pub write-requires : goal.write-requires
write-requires c =
    let r = room-15 c.args.f.now c.args.n _ _ c.requires.0 c.number_in-a.ensures.0 c.number_in-q.ensures.0 c.requires.1 c.if-n-eq15.true in
    (r.0, c.requires.2, r.1)

pub returns-then-n-eq15 : goal.returns-then-n-eq15
returns-then-n-eq15 c =
    wrote-15 c.args.f.now c.args.n _ _ c.requires.0 c.number_in-a.ensures.0 c.number_in-q.ensures.0 c.args.m.now _ c.if-n-eq15.true c.write.ensures

pub returns-else-n-eq15 : goal.returns-else-n-eq15
returns-else-n-eq15 c =
    wrote-no-coil c.args.f.now c.args.n _ _ c.requires.0 c.number_in-a.ensures.0 c.number_in-q.ensures.0 c.args.m.now c.if-n-eq5.false c.if-n-eq15.false

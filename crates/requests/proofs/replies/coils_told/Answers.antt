use native.Mathlib.Omega.{arith}
use Rattle.requests.proofs.Laws.{two-there, room-1, coils-sent, coils-length}
use Rattle.requests.proofs.replies.coils_told.Goals as goal

pub begin-requires : goal.begin-requires
begin-requires c =
    let e = c.number_in-a.ensures.0 in
    let g = c.number_in-q.ensures.0 in
    let r = room-1 c.args.f.now c.requires.1 _ _ e g c.requires.0 in
    (two-there c.args.f.now c.requires.1 _ _ e g, omega (arith, r.1), c.requires.3)

pub read-requires : goal.read-requires
read-requires c =
    let r = room-1 c.args.f.now c.requires.1 _ _ c.number_in-a.ensures.0 c.number_in-q.ensures.0 c.requires.0 in
    (r.0, c.requires.2, omega (arith, r.1, c.begin.auto.reply, c.requires.3))

pub returns : goal.returns
returns c =
    let e = c.number_in-a.ensures.0 in
    let g = c.number_in-q.ensures.0 in
    let r = room-1 c.args.f.now c.requires.1 _ _ e g c.requires.0 in (
      coils-sent c.args.f.now c.requires.1 _ _ e g c.args.m.now c.args.reply.now _ _ c.begin.ensures c.read.ensures,
      coils-length c.args.f.now c.requires.1 _ _ e g c.args.m.now,
      omega (arith, r.1),
    )

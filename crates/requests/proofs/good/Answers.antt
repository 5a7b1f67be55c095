use native.Mathlib.Omega.{arith}
use Rattle.requests.proofs.Laws.{heard_all, heard-good}
use Rattle.requests.proofs.good.Goals as goal

pub write_coils-requires : goal.write_coils-requires
write_coils-requires c = (c.requires.0, c.requires.2, c.requires.3)

pub write_registers-requires : goal.write_registers-requires
write_registers-requires c = (c.requires.0, c.requires.2, c.requires.4)

pub returns-then-quiet : goal.returns-then-quiet
returns-then-quiet c =
    heard_all c.args.f.now c.args.m.now c.args.d.now c.args.reply.now c.args.quiet c.requires.1 c.requires.2.good _ _ c.write_coils.ensures
    c.write_registers.ensures c.if-quiet.true

pub told-k-requires : goal.told-k-requires
told-k-requires c = (c.requires.0, c.requires.2, c.requires.3, c.requires.4, c.requires.5)

pub write_coils-requires-2 : goal.write_coils-requires-2
write_coils-requires-2 c = (c.requires.0, c.requires.2, c.requires.3)

pub write_registers-requires-2 : goal.write_registers-requires-2
write_registers-requires-2 c = (c.requires.0, c.requires.2, c.requires.4)

pub close-requires : goal.close-requires
close-requires c =
    let t = c.told-k in
    omega (arith, t.ensures.2, t.auto.reply, c.requires.5)

pub returns : goal.returns
returns c =
    heard-good c.args.f.now c.args.m.now c.args.d.now c.args.reply.now c.args.quiet c.requires.1 c.requires.2.good _ _ c.write_coils-2.ensures
    c.write_registers-2.ensures c.if-quiet.false _ _ _ _ c.told-k.ensures c.close.ensures

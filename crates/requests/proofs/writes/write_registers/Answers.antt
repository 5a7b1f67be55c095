use native.Mathlib.Omega.{arith}
use mir.Syntax.{w64}
use Rattle.ints.proofs.TwosLaws.{signed_range}
use Rattle.ints.proofs.Parts.{said}
use Rattle.requests.proofs.Laws.{wrote-6, wrote-16, wrote-no-register, room-16}
use Rattle.requests.proofs.writes.write_registers.Goals as goal

pub put_word-requires : goal.put_word-requires
put_word-requires c = rw (said w64 c.of_bits.type_inv c.of_bits.ensures) (signed_range 32768 _ (omega arith))

pub returns-then-n-eq6 : goal.returns-then-n-eq6
returns-then-n-eq6 c =
    wrote-6 c.args.f.now c.args.n _ _ c.requires.0 c.number_in-a.ensures.0 c.number_in-q.ensures.0 c.args.d.now _ _ c.if-n-eq6.true
    (said w64 c.of_bits.type_inv c.of_bits.ensures) c.put_word.ensures

pub write-requires : goal.write-requires
write-requires c =
    let r = room-16 c.args.f.now c.args.n _ _ c.requires.0 c.number_in-a.ensures.0 c.number_in-q.ensures.0 c.requires.1 c.if-n-eq16.true in
    (r.0, c.requires.2, r.1)

pub returns-then-n-eq16 : goal.returns-then-n-eq16
returns-then-n-eq16 c =
    wrote-16 c.args.f.now c.args.n _ _ c.requires.0 c.number_in-a.ensures.0 c.number_in-q.ensures.0 c.args.d.now _ c.if-n-eq16.true c.write.ensures

pub returns-else-n-eq16 : goal.returns-else-n-eq16
returns-else-n-eq16 c =
    wrote-no-register c.args.f.now c.args.n _ _ c.requires.0 c.number_in-a.ensures.0 c.number_in-q.ensures.0 c.args.d.now c.if-n-eq6.false c.if-n-eq16.false

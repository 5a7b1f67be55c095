use Prim.Native.Nat.{ℕ, ◌≤◌}
use mathlib.Core.List.{List, ◌++◌}
use mathlib.Core.Path.{sym, ap, ◌∙◌}
use native.Mathlib.Omega.{arith}
use lib.ListN.{length, drop}
use lib.Seq.{length-take-le}
use Rattle.modbus.proofs.Good.{eight-bytes}
use Rattle.requests.proofs.Laws.{reply-1, reply-3, reply-else, told-as, repeated}
use Rattle.requests.proofs.replies.told.Goals as goal

pub coils_told-requires : goal.coils_told-requires
coils_told-requires c =
    (sym c.requires.0 ∙ c.if-n-eq1.true, c.requires.1, c.requires.2, c.requires.4)

pub returns-then-n-eq1 : goal.returns-then-n-eq1
returns-then-n-eq1 c =
    told-as _ _ _ _ _ (reply-1 c.args.f.now c.args.m.now c.args.d.now c.args.n c.requires.0 c.if-n-eq1.true) c.coils_told.ensures

pub registers_told-requires : goal.registers_told-requires
registers_told-requires c =
    (sym c.requires.0 ∙ c.if-n-eq3.true, c.requires.1, c.requires.3, c.requires.4)

pub returns-then-n-eq3 : goal.returns-then-n-eq3
returns-then-n-eq3 c =
    told-as _ _ _ _ _ (reply-3 c.args.f.now c.args.m.now c.args.d.now c.args.n c.requires.0 c.if-n-eq3.true) c.registers_told.ensures

pub slice_bounds-copy_from_slice-end-3 : goal.slice_bounds-copy_from_slice-end-3
slice_bounds-copy_from_slice-end-3 c =
    let l = eight-bytes c.args.f.now c.requires.1.good c.requires.1.fits in
    sym (length-take-le 6 c.args.f.now (omega (arith, l)))

pub copy_from_slice-requires : goal.copy_from_slice-requires
copy_from_slice-requires c =
    let l = eight-bytes c.args.f.now c.requires.1.good c.requires.1.fits in
    length-take-le 6 c.args.reply.now (omega (arith, c.requires.4)) ∙ sym (length-take-le 6 c.args.f.now (omega (arith, l)))

pub returns : goal.returns
returns c =
    let l = eight-bytes c.args.f.now c.requires.1.good c.requires.1.fits in
    let six : 6 ≤ length c.args.f.now = omega (arith, l) in
    told-as _ _ _ _ _ (reply-else c.args.f.now c.args.m.now c.args.d.now c.args.n c.requires.0 c.if-n-eq1.false c.if-n-eq3.false)
    (ap (λ (t : List ℕ). t ++ drop 6 c.args.reply.now) c.copy_from_slice.ensures.after ∙ repeated c.args.f.now c.args.reply.now 6 six, sym (length-take-le 6 c.args.f.now six), omega arith)

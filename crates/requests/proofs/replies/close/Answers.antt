use native.Mathlib.Omega.{arith}
use lib.ListN.{length-set}
use Rattle.requests.proofs.Laws.{closed, closed-length}
use Rattle.requests.proofs.replies.close.Goals as goal

pub bounds-reply-n-2 : goal.bounds-reply-n-2
bounds-reply-n-2 c = simp length-set (omega arith)

pub returns : goal.returns
returns c =
    λ s b e g.
    (closed-length s b c.args.reply.now c.args.n c.crc-c.result e g c.crc-c.ensures.0, closed s b c.args.reply.now c.args.n c.crc-c.result e g c.crc-c.ensures.0 c.requires)

use native.Mathlib.Omega.{arith}
use lib.ListN.{length-set}
use Rattle.requests.proofs.Laws.{begun}
use Rattle.requests.proofs.replies.begin.Goals as goal

pub bounds-reply-1 : goal.bounds-reply-1
bounds-reply-1 c = simp length-set (omega arith)

pub bounds-reply-2 : goal.bounds-reply-2
bounds-reply-2 c = simp length-set (omega arith)

pub returns : goal.returns
returns c =
    begun c.args.f.now c.args.reply.now c.args.k c.requires.0 c.requires.2

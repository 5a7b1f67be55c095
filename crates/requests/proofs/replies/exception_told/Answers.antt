use mathlib.Core.Path.{refl}
use native.Mathlib.Omega.{arith}
use lib.ListN.{length-set}
use Rattle.modbus.specs.Replies.{exception_to}
use Rattle.requests.proofs.Laws.{three-bytes}
use Rattle.requests.proofs.replies.exception_told.Goals as goal

pub bounds-reply-1 : goal.bounds-reply-1
bounds-reply-1 c = simp length-set (omega arith)

pub bounds-reply-2 : goal.bounds-reply-2
bounds-reply-2 c = simp length-set (omega arith)

pub returns : goal.returns
unfolding exception_to
returns c = (three-bytes _ _ _ _ c.requires.1, refl)

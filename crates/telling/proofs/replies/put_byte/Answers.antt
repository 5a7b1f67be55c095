-- Both digits are put. Assumes nothing.
use Rattle.std.proofs.Common.{ℕ, ◌+◌, ◌*◌, set, ap₂}
use Rattle.telling.proofs.replies.put_byte.Goals as goal

pub returns : goal.returns
returns c =
    let a = c.args in
    ap₂ (λ (x y : ℕ). set (set a.text.now (3 * a.i + 1) x) (3 * a.i + 2) y) c.digit.ensures c.digit-2.ensures

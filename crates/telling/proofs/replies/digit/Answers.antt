-- A digit by whether it is below ten. Assumes nothing.
use Rattle.telling.proofs.Hex.{hex-low, hex-high}
use Rattle.telling.proofs.replies.digit.Goals as goal

pub returns-then-v-lt10 : goal.returns-then-v-lt10
returns-then-v-lt10 c = hex-low c.args.v c.if-v-lt10.true

pub returns-else-v-lt10 : goal.returns-else-v-lt10
returns-else-v-lt10 c = hex-high c.args.v c.if-v-lt10.false

-- The scan asks what the turn was given. Assumes nothing.
use Rattle.serving.proofs.turn.turn.Goals as goal

pub scanned-requires : goal.scanned-requires
scanned-requires g c = c.requires

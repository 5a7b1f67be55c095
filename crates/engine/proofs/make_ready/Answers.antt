use Rattle.engine.proofs.ScanLaws.{made-ready}
use Rattle.engine.proofs.make_ready.Goals as goal

pub returns : goal.returns
returns c = made-ready _ _ c.accept.ensures.value c.accept.ensures.held

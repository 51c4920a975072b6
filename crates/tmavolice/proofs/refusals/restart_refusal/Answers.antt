use Rattle.tmavolice.proofs.CheckLaws.{restart_checks}
use Rattle.tmavolice.proofs.refusals.restart_refusal.Goals as goal

pub returns : goal.returns
returns c clock = restart_checks _ c.image_refusal.ensures

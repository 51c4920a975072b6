use mathlib.Core.Path.{sym}
use Rattle.state_valid.proofs.TestLaw.{short_law}
use Rattle.state_valid.proofs.image.is_image.Goals as goal

pub returns-in-None : goal.returns-in-None
returns-in-None c = sym (short_law c.args.b.now c.in-None.ensures.cases)

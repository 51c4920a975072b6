use mathlib.Core.Path.{sym, ◌∙◌}
use Rattle.state_valid.proofs.TestLaw.{short_law}
use Rattle.state_probe.proofs.LookLaws.{look_nothing}
use Rattle.state_probe.proofs.probe_look.Goals as goal

pub returns-then-not-is_image : goal.returns-then-not-is_image
returns-then-not-is_image c = look_nothing _ _ _ _ _ _ (sym c.is_image.ensures ∙ c.if-not-is_image.true)

pub returns-in-None : goal.returns-in-None
returns-in-None c = look_nothing _ _ _ _ _ _ (short_law c.args.image.now c.in-None.ensures.cases)

use mathlib.Core.Path.{◌∙◌}
use Rattle.plan_lines.proofs.Words.{no_mp}
use Rattle.plan_lines.proofs.lines.mp_of.Goals as goal

pub returns-in_err-flow : goal.returns-in_err-flow
returns-in_err-flow c = c.from_residual.ensures ∙ no_mp _ c.in_err-flow.ensures

pub returns : goal.returns
returns c = rw c.in_ok-flow.ensures c.mp_line.ensures

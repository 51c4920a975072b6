use mathlib.Core.Path.{◌∙◌}
use Rattle.plan_lines.proofs.Words.{no_port}
use Rattle.plan_lines.proofs.lines.port_of.Goals as goal

pub returns-in_err-number : goal.returns-in_err-number
returns-in_err-number c = c.from_residual.ensures ∙ no_port _ c.in_err-number.ensures

pub returns : goal.returns
returns c = rw c.in_ok-number.ensures c.port_line.ensures

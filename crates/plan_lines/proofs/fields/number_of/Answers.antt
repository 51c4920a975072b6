use mathlib.Core.Path.{◌∙◌}
use native.Mathlib.Omega.{arith}
use Rattle.plan_lines.proofs.Numbers.{held_none, held_some}
use Rattle.plan_lines.proofs.fields.number_of.Goals as goal

pub returns-in_err-n : goal.returns-in_err-n
returns-in_err-n c = c.from_residual.ensures ∙ held_none c.args.f.now c.amount_of.ensures c.in_err-n.was

pub overflow_cast-result : goal.overflow_cast-result
overflow_cast-result c = omega (arith, (held_some c.args.f.now c.amount_of.ensures c.in_ok-n.was).0)

pub returns : goal.returns
returns c = (held_some c.args.f.now c.amount_of.ensures c.in_ok-n.was).1

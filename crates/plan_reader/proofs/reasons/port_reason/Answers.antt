use mathlib.Core.Path.{sym, ◌∙◌}
use Rattle.plan.specs.Plan.{port_numbered}
use Rattle.plan.specs.PlanText.{port_reason}
use Rattle.plan.specs.Records.{plan_of}
use Rattle.plan_reader.specs.ReadPlan.{judged, reason_numbered}
use Rattle.plan_reader.proofs.reasons.port_reason.Goals as goal

pub returns-then-port_out : goal.returns-then-port_out
unfolding judged reason_numbered port_reason
returns-then-port_out c = rw (sym c.port_out.ensures ∙ c.if-port_out.true)

pub returns-then-port_again : goal.returns-then-port_again
unfolding judged reason_numbered port_reason port_numbered plan_of
returns-then-port_again c =
    rw (sym c.port_out.ensures ∙ c.if-port_out.false, sym c.port_again.ensures ∙ c.if-port_again.true)

pub returns : goal.returns
unfolding judged port_reason port_numbered plan_of
returns c =
    rw (sym c.port_out.ensures ∙ c.if-port_out.false, sym c.port_again.ensures ∙ c.if-port_again.false)

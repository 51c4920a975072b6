use mathlib.Core.Path.{◌∙◌}
use Rattle.plan_lines.proofs.Cuts.{cut_none, cut_first}
use Rattle.plan_lines.proofs.Words.{flow_alone, no_flow}
use Rattle.plan_lines.proofs.lines.flow_of.Goals as goal

pub returns-then-end-rest : goal.returns-then-end-rest
returns-then-end-rest c = rw (cut_none _ c.end_of-end.ensures c.if-end-rest.true) (flow_alone _)

pub returns-in_err-port : goal.returns-in_err-port
returns-in_err-port c =
    rw (cut_first _ c.end_of-end.ensures c.if-end-rest.false)
    (c.from_residual.ensures ∙ no_flow _ c.in_err-port.ensures _)

pub returns : goal.returns
returns c = rw (cut_first _ c.end_of-end.ensures c.if-end-rest.false, c.in_ok-port.ensures) c.flow_line.ensures

use mathlib.Core.Path.{sym, ◌∙◌}
use Rattle.plan_lines.proofs.ByFields.{flow_no_number, flow_no_port, flow_no_kind, flow_no_vid, flow_read}
use Rattle.plan_lines.proofs.lines.flow_line.Goals as goal

pub returns-in_err-kind : goal.returns-in_err-kind
returns-in_err-kind c = c.from_residual.ensures ∙ flow_no_kind _ _ _ _ (sym c.flow_kind.ensures ∙ c.in_err-kind.was)

pub returns-in_err-number : goal.returns-in_err-number
returns-in_err-number c =
    c.from_residual-in_err-number.ensures ∙ flow_no_number _ _ _ _ (sym c.number_of.ensures ∙ c.in_err-number.was)

pub returns-in_err-port : goal.returns-in_err-port
returns-in_err-port c =
    c.from_residual-in_err-port.ensures ∙ flow_no_port _ _ _ _ (sym c.number_of.ensures ∙ c.in_ok-number.was) (sym c.number_of-2.ensures ∙ c.in_err-port.was)

pub returns-in_err-vid : goal.returns-in_err-vid
returns-in_err-vid c =
    c.from_residual-in_err-vid.ensures ∙ flow_no_vid _ _ _ _ (sym c.number_of.ensures ∙ c.in_ok-number.was) (sym c.number_of-2.ensures ∙ c.in_ok-port.was) (sym c.flow_kind.ensures ∙ c.in_ok-kind.was) (sym c.number_of-3.ensures ∙ c.in_err-vid.was)

pub returns : goal.returns
returns c =
    flow_read _ _ _ _ (sym c.number_of.ensures ∙ c.in_ok-number.was) (sym c.number_of-2.ensures ∙ c.in_ok-port.was) (sym c.flow_kind.ensures ∙ c.in_ok-kind.was) (sym c.number_of-3.ensures ∙ c.in_ok-vid.was)

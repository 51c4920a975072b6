use mathlib.Core.Path.{sym, ◌∙◌}
use Rattle.plan_lines.proofs.ByFields.{port_no_number, port_no_kind, port_no_address, port_read}
use Rattle.plan_lines.proofs.lines.port_line.Goals as goal

pub returns-in_err-kind : goal.returns-in_err-kind
returns-in_err-kind c = c.from_residual.ensures ∙ port_no_kind _ _ _ (sym c.port_kind.ensures ∙ c.in_err-kind.was)

pub returns-in_err-number : goal.returns-in_err-number
returns-in_err-number c =
    c.from_residual-in_err-number.ensures ∙ port_no_number _ _ _ (sym c.number_of.ensures ∙ c.in_err-number.was)

pub returns-in_err-address : goal.returns-in_err-address
returns-in_err-address c =
    c.from_residual-in_err-address.ensures ∙ port_no_address _ _ _ (sym c.number_of.ensures ∙ c.in_ok-number.was) (sym c.port_kind.ensures ∙ c.in_ok-kind.was) (sym c.address_of.ensures ∙ c.in_err-address.was)

pub returns : goal.returns
returns c =
    port_read _ _ _ (sym c.number_of.ensures ∙ c.in_ok-number.was) (sym c.port_kind.ensures ∙ c.in_ok-kind.was) (sym c.address_of.ensures ∙ c.in_ok-address.was)

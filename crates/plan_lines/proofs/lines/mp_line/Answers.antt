use mathlib.Core.Path.{sym, ◌∙◌}
use Rattle.plan_lines.proofs.ByFields.{mp_no_flow, mp_no_kind, mp_no_level, mp_read}
use Rattle.plan_lines.proofs.lines.mp_line.Goals as goal

pub returns-in_err-kind : goal.returns-in_err-kind
returns-in_err-kind c = c.from_residual.ensures ∙ mp_no_kind _ _ _ (sym c.mp_kind.ensures ∙ c.in_err-kind.was)

pub returns-in_err-flow : goal.returns-in_err-flow
returns-in_err-flow c =
    c.from_residual-in_err-flow.ensures ∙ mp_no_flow _ _ _ (sym c.number_of.ensures ∙ c.in_err-flow.was)

pub returns-in_err-level : goal.returns-in_err-level
returns-in_err-level c =
    c.from_residual-in_err-level.ensures ∙ mp_no_level _ _ _ (sym c.number_of.ensures ∙ c.in_ok-flow.was) (sym c.mp_kind.ensures ∙ c.in_ok-kind.was) (sym c.number_of-2.ensures ∙ c.in_err-level.was)

pub returns : goal.returns
returns c =
    mp_read _ _ _ (sym c.number_of.ensures ∙ c.in_ok-flow.was) (sym c.mp_kind.ensures ∙ c.in_ok-kind.was) (sym c.number_of-2.ensures ∙ c.in_ok-level.was)

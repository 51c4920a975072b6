use mathlib.Core.Path.{ap, ◌∙◌}
use mathlib.Core.Bool.{not}
use Rattle.state.proofs.ImageLaws.{ok_length}
use Rattle.tmavolice.proofs.CheckLaws.{stopped, quiet_passes, flow_stops, flow_missing, flow_passes}
use Rattle.tmavolice.proofs.refusals.flow_refusal.Goals as goal

pub returns-in_err-quiet_refusal : goal.returns-in_err-quiet_refusal
returns-in_err-quiet_refusal c = stopped _ _ c.from_residual.ensures.1 (flow_stops _ _ _ c.in_err-quiet_refusal.ensures)

pub whole-requires : goal.whole-requires
whole-requires c = ok_length _ (quiet_passes _ c.in_ok-quiet_refusal.ensures).0

pub returns-then-is_none : goal.returns-then-is_none
returns-then-is_none c =
    let quiet : _ = quiet_passes _ c.in_ok-quiet_refusal.ensures in
    flow_missing quiet.0 quiet.1 (rw c.whole.ensures at c.numbered_at.ensures) (c.is_none.ensures ∙ ap not c.if-is_none.true)

pub returns : goal.returns
returns c =
    let quiet : _ = quiet_passes _ c.in_ok-quiet_refusal.ensures in
    flow_passes quiet.0 quiet.1 (rw c.whole.ensures at c.numbered_at.ensures) (c.is_none.ensures ∙ ap not c.if-is_none.false)

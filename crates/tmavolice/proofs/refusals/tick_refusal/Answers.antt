use Rattle.state.proofs.ImageLaws.{ok_length}
use Rattle.tmavolice.proofs.CheckLaws.{stopped, quiet_passes, tick_stops, tick_far, tick_passes}
use Rattle.tmavolice.proofs.refusals.tick_refusal.Goals as goal

pub returns-in_err-quiet_refusal : goal.returns-in_err-quiet_refusal
returns-in_err-quiet_refusal c = stopped _ _ c.from_residual.ensures.1 (tick_stops _ _ _ c.in_err-quiet_refusal.ensures)

pub whole-requires : goal.whole-requires
whole-requires c = ok_length _ (quiet_passes _ c.in_ok-quiet_refusal.ensures).0

pub returns-then-jumped : goal.returns-then-jumped
returns-then-jumped c =
    let quiet : _ = quiet_passes _ c.in_ok-quiet_refusal.ensures in
    tick_far quiet.0 quiet.1 (rw c.whole.ensures at c.clock_of.ensures) c.jumped.ensures c.if-jumped.true

pub returns : goal.returns
returns c =
    let quiet : _ = quiet_passes _ c.in_ok-quiet_refusal.ensures in
    tick_passes quiet.0 quiet.1 (rw c.whole.ensures at c.clock_of.ensures) c.jumped.ensures c.if-jumped.false

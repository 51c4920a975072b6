use Rattle.state.proofs.ImageLaws.{ok_length}
use Rattle.tmavolice.proofs.CheckLaws.{stopped, image_passes, image_stops, notice_short, notice_none, notice_passes}
use Rattle.tmavolice.proofs.refusals.notice_refusal.Goals as goal

pub returns-in_err-image_refusal : goal.returns-in_err-image_refusal
returns-in_err-image_refusal c = stopped _ _ c.from_residual.ensures.1 (image_stops _ _ _ c.in_err-image_refusal.ensures)

pub returns-then-out-lt-LEAST_OUTPUT : goal.returns-then-out-lt-LEAST_OUTPUT
returns-then-out-lt-LEAST_OUTPUT c =
    notice_short (image_passes _ c.in_ok-image_refusal.ensures) c.if-out-lt-LEAST_OUTPUT.true

pub whole-requires : goal.whole-requires
whole-requires c = ok_length _ (image_passes _ c.in_ok-image_refusal.ensures)

pub returns-then-not-notice_due : goal.returns-then-not-notice_due
returns-then-not-notice_due c =
    notice_none (image_passes _ c.in_ok-image_refusal.ensures)
    c.if-out-lt-LEAST_OUTPUT.false (rw c.whole.ensures at c.notice_due.ensures) c.if-not-notice_due.true

pub returns : goal.returns
returns c =
    notice_passes (image_passes _ c.in_ok-image_refusal.ensures)
    c.if-out-lt-LEAST_OUTPUT.false (rw c.whole.ensures at c.notice_due.ensures) c.if-not-notice_due.false

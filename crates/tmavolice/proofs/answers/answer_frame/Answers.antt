use mathlib.Core.Path.{refl}
use Rattle.state.proofs.ImageLaws.{ok_length}
use Rattle.calls.specs.Calls.{served, lent, makes}
use Rattle.tmavolice.proofs.CheckLaws.{image_passes, image_stops, refused_alone}
use Rattle.tmavolice.proofs.EnterLaws.{entered_err, entered_served}
use Rattle.tmavolice.proofs.answers.answer_frame.Goals as goal

pub returns-in_err-image_refusal : goal.returns-in_err-image_refusal
unfolding lent makes
returns-in_err-image_refusal c =
    entered_err {Known = Unit {0}} _ _ c.from_residual.ensures.1
    (refused_alone _ (image_stops _ _ _ c.in_err-image_refusal.ensures)) refl

pub unwrap-image-requires : goal.unwrap-image-requires
unwrap-image-requires c = c.as_mut_array.ensures.variant.1 (ok_length _ (image_passes _ c.in_ok-image_refusal.ensures))

pub returns-in_err-frame_refusal : goal.returns-in_err-frame_refusal
unfolding lent makes
returns-in_err-frame_refusal c =
    let same : _ = (rw c.unwrap-image.ensures at c.as_mut_array.ensures.cases).same in
    rw (← same)
    (entered_err _ _ c.from_residual-in_err-frame_refusal.ensures.1 (c.in_err-frame_refusal.ensures _ c.port_numbered-arrival.ensures) refl)

pub returns : goal.returns
unfolding served lent makes
returns c =
    let same : _ = (rw c.unwrap-image.ensures at c.as_mut_array.ensures.cases).same in
    let found : _ = c.port_numbered-arrival.ensures in
    rw (← same) (entered_served (c.in_ok-frame_refusal.ensures _ found) refl refl (c.serve_frame.ensures _ found) refl)

use Rattle.state.proofs.ImageLaws.{ok_length}
use Rattle.tmavolice.proofs.CheckLaws.{image_passes}
use Rattle.tmavolice.proofs.refusals.quiet_refusal.Goals as goal

pub whole-requires : goal.whole-requires
whole-requires c = ok_length _ (image_passes _ c.in_ok-image_refusal.ensures)

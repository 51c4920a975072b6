use mathlib.Core.Path.{refl}
use Rattle.codec.specs.FrameSet.{group}
use Rattle.codec.proofs.frame.is_group.Goals as goal

pub returns : goal.returns
unfolding group
returns c = refl

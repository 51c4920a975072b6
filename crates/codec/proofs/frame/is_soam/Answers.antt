use Rattle.codec.specs.FrameSet.{soam, type_behind}
use Rattle.codec.proofs.frame.is_soam.Goals as goal

pub returns : goal.returns
unfolding soam type_behind
returns c = simp c.number2.ensures.0

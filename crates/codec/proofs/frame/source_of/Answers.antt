use Rattle.codec.specs.FrameSet.{source}
use Rattle.codec.proofs.frame.source_of.Goals as goal

pub returns : goal.returns
unfolding source
returns c = c.number6.ensures

use Rattle.codec.specs.FrameSet.{destination}
use Rattle.codec.proofs.frame.destination_of.Goals as goal

pub returns : goal.returns
unfolding destination
returns c = c.number6.ensures

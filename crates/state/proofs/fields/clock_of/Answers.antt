use Rattle.state.specs.Image.{state_of}
use Rattle.state.proofs.fields.clock_of.Goals as goal

pub returns : goal.returns
unfolding state_of
returns c = c.low4.ensures

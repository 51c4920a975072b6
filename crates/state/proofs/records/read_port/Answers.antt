use lib.Seq.{get_or-drop}
use Rattle.state.specs.Image.{port_in}
use Rattle.state.proofs.records.read_port.Goals as goal

pub returns : goal.returns
unfolding port_in
returns c = simp (c.low6.ensures.0, get_or-drop)

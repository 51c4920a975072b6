use lib.Seq.{drop-drop}
use Rattle.state_tables.specs.Pass.{odd_of}
use Rattle.state_tables.proofs.flows.odd_of.Goals as goal

pub returns : goal.returns
unfolding odd_of
returns c = rw (c.low8.ensures, c.low8-2.ensures, c.low8-3.ensures, drop-drop, drop-drop, drop-drop)

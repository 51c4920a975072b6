use lib.Seq.{get_or-drop, drop-drop}
use Rattle.state.specs.Image.{session_in}
use Rattle.state.proofs.records.read_session.Goals as goal

pub returns : goal.returns
unfolding session_in
returns c = (
  simp (drop-drop, get_or-drop) (cc),
  c.low6.ensures.1,
)

use Rattle.calls_requests.specs.Arrival.{session_of}
use Rattle.calls_requests.proofs.decision.new_session.Goals as goal

pub returns : goal.returns
unfolding session_of
returns c = rw c.tag_of.ensures

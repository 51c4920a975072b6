use Rattle.state.specs.Image.{zeros}
use Rattle.state_store.specs.StoredRows.{sessions_cleared}
use Rattle.state_store.proofs.sessions.clear_sessions.Goals as goal

pub returns : goal.returns
unfolding sessions_cleared zeros
returns c = c.clear.ensures

use Rattle.state_store.specs.StoredRows.{row_removed}
use Rattle.state_store.proofs.Ways.{removed_there}
use Rattle.state_store.proofs.session.remove_session.Goals as goal

pub returns-in-Some : goal.returns-in-Some
returns-in-Some c = rw c.in-Some.is (removed_there _ _ c.move_down.ensures c.clear.ensures)

pub returns-in_default : goal.returns-in_default
unfolding row_removed
returns-in_default c = rw c.in_default.is

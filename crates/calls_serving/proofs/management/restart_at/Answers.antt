use Rattle.calls_serving.proofs.ManageLaws.{restarted_there}
use Rattle.calls_serving.proofs.management.restart_at.Goals as goal

pub returns : goal.returns
returns c =
    restarted_there _ c.requires.ok _ c.clear_sessions.ensures c.set_clock.ensures

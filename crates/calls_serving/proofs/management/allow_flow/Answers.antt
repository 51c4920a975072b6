use Rattle.machine.specs.Table.{event_at}
use Rattle.calls_serving.proofs.management.allow_flow.Goals as goal

pub returns : goal.returns
unfolding event_at
returns c = c.manage_flow.ensures

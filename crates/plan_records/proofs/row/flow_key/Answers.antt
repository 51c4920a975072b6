use Rattle.plan.specs.Plan.{flow_key}
use Rattle.plan_records.proofs.row.flow_key.Goals as goal

pub returns : goal.returns
unfolding flow_key
returns c = c.set_key.ensures

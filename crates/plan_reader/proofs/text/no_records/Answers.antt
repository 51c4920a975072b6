use Rattle.plan.specs.PlanText.{empty_plan}
use Rattle.plan.specs.Records.{filled, by_value}
use Rattle.plan_reader.proofs.text.no_records.Goals as goal

pub returns : goal.returns
unfolding by_value filled empty_plan
returns c = rw (c.no_flow.ensures, c.no_port.ensures)

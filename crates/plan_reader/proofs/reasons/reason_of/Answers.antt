use Rattle.plan_reader.specs.ReadPlan.{said_reason}
use Rattle.plan_reader.proofs.reasons.reason_of.Goals as goal

pub returns-in-OfPort : goal.returns-in-OfPort
unfolding said_reason
returns-in-OfPort c = rw c.in-OfPort.is c.port_reason.ensures

pub returns-in-OfFlow : goal.returns-in-OfFlow
unfolding said_reason
returns-in-OfFlow c = rw c.in-OfFlow.is c.flow_reason.ensures

pub returns-in-OfMp : goal.returns-in-OfMp
unfolding said_reason
returns-in-OfMp c = rw c.in-OfMp.is c.mp_reason.ensures

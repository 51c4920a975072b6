use Rattle.plan_reader.specs.ReadPlan.{said_reason, said_added}
use Rattle.plan_reader.proofs.additions.with_line.Goals as goal

pub with_port-requires : goal.with_port-requires
unfolding said_reason
with_port-requires c =
    let q : _ = c.requires in
    (q.0, q.1, rw c.in-OfPort.is at q.2)

pub with_flow-requires : goal.with_flow-requires
unfolding said_reason
with_flow-requires c =
    let q : _ = c.requires in
    (q.0, q.1, rw c.in-OfFlow.is at q.2)

pub with_mp-requires : goal.with_mp-requires
unfolding said_reason
with_mp-requires c =
    let q : _ = c.requires in
    (q.0, rw c.in-OfMp.is at q.2)

pub returns-in-OfPort : goal.returns-in-OfPort
unfolding said_added
returns-in-OfPort c = rw c.in-OfPort.is c.with_port.ensures

pub returns-in-OfFlow : goal.returns-in-OfFlow
unfolding said_added
returns-in-OfFlow c = rw c.in-OfFlow.is c.with_flow.ensures

pub returns-in-OfMp : goal.returns-in-OfMp
unfolding said_added
returns-in-OfMp c = rw c.in-OfMp.is c.with_mp.ensures

use Rattle.calls_serving.proofs.ManageLaws.{flow_action}
use Rattle.calls_serving.proofs.management.allowed_by.Goals as goal

pub returns : goal.returns
returns c =
    rw (
      c.allowed_after.ensures,
      c.action.ensures,
      c.condition_of.ensures.0,
      c.allows-now.ensures,
      flow_action,
    )

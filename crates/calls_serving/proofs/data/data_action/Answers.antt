use Rattle.machine.proofs.Laws.{action_at_lem}
use Rattle.calls_serving.proofs.data.data_action.Goals as goal

pub returns : goal.returns
returns c =
    rw (
      c.action.ensures,
      c.condition_of.ensures.0,
      c.data_event.ensures.0,
      action_at_lem,
      c.allows.ensures,
      c.wide.ensures.0,
    )

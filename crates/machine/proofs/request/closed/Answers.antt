use Rattle.machine.specs.Machine.{closed}
use Rattle.std.proofs.Common.{sym, ◌∙◌}
use Rattle.machine.proofs.request.closed.Goals as goal
use Rattle.machine.proofs.request.closed.Goals.{in_default-via-in-Active+else-same_mp, in_default-via-in_default}

pub returns-in-Active : goal.returns-in-Active
unfolding closed
returns-in-Active c = rw (c.in-Active.is, sym c.same_mp.ensures ∙ c.if-same_mp.true)

pub returns-in_default : goal.returns-in_default
unfolding closed
returns-in_default c =
    elim c.in_default.branch [
      | in_default-via-in-Active+else-same_mp w ↦ rw (w.in-Active.is, sym w.same_mp.ensures ∙ w.if-same_mp.false) c.answered.ensures
      | in_default-via-in_default w ↦ rw w.in_default.is c.answered.ensures
    ]

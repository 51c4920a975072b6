use native.Mathlib.Omega.{arith}
use Rattle.events_shift.specs.Held.{lent_to}
use Rattle.events_shift.proofs.steps.lent_of.Goals as goal

pub returns-in-Frame : goal.returns-in-Frame
unfolding lent_to
returns-in-Frame c = (rw c.in-Frame.is, omega arith)

pub returns-in-Notice : goal.returns-in-Notice
unfolding lent_to
returns-in-Notice c = (rw c.in-Notice.is, omega arith)

pub returns-in-Tick : goal.returns-in-Tick
unfolding lent_to
returns-in-Tick c = (rw c.in-Tick.is, omega arith)

pub returns-in-Allow : goal.returns-in-Allow
unfolding lent_to
returns-in-Allow c = (rw c.in-Allow.is, omega arith)

pub returns-in-Prohibit : goal.returns-in-Prohibit
unfolding lent_to
returns-in-Prohibit c = (rw c.in-Prohibit.is, omega arith)

pub returns-in-Restart : goal.returns-in-Restart
unfolding lent_to
returns-in-Restart c = (rw c.in-Restart.is, omega arith)

use native.Mathlib.Omega.{arith}
use Rattle.state_probe.specs.Probe.{session_part}
use Rattle.state_probe.proofs.session_part.Goals as goal

pub returns-in-Inactive : goal.returns-in-Inactive
unfolding session_part
returns-in-Inactive c = (rw c.in-Inactive.is, omega arith)

pub returns-in-Active : goal.returns-in-Active
unfolding session_part
returns-in-Active c = (rw c.in-Active.is, omega arith)

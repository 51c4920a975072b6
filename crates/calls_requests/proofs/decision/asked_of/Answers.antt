use native.Mathlib.Omega.{arith}
use Rattle.calls_requests.specs.Arrival.{asked_of}
use Rattle.calls_requests.proofs.decision.asked_of.Goals as goal

pub returns-in-Malformed : goal.returns-in-Malformed
unfolding asked_of
returns-in-Malformed c = (rw c.in-Malformed.is, tt)

pub returns-in-Reserved : goal.returns-in-Reserved
unfolding asked_of
returns-in-Reserved c = (rw c.in-Reserved.is, tt)

pub returns-in-Activate : goal.returns-in-Activate
unfolding asked_of
returns-in-Activate c = (rw c.in-Activate.is, omega arith)

pub returns-in-Deactivate : goal.returns-in-Deactivate
unfolding asked_of
returns-in-Deactivate c = (rw c.in-Deactivate.is, omega arith)

pub returns-in-State : goal.returns-in-State
unfolding asked_of
returns-in-State c = (rw c.in-State.is, omega arith)

use native.Mathlib.Omega.{arith}
use Rattle.octets.specs.Text.{text}
use Rattle.events_shift.specs.Step.{word_of}
use Rattle.events_shift.specs.Held.{event_in}
use Rattle.events_shift.proofs.steps.word_of.Goals as goal

pub returns-in-Frame : goal.returns-in-Frame
unfolding word_of event_in text
returns-in-Frame c = (rw c.in-Frame.is, omega arith)

pub returns-in-Tick : goal.returns-in-Tick
unfolding word_of event_in text
returns-in-Tick c = (rw c.in-Tick.is, omega arith)

pub returns-in-Allow : goal.returns-in-Allow
unfolding word_of event_in text
returns-in-Allow c = (rw c.in-Allow.is, omega arith)

pub returns-in-Prohibit : goal.returns-in-Prohibit
unfolding word_of event_in text
returns-in-Prohibit c = (rw c.in-Prohibit.is, omega arith)

pub returns-in-Notice : goal.returns-in-Notice
unfolding word_of event_in text
returns-in-Notice c = (rw c.in-Notice.is, omega arith)

pub returns-in-Restart : goal.returns-in-Restart
unfolding word_of event_in text
returns-in-Restart c = (rw c.in-Restart.is, omega arith)

use mathlib.Core.Logic.{inl, inr}
use Rattle.machine.specs.Machine.{after}
use Rattle.machine.proofs.sessions.after.Goals as goal

pub returns-in-Same : goal.returns-in-Same
unfolding after
returns-in-Same c = rw c.in-Same.is

pub returns-in-Closed : goal.returns-in-Closed
unfolding after
returns-in-Closed c = rw c.in-Closed.is

pub returns-in-Opened : goal.returns-in-Opened
unfolding after
returns-in-Opened c = elim c.in-Opened.is [ inl e ↦ rw e | inr e ↦ rw e ]

pub returns-in-Opened-2 : goal.returns-in-Opened-2
unfolding after
returns-in-Opened-2 c = elim c.in-Opened.is [ inl e ↦ rw e | inr e ↦ rw e ]

use borrow.Author.Tests.{le-ltb, lt-ltb}
use Rattle.machine.specs.Machine.{key}
use Rattle.state_probe.specs.Probe.{machine_at}
use Rattle.state_probe.proofs.machine_at.Goals as goal

pub returns-then-source-ge281474976710656 : goal.returns-then-source-ge281474976710656
unfolding machine_at
returns-then-source-ge281474976710656 c = rw (le-ltb _ _ c.if-source-ge281474976710656.true)

pub returns : goal.returns
unfolding machine_at key
returns c = rw (lt-ltb _ _ c.if-source-ge281474976710656.false, c.machine_of.ensures)

use native.Mathlib.Omega.{arith}
use Rattle.std.proofs.lemmas.Grind.{common_steps}
use Rattle.octets.specs.Lists.{within}
use Rattle.machine.specs.Machine.{is_open}
use Rattle.state.specs.State.{good_time}
use Rattle.state_valid.proofs.sessions.good_time.Goals as goal

pub returns-then-x-ge1 : goal.returns-then-x-ge1
unfolding good_time is_open within
returns-then-x-ge1 c = grind (arith, common_steps)

pub returns-else-x-ge1 : goal.returns-else-x-ge1
unfolding good_time is_open within
returns-else-x-ge1 c = grind (arith, common_steps)

pub returns-then-x-eq0-2 : goal.returns-then-x-eq0-2
unfolding good_time is_open within
returns-then-x-eq0-2 c = grind (arith, common_steps)

pub returns-else-x-eq0-2 : goal.returns-else-x-eq0-2
unfolding good_time is_open within
returns-else-x-eq0-2 c = grind (arith, common_steps)

use Prim.Native.Nat.{◌-◌, ◌≤◌}
use lib.ListN.{length}
use Rattle.state_tables.proofs.ZeroLaws.{SameFrom}
use Rattle.state_tables.proofs.rest.rest_zero.Given as goal

abbrev pub invariant-loop-i : goal.invariant-loop-i
invariant-loop-i l = (l.at ≤ l.i) × ((l.i ≤ length l.t) × SameFrom l.at l.i l.t)

abbrev pub decreases-loop-i : goal.decreases-loop-i
decreases-loop-i l = length l.t - l.i

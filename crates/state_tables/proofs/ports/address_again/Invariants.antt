use mathlib.Core.Path.{◌≡◌}
use Prim.Native.Nat.{◌≤◌}
use lib.Dec.{eqb}
use Rattle.octets.specs.Lists.{some}
use Rattle.state_tables.proofs.AddressTurns.{addresses}
use Rattle.state_tables.proofs.ports.address_again.Given as goal

abbrev pub invariant-loop-i : goal.invariant-loop-i
invariant-loop-i l = (l.i ≤ 8) × (some (eqb l.address) (addresses l.i l.t) ≡ some (eqb l.address) (addresses l.from l.t))

use mathlib.Core.Path.{◌≡◌}
use Prim.Native.Nat.{◌≤◌}
use Rattle.octets.specs.Lists.{distinct}
use Rattle.state_tables.proofs.AddressTurns.{addresses}
use Rattle.state_tables.proofs.ports.addresses_differ.Given as goal

abbrev pub invariant-loop-i : goal.invariant-loop-i
invariant-loop-i l = (l.i ≤ 8) × (distinct (addresses l.i l.t) ≡ distinct (addresses 0 l.t))

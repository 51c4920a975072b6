use mathlib.Core.Path.{◌≡◌}
use Prim.Native.Nat.{◌≤◌, ◌-◌}
use Rattle.octets.specs.Octets.{moved_up}
use Rattle.octets.proofs.moves.move_up.Given as goal

abbrev pub invariant-loop-moved : goal.invariant-loop-moved
invariant-loop-moved l = (l.moved ≤ l.high - l.low) × (l.b ≡ moved_up l.by (l.high - l.moved) l.high l.initial.b)

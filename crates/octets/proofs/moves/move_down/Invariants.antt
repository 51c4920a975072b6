use mathlib.Core.Path.{◌≡◌}
use Prim.Native.Nat.{◌≤◌}
use Rattle.octets.specs.Octets.{moved_down}
use Rattle.octets.proofs.moves.move_down.Given as goal

abbrev pub invariant-loop-i : goal.invariant-loop-i
invariant-loop-i l = (l.i ≤ l.high) × (l.b ≡ moved_down l.by l.low l.i l.initial.b)

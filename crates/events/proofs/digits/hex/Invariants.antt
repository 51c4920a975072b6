use mathlib.Core.Path.{◌≡◌}
use Prim.Native.Nat.{◌*◌}
use lib.ListN.{length, take}
use Rattle.events.specs.AnswerLine.{hexed}
use Rattle.events.specs.Read.{Put}
use Rattle.events.proofs.digits.hex.Given as goal

abbrev pub invariant-loop-i : goal.invariant-loop-i
invariant-loop-i l =
    (length l.out ≡ length l.initial.out) × Put (hexed (take l.i l.octets)) 0 (2 * l.i) l.initial.out l.out

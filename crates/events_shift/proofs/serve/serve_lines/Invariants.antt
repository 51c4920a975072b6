use mathlib.Core.Path.{◌≡◌}
use Prim.Native.Nat.{◌-◌}
use lib.ListN.{length}
use Rattle.events_shift.proofs.ServeLaws.{Serving}
use Rattle.events_shift.proofs.serve.serve_lines.Given as goal

abbrev pub invariant-loop-out : goal.invariant-loop-out
invariant-loop-out l =
    Serving l.initial.image l.buffer l.from l.number l.initial.out l.image l.out l.turn.from l.turn.number l.turn.at
    × ((length l.image ≡ length l.initial.image) × (length l.sent ≡ length l.initial.sent))

abbrev pub decreases-loop-out : goal.decreases-loop-out
decreases-loop-out l =
    length l.buffer - l.turn.from

use mathlib.Core.Path.{◌≡◌}
use mathlib.Core.List.{◌++◌}
use lib.ListN.{length, take, drop}
use Rattle.events.specs.Event.{unhexed}
use Rattle.events.proofs.digits.unhex.Given as goal

abbrev pub invariant-loop-i : goal.invariant-loop-i
invariant-loop-i l =
    (length l.room ≡ length l.initial.room) × (l.room ≡ take l.i (unhexed l.f) ++ drop l.i l.initial.room)

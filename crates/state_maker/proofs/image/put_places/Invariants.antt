use Prim.Native.Nat.{◌+◌}
use Rattle.plan.specs.Records.{held_flows}
use Rattle.state_maker.specs.Places.{places_put}
use Rattle.state_maker.proofs.PlanRows.{Putting}
use Rattle.state_maker.proofs.image.put_places.Given as goal

abbrev pub invariant-loop-i : goal.invariant-loop-i
invariant-loop-i l = Putting (λ i. places_put (i + 1)) held_flows l.flows l.initial.b l.b l.i

use Rattle.std.proofs.Common.{◌≡◌, map}
use Rattle.plan.specs.PlanText.{with_mp}
use Rattle.plan_records.specs.Insertion.{changed_from}
use Rattle.plan_records.proofs.rows.mps_put.Given as goal

abbrev pub invariant-loop-f : goal.invariant-loop-f
invariant-loop-f l = changed_from l.f-index (with_mp l.flow l.kind l.level) l.flows ≡ map (with_mp l.flow l.kind l.level) l.fn.flows

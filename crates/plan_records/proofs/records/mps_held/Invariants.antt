use Rattle.std.proofs.Common.{◌≡◌, ◌≤◌, ◌+◌, ◌*◌, drop}
use Rattle.plan.specs.Plan.{mp_count}
use Rattle.plan.specs.Records.{held_flows}
use Rattle.plan_records.proofs.records.mps_held.Given as goal

abbrev pub invariant-loop-f : goal.invariant-loop-f
invariant-loop-f l = record {
  held : l.f-items ≡ held_flows l.flows;
  few : l.n ≤ 8 * l.f-index;
  so_far : l.n + mp_count (drop l.f-index l.f-items) ≡ mp_count l.f-items;
}

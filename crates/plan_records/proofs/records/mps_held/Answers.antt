use Rattle.std.proofs.Common.{rules, arith, ap, ◌∙◌, ◌≡◌, length}
use Rattle.plan.specs.Plan.{mp_count}
use Rattle.plan.specs.declared.Flow.{Flow}
use Rattle.plan_records.proofs.SeekLaws.{held_short, mps_turn, mps_end}
use Rattle.plan_records.proofs.records.mps_held.Goals as goal

pub loop-f-preserved : goal.loop-f-preserved
loop-f-preserved c =
    let t : _ = mps_turn c.held-f-items.result.now c.loop-f.f-index _ (omega arith) c.mps_in-n.ensures.0 in
    record {
      held = c.loop-f.invariant.held;
      few = omega (arith, c.mps_in-n.ensures.1);
      so_far = omega (arith, t, c.loop-f.invariant.so_far);
    }

pub overflow_cast-result : goal.overflow_cast-result
overflow_cast-result c =
    let n : length c.args.flows.now ≡ 32 = search rules in
    let h : _ = held_short (λ (f : Flow). f.number) c.args.flows.now in
    let e : _ = ap length c.loop-f.invariant.held in
    omega (arith, n, h, e, c.loop-f.invariant.few, c.loop-f.auto.f-index-end)

pub returns : goal.returns
returns c =
    let e : _ = mps_end c.held-f-items.result.now c.loop-f.f-index (omega arith) in
    let s : c.loop-f.n ≡ mp_count c.held-f-items.result.now = omega (arith, e, c.loop-f.invariant.so_far) in
    s ∙ ap mp_count c.loop-f.invariant.held

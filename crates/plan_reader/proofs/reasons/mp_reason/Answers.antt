use mathlib.Core.Path.{refl, sym, ◌∙◌}
use Prim.Native.Nat.{◌≤◌}
use native.Mathlib.Omega.{arith}
use lib.Dec.{eqb}
use lib.ListN.{get_or}
use borrow.Author.Tests.{le-leb, lt-leb}
use Rattle.plan.specs.Plan.{no_flow, flow_numbered, mp_at}
use Rattle.plan.specs.PlanText.{mp_reason}
use Rattle.plan.specs.Records.{plan_of}
use Rattle.plan_reader.specs.ReadPlan.{judged, reason_numbered}
use Rattle.plan_reader.proofs.ReasonLaws.{is_first, is_there, is_gone, level_high}
use Rattle.plan_reader.proofs.reasons.mp_reason.Goals as goal

pub returns-then-mp_out : goal.returns-then-mp_out
unfolding judged reason_numbered mp_reason
returns-then-mp_out c = rw (sym c.mp_out.ensures ∙ c.if-mp_out.true)

pub returns-in_default : goal.returns-in_default
unfolding judged reason_numbered mp_reason flow_numbered plan_of no_flow
returns-in_default c =
    let a : _ = c.args in
    rw (
      sym c.mp_out.ensures ∙ c.if-mp_out.false,
      is_gone (λ f. f.number) (λ f. eqb f.number a.flow) no_flow a.r.now.flows c.flow_numbered.ensures refl c.in_default.is,
    )

pub bounds-f-level : goal.bounds-f-level
bounds-f-level c =
    let a : _ = c.args in
    omega (arith, level_high a.flow a.level (sym c.mp_out.ensures ∙ c.if-mp_out.false))

pub returns-then-f-level-ne0 : goal.returns-then-f-level-ne0
unfolding judged reason_numbered mp_reason flow_numbered plan_of mp_at
returns-then-f-level-ne0 c =
    let a : _ = c.args in
    let h : 1 ≤ get_or c.in-Some.f.mps a.level 0 = omega (arith, c.if-f-level-ne0.true) in
    rw (
      sym c.mp_out.ensures ∙ c.if-mp_out.false,
      is_there (λ f. f.number) (λ f. eqb f.number a.flow) no_flow a.r.now.flows c.flow_numbered.ensures c.in-Some.is,
      is_first (λ f. f.number) (λ f. eqb f.number a.flow) no_flow a.r.now.flows c.flow_numbered.ensures c.in-Some.is,
      le-leb 1 _ h,
    )

pub returns-then-mps_held-ge-MOST_MPS : goal.returns-then-mps_held-ge-MOST_MPS
unfolding judged reason_numbered mp_reason flow_numbered plan_of mp_at
returns-then-mps_held-ge-MOST_MPS c =
    let a : _ = c.args in
    rw (
      sym c.mp_out.ensures ∙ c.if-mp_out.false,
      is_there (λ f. f.number) (λ f. eqb f.number a.flow) no_flow a.r.now.flows c.flow_numbered.ensures c.in-Some.is,
      is_first (λ f. f.number) (λ f. eqb f.number a.flow) no_flow a.r.now.flows c.flow_numbered.ensures c.in-Some.is,
      c.if-f-level-ne0.false,
      sym c.mps_held.ensures,
      le-leb 32 _ c.if-mps_held-ge-MOST_MPS.true,
    )

pub returns : goal.returns
unfolding judged mp_reason flow_numbered plan_of mp_at
returns c =
    let a : _ = c.args in
    rw (
      sym c.mp_out.ensures ∙ c.if-mp_out.false,
      is_there (λ f. f.number) (λ f. eqb f.number a.flow) no_flow a.r.now.flows c.flow_numbered.ensures c.in-Some.is,
      is_first (λ f. f.number) (λ f. eqb f.number a.flow) no_flow a.r.now.flows c.flow_numbered.ensures c.in-Some.is,
      c.if-f-level-ne0.false,
      sym c.mps_held.ensures,
      lt-leb 32 _ c.if-mps_held-ge-MOST_MPS.false,
    )

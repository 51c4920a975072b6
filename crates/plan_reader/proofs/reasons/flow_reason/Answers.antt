use mathlib.Core.Path.{refl, sym, ◌∙◌}
use native.Mathlib.Omega.{arith}
use lib.Dec.{eqb}
use Rattle.codec.specs.FrameSet.{set_of}
use Rattle.plan.specs.Plan.{no_port, port_numbered, flow_numbered, flow_of_set}
use Rattle.plan.specs.PlanText.{flow_reason}
use Rattle.plan.specs.Records.{plan_of}
use Rattle.plan_reader.specs.ReadPlan.{judged, reason_numbered}
use Rattle.plan_reader.proofs.ReasonLaws.{is_first, is_there, is_gone, flow_high}
use Rattle.plan_reader.proofs.reasons.flow_reason.Goals as goal

pub returns-then-flow_out : goal.returns-then-flow_out
unfolding judged reason_numbered flow_reason
returns-then-flow_out c = rw (sym c.flow_out.ensures ∙ c.if-flow_out.true)

pub returns-in_default : goal.returns-in_default
unfolding judged reason_numbered flow_reason port_numbered plan_of no_port
returns-in_default c =
    let a : _ = c.args in
    rw (
      sym c.flow_out.ensures ∙ c.if-flow_out.false,
      is_gone (λ p. p.number) (λ p. eqb p.number a.port) no_port a.r.now.ports c.port_numbered.ensures refl c.in_default.is,
    )

pub returns-then-not-good_kind : goal.returns-then-not-good_kind
unfolding judged reason_numbered flow_reason port_numbered plan_of
returns-then-not-good_kind c =
    let a : _ = c.args in
    rw (
      sym c.flow_out.ensures ∙ c.if-flow_out.false,
      is_there (λ p. p.number) (λ p. eqb p.number a.port) no_port a.r.now.ports c.port_numbered.ensures c.in-Some.is,
      is_first (λ p. p.number) (λ p. eqb p.number a.port) no_port a.r.now.ports c.port_numbered.ensures c.in-Some.is,
      sym c.good_kind.ensures ∙ c.if-not-good_kind.true,
    )

pub overflow_cast-port : goal.overflow_cast-port
overflow_cast-port c =
    let a : _ = c.args in
    omega (arith, (flow_high a.number a.port a.kind a.vid (sym c.flow_out.ensures ∙ c.if-flow_out.false)).0)

pub overflow_cast-vid : goal.overflow_cast-vid
overflow_cast-vid c =
    let a : _ = c.args in
    omega (arith, (flow_high a.number a.port a.kind a.vid (sym c.flow_out.ensures ∙ c.if-flow_out.false)).1)

pub returns-then-flow_again : goal.returns-then-flow_again
unfolding judged reason_numbered flow_reason port_numbered plan_of flow_numbered flow_of_set set_of
returns-then-flow_again c =
    let a : _ = c.args in
    rw (
      sym c.flow_out.ensures ∙ c.if-flow_out.false,
      is_there (λ p. p.number) (λ p. eqb p.number a.port) no_port a.r.now.ports c.port_numbered.ensures c.in-Some.is,
      is_first (λ p. p.number) (λ p. eqb p.number a.port) no_port a.r.now.ports c.port_numbered.ensures c.in-Some.is,
      sym c.good_kind.ensures ∙ c.if-not-good_kind.false,
      sym (rw c.set_key.ensures at c.flow_again.ensures) ∙ c.if-flow_again.true,
    )

pub returns : goal.returns
unfolding judged flow_reason port_numbered plan_of flow_numbered flow_of_set set_of
returns c =
    let a : _ = c.args in
    rw (
      sym c.flow_out.ensures ∙ c.if-flow_out.false,
      is_there (λ p. p.number) (λ p. eqb p.number a.port) no_port a.r.now.ports c.port_numbered.ensures c.in-Some.is,
      is_first (λ p. p.number) (λ p. eqb p.number a.port) no_port a.r.now.ports c.port_numbered.ensures c.in-Some.is,
      sym c.good_kind.ensures ∙ c.if-not-good_kind.false,
      sym (rw c.set_key.ensures at c.flow_again.ensures) ∙ c.if-flow_again.false,
    )

-- A port with no fault, added to a plan that keeps the rules so far: the plan still keeps them.
use mathlib.Core.Path.{◌≡◌, sym, ◌∙◌}
use mathlib.Core.Bool.{true, false, true≢false}
use Prim.Native.Nat.{ℕ, ◌^◌}
use lib.Dec.{eqb, ltb}
use Rattle.octets.specs.Lists.{within}
use Rattle.octets.proofs.Same.{both_true}
use Rattle.octets.proofs.Cases.{by_eq}
use Rattle.octets.proofs.ListLaws.{every_such, within_low}
use Rattle.octets.proofs.PutLaws.{put_every, put_ascends, put_first, put_distinct}
use Rattle.codec.specs.FrameSet.{uni, enni}
use Rattle.plan.specs.declared.Port.{Port}
use Rattle.plan.specs.declared.Flow.{Flow}
use Rattle.plan.specs.Plan.{Plan, no_port, port_numbered, good_port, good_flow, so_far}
use Rattle.plan.specs.Line.{port_line}
use Rattle.plan.specs.PlanText.{added}
use Rattle.plan.proofs.Fair.{fair_line}
use Rattle.plan.proofs.Kept.{Kept, kept, so_far_lem, good_flow_lem}
use Rattle.plan.proofs.Faultless.{FaultlessPort}

-- A flow is judged by its port alone.
pub same_judged : (one two : Plan) (f : Flow) → port_numbered f.port two ≡ port_numbered f.port one
    → good_flow two f ≡ good_flow one f
unfolding good_flow
same_judged one two f e = rw e

module _ (plan : Plan) (h : so_far plan ≡ true) where
  k : Kept plan
  k = kept plan h

  module _ (number kind address : ℕ) (fair : fair_line (port_line number kind address) ≡ true)
      (f : FaultlessPort plan number address) where
    abbrev grown : Plan
    grown = added (port_line number kind address) plan

    port : Port
    port = record { number = number; kind = kind; address = address }

    port_good : good_port port ≡ true
    unfolding good_port fair_line port
    port_good =
        let b : _ = both_true (within uni enni kind) (ltb address (2 ^ 48)) fair in
        rw (f.number_fits, b.0, f.address_good, b.1)

    other_port : (g : Flow) → good_flow plan g ≡ true → eqb number g.port ≡ false
    other_port g e =
        by_eq number g.port
        (λ t same. absurd (true≢false (sym (good_flow_lem plan g e).port_there ∙ rw same at f.number_new)))
        (λ t other. t)

    still_judged : (g : Flow) → good_flow plan g ≡ true → good_flow grown g ≡ true
    unfolding added port_numbered port
    still_judged g e =
        same_judged plan grown g (put_first (λ (p : Port). p.number) port no_port g.port (other_port g e) plan.ports) ∙ e

    pub port_keeps : so_far grown ≡ true
    unfolding added port
    port_keeps =
        so_far_lem grown
        record {
          ports_ascend =
              put_ascends (λ (p : Port). p.number) port 0 plan.ports (within_low 1 8 number f.number_fits)
              k.ports_ascend;
          ports_good = put_every (λ (p : Port). p.number) port good_port plan.ports port_good k.ports_good;
          addresses =
              put_distinct (λ (p : Port). p.number) (λ (p : Port). p.address) port plan.ports f.address_new
              k.addresses;
          flows_ascend = k.flows_ascend;
          flows_good = every_such (good_flow plan) (good_flow grown) still_judged plan.flows k.flows_good;
          numbers = k.numbers;
          mps_few = k.mps_few;
        }

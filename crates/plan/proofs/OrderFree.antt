-- The order of a plan's lines is no part of it: two texts with the same records that are read as plans are read as one plan.
use mathlib.Core.Path.{◌≡◌, refl, sym, ap, ◌∙◌}
use mathlib.Core.Bool.{true}
use mathlib.Core.List.{List}
use mathlib.Core.Logic.{⊎_elim}
use Prim.Native.Nat.{ℕ, ◌≤◌}
use native.Mathlib.Omega.{arith}
use lib.Dec.{eqb}
use lib.ListN.{length}
use lib.Seq.{ext_get_or}
use borrow.Author.Tests.{eqb-true, le-leb}
use Rattle.octets.specs.Lists.{In}
use Rattle.octets.proofs.Cases.{by_eq}
use Rattle.octets.proofs.ListLaws.{within_low}
use Rattle.octets.proofs.Members.{found_in, above, each, found_by, looked_up, same_lists}
use Rattle.plan.specs.declared.Port.{Port}
use Rattle.plan.specs.declared.Flow.{Flow}
use Rattle.plan.specs.Plan.{Plan, no_port, no_flow, port_numbered, flow_numbered, flow_key, in_plan, mp_at, good_flow, so_far}
use Rattle.plan.specs.Line.{Line, port_line, flow_line, mp_line}
use Rattle.plan.specs.PlanText.{planned, plan_in}
use Rattle.plan.specs.WrittenPlan.{port_record, flow_record}
use Rattle.plan.specs.SameRecords.{SameRecords}
use Rattle.plan.proofs.Kept.{kept, rules_so_far, GoodFlow, good_flow_lem}
use Rattle.plan.proofs.Found.{flow_passes}
use Rattle.plan.proofs.ReadKeeps.{read_keeps}
use Rattle.plan.proofs.Holds.{Holds}
use Rattle.plan.proofs.ReadHolds.{read_holds, read_only}

-- a record tells its port, and its flow but for the MPs
port_told : (p q : Port) → port_record p ≡ port_record q → p ≡ q
unfolding port_record
port_told p q e =
    let a : p.number ≡ q.number = cc in
    let b : p.kind ≡ q.kind = cc in
    let c : p.address ≡ q.address = cc in
    λ i. record { number = a i; kind = b i; address = c i }

flow_told : (f g : Flow) → flow_record f ≡ flow_record g → f.mps ≡ g.mps → f ≡ g
unfolding flow_record
flow_told f g e m =
    let a : f.number ≡ g.number = cc in
    let b : f.port ≡ g.port = cc in
    let c : f.kind ≡ g.kind = cc in
    let d : f.vid ≡ g.vid = cc in
    λ i. record { number = a i; port = b i; kind = c i; vid = d i; mps = m i }

-- what one plan holds, the other does too
module _ (p q : Plan) (hp : so_far p ≡ true) (hq : so_far q ≡ true) (to : (r : Line) → Holds p r → Holds q r)
    (fro : (r : Line) → Holds q r → Holds p r) where
  module _ (x : Port) (m : In x p.ports) where
    some : 1 ≤ x.number
    some = above (λ (y : Port). y.number) 0 x p.ports (kept p hp).ports_ascend m

    port_here : port_numbered x.number p ≡ x
    unfolding port_numbered
    port_here = looked_up (λ (y : Port). y.number) 0 x no_port p.ports (kept p hp).ports_ascend m

    port_there : port_numbered x.number q ≡ x
    unfolding port_record
    port_there =
        port_told (port_numbered x.number q) x
        (to (port_line x.number x.kind x.address) (some, ap port_record port_here)).1

    port_in_lem : In x q.ports
    unfolding port_numbered no_port
    port_in_lem =
        ⊎_elim (λ e. let z : x.number ≡ 0 = ap (λ (y : Port). y.number) (sym port_there ∙ e) in absurd (omega (arith, some)))
        (λ found. rw port_there at found)
        (found_in (λ y. eqb y.number x.number) no_port q.ports)

  module _ (x : Flow) (m : In x p.flows) where
    good : GoodFlow p x
    good = good_flow_lem p x (each (good_flow p) x p.flows (kept p hp).flows_good m)

    number : 1 ≤ x.number
    number = within_low 1 32 x.number good.number_fits

    flow_here : flow_numbered x.number p ≡ x
    unfolding flow_numbered
    flow_here = found_by (λ (y : Flow). y.number) x no_flow p.flows (kept p hp).numbers m

    there : Flow
    there = flow_numbered x.number q

    record_there : flow_record there ≡ flow_record x
    unfolding flow_record there
    record_there = (to (flow_line x.number x.port x.kind x.vid) (number, ap flow_record flow_here)).1

    number_there : there.number ≡ x.number
    unfolding flow_record
    number_there = let e : flow_record there ≡ flow_record x = record_there in cc

    good_there : GoodFlow q there
    unfolding there in_plan
    good_there =
        good_flow_lem q there
        (flow_passes q (good_flow q) x.number (kept q hq).flows_good
        (le-leb 1 there.number (omega (arith, number, number_there))))

    mp_same : (level : ℕ) → mp_at level there ≡ mp_at level x
    unfolding there
    mp_same level =
        by_eq (mp_at level x) 0
        (λ e none.
        by_eq (mp_at level there) 0 (λ f none_there. none_there ∙ sym none)
        (λ f some-there.
        sym (fro (mp_line x.number (mp_at level there) level) (omega (arith, some-there), refl)).1
        ∙ ap (mp_at level) flow_here))
        (λ e some-here.
        (to (mp_line x.number (mp_at level x) level) (omega (arith, some-here), ap (mp_at level) flow_here)).1)

    mps_same : there.mps ≡ x.mps
    unfolding mp_at
    mps_same =
        ext_get_or 0 there.mps x.mps
        (eqb-true (length there.mps) 8 good_there.mps_long ∙ sym (eqb-true (length x.mps) 8 good.mps_long))
        (λ level below. mp_same level)

    flow_there : there ≡ x
    flow_there = flow_told there x record_there mps_same

    flow_in_lem : In x q.flows
    unfolding there flow_numbered no_flow
    flow_in_lem =
        ⊎_elim
        (λ e. let z : x.number ≡ 0 = ap (λ (y : Flow). y.number) (sym flow_there ∙ e) in absurd (omega (arith, number)))
        (λ found. rw flow_there at found)
        (found_in (λ y. eqb y.number x.number) no_flow q.flows)

same_plan : (p q : Plan) → so_far p ≡ true → so_far q ≡ true → ((r : Line) → Holds p r → Holds q r)
    → ((r : Line) → Holds q r → Holds p r)
    → p ≡ q
same_plan p q hp hq to fro =
    let ports : p.ports ≡ q.ports =
    same_lists (λ (y : Port). y.number) 0 p.ports q.ports (kept p hp).ports_ascend (kept q hq).ports_ascend
    (port_in_lem p q hp hq to fro) (port_in_lem q p hq hp fro to) in
    let flows : p.flows ≡ q.flows =
    same_lists flow_key 0 p.flows q.flows (kept p hp).flows_ascend (kept q hq).flows_ascend
    (flow_in_lem p q hp hq to fro) (flow_in_lem q p hq hp fro to) in
    λ i. record { ports = ports i; flows = flows i }

pub order_free : (t u : List ℕ) (p q : Plan) → plan_in t ≡ planned p → plan_in u ≡ planned q → SameRecords t u → p ≡ q
order_free t u p q e f same =
    same_plan p q (rules_so_far p (read_keeps t p e)).1 (rules_so_far q (read_keeps u q f)).1
    (λ r held. read_holds u q f r (same.there r (read_only t p e r held)))
    (λ r held. read_holds t p e r (same.back r (read_only u q f r held)))

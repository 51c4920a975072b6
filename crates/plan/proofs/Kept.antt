-- The plan's rules one by one, of a plan and of its records.
use mathlib.Core.Path.{◌≡◌}
use mathlib.Core.Bool.{Bool, true, ◌&&◌}
use mathlib.Core.List.{List, map}
use Prim.Native.Nat.{◌^◌}
use lib.Dec.{eqb, ltb, leb}
use lib.ListN.{length}
use Rattle.octets.specs.Lists.{within, every, ascends, distinct}
use Rattle.octets.proofs.Same.{both_true}
use Rattle.octets.proofs.ListLaws.{every_such}
use Rattle.codec.specs.FrameSet.{uni, enni}
use Rattle.plan.specs.declared.Port.{Port}
use Rattle.plan.specs.declared.Flow.{Flow}
use Rattle.plan.specs.Plan.{Plan, mip, port_numbered, flow_key, in_plan, mp_count, good_address, good_vid, good_kind}
use Rattle.plan.specs.Plan.{good_port, good_flow, so_far, keeps_rules}

pub record Kept (plan : Plan) : Type 0 where
  pub ports_ascend : ascends (λ p. p.number) 0 plan.ports ≡ true
  pub ports_good : every good_port plan.ports ≡ true
  pub addresses : distinct (map (λ p. p.address) plan.ports) ≡ true
  pub flows_ascend : ascends flow_key 0 plan.flows ≡ true
  pub flows_good : every (good_flow plan) plan.flows ≡ true
  pub numbers : distinct (map (λ f. f.number) plan.flows) ≡ true
  pub mps_few : leb (mp_count plan.flows) 32 ≡ true

pub kept : (plan : Plan) → so_far plan ≡ true → Kept plan
unfolding so_far
kept plan h =
    let a : Bool = ascends (λ p. p.number) 0 plan.ports in
    let b : Bool = every good_port plan.ports in
    let c : Bool = distinct (map (λ p. p.address) plan.ports) in
    let d : Bool = ascends flow_key 0 plan.flows in
    let e : Bool = every (good_flow plan) plan.flows in
    let f : Bool = distinct (map (λ f. f.number) plan.flows) in
    let t6 : _ = both_true (a && b && c && d && e && f) (leb (mp_count plan.flows) 32) h in
    let t5 : _ = both_true (a && b && c && d && e) f t6.0 in
    let t4 : _ = both_true (a && b && c && d) e t5.0 in
    let t3 : _ = both_true (a && b && c) d t4.0 in
    let t2 : _ = both_true (a && b) c t3.0 in
    let t1 : _ = both_true a b t2.0 in
    record {
      ports_ascend = t1.0;
      ports_good = t1.1;
      addresses = t2.1;
      flows_ascend = t3.1;
      flows_good = t4.1;
      numbers = t5.1;
      mps_few = t6.1;
    }

pub so_far_lem : (plan : Plan) → Kept plan → so_far plan ≡ true
unfolding so_far
so_far_lem plan k =
    rw (k.ports_ascend, k.ports_good, k.addresses, k.flows_ascend, k.flows_good, k.numbers, k.mps_few)

-- The rules are those and at least one port.
pub rules_kept : (plan : Plan) → leb 1 (length plan.ports) ≡ true → so_far plan ≡ true → keeps_rules plan ≡ true
unfolding keeps_rules
rules_kept plan one k = rw one k

pub rules_so_far : (plan : Plan) → keeps_rules plan ≡ true → (leb 1 (length plan.ports) ≡ true) × (so_far plan ≡ true)
unfolding keeps_rules
rules_so_far plan k = both_true (leb 1 (length plan.ports)) (so_far plan) k

pub rules : (plan : Plan) → keeps_rules plan ≡ true → Kept plan
rules plan k = kept plan (rules_so_far plan k).1

pub record GoodPort (p : Port) : Type 0 where
  pub number_fits : within 1 8 p.number ≡ true
  pub kind_fits : within uni enni p.kind ≡ true
  pub address_good : good_address p.address ≡ true
  pub address_fits : ltb p.address (2 ^ 48) ≡ true

pub good_port_lem : (p : Port) → good_port p ≡ true → GoodPort p
unfolding good_port
good_port_lem p h =
    let a : Bool = within 1 8 p.number in
    let b : Bool = within uni enni p.kind in
    let c : Bool = good_address p.address in
    let t3 : _ = both_true (a && b && c) (ltb p.address (2 ^ 48)) h in
    let t2 : _ = both_true (a && b) c t3.0 in
    let t1 : _ = both_true a b t2.0 in
    record { number_fits = t1.0; kind_fits = t1.1; address_good = t2.1; address_fits = t3.1 }

pub record GoodFlow (plan : Plan) (f : Flow) : Type 0 where
  pub number_fits : within 1 32 f.number ≡ true
  pub port_there : in_plan (port_numbered f.port plan).number ≡ true
  pub kind_fits : good_kind f.kind (port_numbered f.port plan).kind ≡ true
  pub vid_fits : good_vid f.kind f.vid ≡ true
  pub mps_long : eqb (length f.mps) 8 ≡ true
  pub mps_fit : every (λ mp. leb mp mip) f.mps ≡ true

pub good_flow_lem : (plan : Plan) (f : Flow) → good_flow plan f ≡ true → GoodFlow plan f
unfolding good_flow
good_flow_lem plan f h =
    let a : Bool = within 1 32 f.number in
    let b : Bool = in_plan (port_numbered f.port plan).number in
    let c : Bool = good_kind f.kind (port_numbered f.port plan).kind in
    let d : Bool = good_vid f.kind f.vid in
    let e : Bool = eqb (length f.mps) 8 in
    let t5 : _ = both_true (a && b && c && d && e) (every (λ mp. leb mp mip) f.mps) h in
    let t4 : _ = both_true (a && b && c && d) e t5.0 in
    let t3 : _ = both_true (a && b && c) d t4.0 in
    let t2 : _ = both_true (a && b) c t3.0 in
    let t1 : _ = both_true a b t2.0 in
    record {
      number_fits = t1.0;
      port_there = t1.1;
      kind_fits = t2.1;
      vid_fits = t3.1;
      mps_long = t4.1;
      mps_fit = t5.1;
    }

pub flow_good : (plan : Plan) (f : Flow) → GoodFlow plan f → good_flow plan f ≡ true
unfolding good_flow
flow_good plan f g = rw (g.number_fits, g.port_there, g.kind_fits, g.vid_fits, g.mps_long, g.mps_fit)

pub good_numbers : (plan : Plan) (fs : List Flow) → every (good_flow plan) fs ≡ true
    → every (λ f. within 1 32 f.number) fs ≡ true
good_numbers plan fs h = every_such (good_flow plan) (λ f. within 1 32 f.number) (λ f g. (good_flow_lem plan f g).number_fits) fs h

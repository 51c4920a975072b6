-- Laws of a plan's flows: found by number or by port and frame set, they are the same; and what stands for none.
use mathlib.Core.Path.{◌≡◌, refl}
use mathlib.Core.Bool.{Bool, true, false}
use Prim.Native.Nat.{ℕ, ◌+◌, ◌*◌, ◌^◌, ◌≤◌}
use native.Mathlib.Omega.{arith}
use lib.Dec.{eqb}
use borrow.Author.Tests.{eqb-true, le-leb}
use Rattle.codec.specs.declared.FrameSet.{FrameSet}
use Rattle.codec.specs.FrameSet.{set_of}
use Rattle.plan.specs.declared.Flow.{Flow}
use Rattle.plan.specs.Plan.{Plan, no_flow, flow_numbered, flow_of_set, set_key, flow_key, in_plan, good_flow, keeps_rules}
use Rattle.octets.proofs.Ordered.{none_below}
use Rattle.octets.proofs.ListLaws.{every_such, not_found, none_there, within_low}
use Rattle.plan.proofs.Found.{flow_passes}
use Rattle.plan.proofs.Kept.{rules, GoodFlow, good_flow_lem}
use Rattle.state.proofs.Fits.{good_flow_lem as flow_fits_lem}
use Rattle.calls.proofs.SetFlows.{found_passes, found_again, kind_small, vid_small, OfSet, of_set}
use Rattle.demands.proofs.Shows.{SmallSet}
use Rattle.demands.proofs.Lists.{ascends_distinct}

-- the frame set of a flow
abbrev pub flow_set : Flow → FrameSet
flow_set f = set_of f.kind f.vid

module _ (plan : Plan) (k : keeps_rules plan ≡ true) where
  -- ---- a flow found by its number

  module _ (n : ℕ) (there : in_plan (flow_numbered n plan).number ≡ true) where
    good : good_flow plan (flow_numbered n plan) ≡ true
    good = flow_passes plan (good_flow plan) n (rules plan k).flows_good there

    pub set_small : SmallSet (flow_set (flow_numbered n plan))
    unfolding set_of
    set_small =
        let g : GoodFlow plan (flow_numbered n plan) = good_flow_lem plan (flow_numbered n plan) good in
        record {
          kind_small = omega (arith, kind_small (flow_numbered n plan).kind _ g.kind_fits);
          vid_small = omega (arith, vid_small (flow_numbered n plan).kind (flow_numbered n plan).vid g.vid_fits);
        }

    -- it is found by its port and set
    pub numbered_again : flow_of_set (flow_numbered n plan).port (flow_set (flow_numbered n plan)) plan ≡ flow_numbered n plan
    unfolding flow_of_set flow_numbered flow_key set_key set_of no_flow in_plan
    numbered_again =
        let f : Flow = flow_numbered n plan in
        let some : 1 ≤ flow_key f = omega (arith, (flow_fits_lem plan f good).port_some) in
        found_again flow_key no_flow refl (λ f. eqb f.number n) plan.flows
        (ascends_distinct flow_key 0 plan.flows (rules plan k).flows_ascend) (le-leb 1 (flow_key f) some)

  -- ---- a flow found by a port and a set

  module _ (port : ℕ) (set : FrameSet) (small : SmallSet set)
      (there : in_plan (flow_of_set port set plan).number ≡ true) where
    -- it has the number by which it is found, and the set
    pub found_set : OfSet plan set (flow_of_set port set plan)
    found_set = of_set plan port set k small.kind_small small.vid_small there

    -- and the port
    pub found_port : (flow_of_set port set plan).port ≡ port
    unfolding flow_of_set flow_key set_key no_flow
    found_port =
        let f : Flow = flow_of_set port set plan in
        let test : Flow → Bool = λ f. eqb (flow_key f) (set_key port set.kind set.vid) in
        let good : _ = (rules plan k).flows_good in
        let p : _ = found_passes (λ (f : Flow). f.number) no_flow refl test (good_flow plan) plan.flows good there in
        let key : f.port * 2 ^ 24 + f.kind * 2 ^ 16 + f.vid ≡ port * 2 ^ 24 + set.kind * 2 ^ 16 + set.vid
        = eqb-true (flow_key f) (set_key port set.kind set.vid) p.0 in
        omega (arith, found_set.kind_same, found_set.vid_same)

  -- ---- what stands for no flow

  has_number : (f : Flow) → good_flow plan f ≡ true → in_plan f.number ≡ true
  unfolding in_plan
  has_number f h =
      le-leb 1 f.number (within_low 1 32 f.number (good_flow_lem plan f h).number_fits)

  pub no_number : (n : ℕ) → in_plan (flow_numbered n plan).number ≡ false → flow_numbered n plan ≡ no_flow
  unfolding flow_numbered
  no_number n gone =
      let mark : Flow → Bool = λ f. in_plan f.number in
      let test : Flow → Bool = λ f. eqb f.number n in
      not_found test no_flow plan.flows
      (none_there mark test no_flow plan.flows
      (every_such (good_flow plan) mark has_number plan.flows (rules plan k).flows_good) gone)

  -- it is of no set
  pub no_set : flow_of_set no_flow.port (flow_set no_flow) plan ≡ no_flow
  unfolding flow_of_set set_key set_of no_flow
  no_set =
      not_found (λ f. eqb (flow_key f) 0) no_flow plan.flows
      (none_below flow_key 0 0 plan.flows (rules plan k).flows_ascend (omega arith))

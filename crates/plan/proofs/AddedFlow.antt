-- A flow with no fault, added to a plan that keeps the rules so far: the plan still keeps them.
use mathlib.Core.Path.{◌≡◌, refl}
use mathlib.Core.Bool.{true}
use mathlib.Core.List.{List, [], ◌∷◌}
use Prim.Native.Nat.{ℕ, ◌+◌, ◌<◌, ◌≤◌}
use native.Mathlib.Omega.{arith}
use lib.ListN.{replicate}
use borrow.Author.Tests.{leb-true, le-leb}
use Rattle.octets.specs.Lists.{every, count, put}
use Rattle.octets.proofs.Cases.{by_eq, by_lt}
use Rattle.octets.proofs.ListLaws.{within_low}
use Rattle.octets.proofs.PutLaws.{put_every, put_ascends, put_distinct}
use Rattle.plan.specs.declared.Flow.{Flow}
use Rattle.plan.specs.Plan.{Plan, port_numbered, set_key, flow_key, mps_of, mp_count, good_flow, so_far}
use Rattle.plan.specs.Line.{flow_line}
use Rattle.plan.specs.PlanText.{added}
use Rattle.plan.proofs.Kept.{Kept, kept, so_far_lem, flow_good}
use Rattle.plan.proofs.Faultless.{FaultlessFlow}
use Rattle.plan.proofs.Room.{flow_absent}

-- how many MPs there are with a flow more
mp_put : (x : Flow) (l : List Flow) → mp_count (put flow_key x l) ≤ mps_of x + mp_count l
unfolding put mp_count
mp_put x [] = omega arith
mp_put x (y ∷ l) =
    by_lt (flow_key y) (flow_key x) (λ e s. rw e (omega (arith, mp_put x l)))
    (λ e s. by_eq (flow_key y) (flow_key x) (λ f s. rw (e, f) (omega arith)) (λ f s. rw (e, f) (omega arith)))

key_some : (port kind vid : ℕ) → 1 ≤ port → 0 < set_key port kind vid
unfolding set_key
key_some port kind vid h = omega arith

module _ (plan : Plan) (h : so_far plan ≡ true) (number port kind vid : ℕ) (f : FaultlessFlow plan number port kind vid) where
  k : Kept plan
  k = kept plan h

  abbrev grown : Plan
  grown = added (flow_line number port kind vid) plan

  flow : Flow
  flow = record { number = number; port = port; kind = kind; vid = vid; mps = replicate 8 0 }

  none : mps_of flow ≡ 0
  unfolding flow mps_of count
  none = refl

  flow_fine : good_flow plan flow ≡ true
  unfolding flow every
  flow_fine =
      flow_good plan flow
      record {
        number_fits = f.number_fits;
        port_there = f.port_there;
        kind_fits = f.kind_fits;
        vid_fits = f.vid_fits;
        mps_long = refl;
        mps_fit = refl;
      }

  pub flow_keeps : so_far grown ≡ true
  unfolding added flow flow_key good_flow port_numbered
  flow_keeps =
      so_far_lem grown
      record {
        ports_ascend = k.ports_ascend;
        ports_good = k.ports_good;
        addresses = k.addresses;
        flows_ascend =
            put_ascends flow_key flow 0 plan.flows (key_some port kind vid (within_low 1 8 port f.port_fits))
            k.flows_ascend;
        flows_good = put_every flow_key flow (good_flow plan) plan.flows flow_fine k.flows_good;
        numbers =
            put_distinct flow_key (λ (f : Flow). f.number) flow plan.flows (flow_absent plan h number f.number_new)
            k.numbers;
        mps_few =
            le-leb (mp_count grown.flows) 32
            (omega (arith, mp_put flow plan.flows, none, leb-true (mp_count plan.flows) 32 k.mps_few));
      }

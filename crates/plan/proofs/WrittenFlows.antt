-- The flows of a plan, added one by one and yet without MPs.
use mathlib.Core.Path.{◌≡◌, sym, ap, subst, ◌∙◌}
use mathlib.Core.Bool.{true, false, false≢true}
use mathlib.Core.List.{List, [], ◌∷◌, ◌++◌, map, append_assoc, append-nil}
use Prim.Native.Nat.{ℕ}
use lib.Dec.{eqb, ltb}
use lib.ListN.{replicate}
use Rattle.octets.specs.Lists.{within, every, some}
use Rattle.octets.proofs.Cases.{by_eq}
use Rattle.octets.proofs.ListLaws.{not_found, every_map}
use Rattle.octets.proofs.PutLaws.{put_last}
use Rattle.codec.specs.FrameSet.{untagged, c_tagged, s_tagged, set_of}
use Rattle.plan.specs.declared.Flow.{Flow}
use Rattle.plan.specs.Plan.{Plan, no_flow, port_numbered, flow_numbered, flow_of_set, flow_key, in_plan, good_kind, good_flow, so_far}
use Rattle.plan.specs.PlanText.{reason_of, added}
use Rattle.plan.specs.WrittenPlan.{flow_record}
use Rattle.plan.proofs.Fair.{fair_line}
use Rattle.plan.proofs.Kept.{Kept, kept, GoodFlow, good_flow_lem}
use Rattle.plan.proofs.Faultless.{flow_clears}
use Rattle.plan.proofs.Found.{port_number}
use Rattle.plan.proofs.InOrder.{every_at, some_under, below_absent, ascends_before, distinct_before, map_join}
use Rattle.plan.proofs.WrittenText.{Adds}

-- a flow with these MPs, and with none
abbrev pub with_mps : Flow → List ℕ → Flow
with_mps f mps = record { number = f.number; port = f.port; kind = f.kind; vid = f.vid; mps = mps }

abbrev pub bare : Flow → Flow
bare f = with_mps f (replicate 8 0)

kind_fair : (kind port : ℕ) → good_kind kind port ≡ true → within untagged s_tagged kind ≡ true
unfolding good_kind within
kind_fair kind port h =
    by_eq kind untagged (λ e s. rw s)
    (λ e s. by_eq kind c_tagged (λ f t. rw t)
    (λ f t. by_eq kind s_tagged (λ g u. rw u) (λ g u. absurd (false≢true (rw (e, f, g) at h)))))

module _ (plan : Plan) (h : so_far plan ≡ true) where
  k : Kept plan
  k = kept plan h

  abbrev pub bared : List Flow → Plan
  bared flows = record { ports = plan.ports; flows = map bare flows }

  module _ (before rest : List Flow) (f : Flow) (e : before ++ (f ∷ rest) ≡ plan.flows) where
    good : GoodFlow plan f
    good = good_flow_lem plan f (every_at f rest (good_flow plan) before (rw e k.flows_good))

    below : every (λ g. ltb (flow_key g) (flow_key f)) before ≡ true
    below = ascends_before f rest flow_key 0 before (rw e k.flows_ascend)

    bare_below : every (λ g. ltb (flow_key g) (flow_key (bare f))) (map bare before) ≡ true
    unfolding flow_key
    bare_below = rw (every_map bare (λ g. ltb (flow_key g) (flow_key f)) before) below

    number_new : in_plan (flow_numbered f.number (bared before)).number ≡ false
    unfolding flow_numbered in_plan no_flow
    number_new =
        let n : some (λ g. eqb g.number f.number) (map bare before) ≡ false =
        some_under (λ g. eqb g.number f.number) bare before
        ∙ distinct_before f rest (λ g. g.number) before (rw e k.numbers) in
        rw (not_found (λ g. eqb g.number f.number) no_flow (map bare before) n)

    set_new : in_plan (flow_of_set f.port (set_of f.kind f.vid) (bared before)).number ≡ false
    unfolding flow_of_set set_of in_plan no_flow flow_key
    set_new =
        rw (not_found (λ g. eqb (flow_key g) (flow_key f)) no_flow (map bare before)
        (below_absent flow_key (flow_key f) (map bare before) bare_below))

    flow_fair : fair_line (flow_record f) ≡ true
    unfolding fair_line flow_record
    flow_fair = kind_fair f.kind (port_numbered f.port plan).kind good.kind_fits

    flow_fits_lem : reason_of (bared before) (flow_record f) ≡ 0
    unfolding reason_of flow_record port_numbered
    flow_fits_lem =
        flow_clears (bared before) f.number f.port f.kind f.vid
        record {
          number_fits = good.number_fits;
          port_fits = port_number plan f.port k.ports_good good.port_there;
          vid_fits = good.vid_fits;
          port_there = good.port_there;
          kind_fits = good.kind_fits;
          number_new = number_new;
          set_new = set_new;
        }

    flow_last : added (flow_record f) (bared before) ≡ bared (before ++ (f ∷ []))
    unfolding added flow_record
    flow_last =
        let all : List Flow → Plan = λ flows. record { ports = plan.ports; flows = flows } in
        ap all (put_last flow_key (bare f) (map bare before) bare_below ∙ sym (map_join bare before (f ∷ [])))

  pub flows_add : (before rest : List Flow) → before ++ rest ≡ plan.flows
      → Adds (bared before) (map flow_record rest) (bared plan.flows)
  flows_add before [] e = ap bared (sym (append-nil before) ∙ e)
  flows_add before (f ∷ rest) e = (
    flow_fair before rest f e,
    flow_fits_lem before rest f e,
    subst (λ next. Adds next (map flow_record rest) (bared plan.flows)) (sym (flow_last before rest f e))
        (flows_add (before ++ (f ∷ [])) rest (append_assoc before (f ∷ []) rest ∙ e)),
  )

-- An MP with no fault, added to a plan that keeps the rules so far: the plan still keeps them.
use mathlib.Core.Path.{◌≡◌, refl, sym, ◌∙◌}
use mathlib.Core.Bool.{Bool, true, false, cond, not}
use mathlib.Core.List.{List, [], ◌∷◌, map}
use Prim.Native.Nat.{ℕ, zero, suc, ◌+◌, ◌≤◌}
use native.Mathlib.Omega.{arith}
use lib.Dec.{eqb, leb}
use lib.ListN.{set, length-set}
use borrow.Author.Tests.{ne_eqb, leb-false, le-leb, not-true}
use Rattle.octets.specs.Lists.{every, some, count, distinct}
use Rattle.octets.proofs.Same.{both_true}
use Rattle.octets.proofs.Cases.{by_eq}
use Rattle.octets.proofs.ListLaws.{every_such, every_map, map_same, map_none, some_map, within_high}
use Rattle.octets.proofs.Ordered.{map_ascends}
use Rattle.plan.specs.declared.Flow.{Flow}
use Rattle.plan.specs.Plan.{Plan, up, mip, no_flow, port_numbered, flow_key, mps_of, mp_count, good_flow, so_far}
use Rattle.plan.specs.Line.{mp_line}
use Rattle.plan.specs.PlanText.{with_mp, added}
use Rattle.plan.proofs.Fair.{fair_line}
use Rattle.plan.proofs.Kept.{Kept, kept, so_far_lem, GoodFlow, good_flow_lem, flow_good}
use Rattle.plan.proofs.Faultless.{FaultlessMp}

set_every : (test : ℕ → Bool) (x : ℕ) (l : List ℕ) (i : ℕ) → test x ≡ true → every test l ≡ true → every test (set l i x) ≡ true
unfolding every
set_every test x [] i t h = refl
set_every test x (y ∷ l) zero t h = rw t (both_true (test y) (every test l) h).1
set_every test x (y ∷ l) (suc i) t h =
    let b : _ = both_true (test y) (every test l) h in
    rw b.0 (set_every test x l i t b.1)

set_count : (test : ℕ → Bool) (x : ℕ) (l : List ℕ) (i : ℕ) → count test (set l i x) ≤ suc (count test l)
unfolding count
set_count test x [] i = omega arith
set_count test x (y ∷ l) zero = go (test x)
  where
    go : (b : Bool) → cond b 1 0 + count test l ≤ suc (cond (test y) 1 0 + count test l)
    go true = omega arith
    go false = omega arith
set_count test x (y ∷ l) (suc i) = omega (arith, set_count test x l i)

module _ (flow kind level : ℕ) where
  -- a flow's own fields stay
  pub with_number : (f : Flow) → (with_mp flow kind level f).number ≡ f.number
  unfolding with_mp
  with_number f = by_eq f.number flow (λ e s. rw e) (λ e s. rw e)

  with_key : (f : Flow) → flow_key (with_mp flow kind level f) ≡ flow_key f
  unfolding with_mp flow_key
  with_key f = by_eq f.number flow (λ e s. rw e) (λ e s. rw e)

  pub with_other : (f : Flow) → eqb f.number flow ≡ false → with_mp flow kind level f ≡ f
  unfolding with_mp
  with_other f e = rw e

  pub with_none : 1 ≤ flow → with_mp flow kind level no_flow ≡ no_flow
  unfolding no_flow
  with_none some = with_other no_flow (ne_eqb 0 flow (λ z. omega arith))

  with_good : (plan : Plan) → leb kind mip ≡ true → (f : Flow) → good_flow plan f ≡ true
      → good_flow plan (with_mp flow kind level f) ≡ true
  unfolding with_mp
  with_good plan k f h =
      let g : GoodFlow plan f = good_flow_lem plan f h in
      by_eq f.number flow
      (λ e s. rw e (flow_good plan _
      record {
        number_fits = g.number_fits;
        port_there = g.port_there;
        kind_fits = g.kind_fits;
        vid_fits = g.vid_fits;
        mps_long = rw length-set g.mps_long;
        mps_fit = set_every (λ mp. leb mp mip) kind f.mps level k g.mps_fit;
      }))
      (λ e s. rw e h)

  with_count : (f : Flow) → mps_of (with_mp flow kind level f) ≤ suc (mps_of f)
  unfolding with_mp mps_of
  with_count f = by_eq f.number flow (λ e s. rw e (set_count (leb 1) kind f.mps level)) (λ e s. rw e (omega arith))

  -- one MP more at most, for numbers are distinct
  mp_more : (l : List Flow) → distinct (map (λ f. f.number) l) ≡ true
      → mp_count (map (with_mp flow kind level) l) ≤ suc (mp_count l)
  unfolding distinct mp_count
  mp_more [] d = omega arith
  mp_more (f ∷ l) d =
      let b : _ = both_true (not (some (eqb f.number) (map (λ f. f.number) l))) (distinct (map (λ f. f.number) l)) d in
      by_eq f.number flow
      (λ e same.
      let n : some (λ g. eqb g.number flow) l ≡ false =
      rw same at
      (sym (some_map (λ (g : Flow). g.number) f.number l)
      ∙ not-true (some (eqb f.number) (map (λ f. f.number) l)) b.0) in
      rw (map_none (λ g. eqb g.number flow) (with_mp flow kind level) with_other l n) (omega (arith, with_count f)))
      (λ e other. rw (with_other f e) (omega (arith, mp_more l b.1)))

  module _ (plan : Plan) (h : so_far plan ≡ true) (fair : fair_line (mp_line flow kind level) ≡ true)
      (f : FaultlessMp plan flow level) where
    abbrev grown : Plan
    grown = added (mp_line flow kind level) plan

    k : Kept plan
    k = kept plan h

    kind_fits : leb kind mip ≡ true
    unfolding fair_line
    kind_fits = le-leb kind mip (within_high up mip kind fair)

    flows_still : every (good_flow plan) (map (with_mp flow kind level) plan.flows) ≡ true
    flows_still =
        rw (every_map (with_mp flow kind level) (good_flow plan) plan.flows)
        (every_such (good_flow plan) (λ f. good_flow plan (with_mp flow kind level f)) (with_good plan kind_fits) plan.flows
        k.flows_good)

    pub mp_keeps : so_far grown ≡ true
    unfolding added good_flow port_numbered
    mp_keeps =
        so_far_lem grown
        record {
          ports_ascend = k.ports_ascend;
          ports_good = k.ports_good;
          addresses = k.addresses;
          flows_ascend = map_ascends flow_key (with_mp flow kind level) with_key 0 plan.flows ∙ k.flows_ascend;
          flows_good = flows_still;
          numbers = rw (map_same (λ (f : Flow). f.number) (with_mp flow kind level) with_number plan.flows) k.numbers;
          mps_few =
              le-leb (mp_count grown.flows) 32
              (omega (arith, mp_more plan.flows k.numbers, leb-false 32 (mp_count plan.flows) f.mp_room));
        }

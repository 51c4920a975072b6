-- The MPs of one flow of a plan, added level by level.
use mathlib.Core.Path.{◌≡◌, refl, sym, ap, subst, ◌∙◌}
use mathlib.Core.Bool.{Bool, true, false}
use mathlib.Core.List.{List, [], ◌∷◌, ◌++◌, map, append_assoc}
use Prim.Native.Nat.{ℕ, suc, ◌+◌, ◌<◌, ◌≤◌}
use native.Mathlib.Omega.{arith}
use lib.Dec.{eqb, leb}
use lib.ListN.{length, replicate, length-append}
use borrow.Author.Tests.{eqb-true, leb-true, le-leb, lt-leb, eq-eqb}
use Rattle.octets.specs.Lists.{some, count}
use Rattle.octets.proofs.Cases.{by_eq}
use Rattle.octets.proofs.ListLaws.{map_none, within_low}
use Rattle.plan.specs.declared.Flow.{Flow}
use Rattle.plan.specs.Plan.{Plan, up, mip, no_flow, flow_numbered, in_plan, mp_at, mps_of, mp_count, good_flow, so_far}
use Rattle.plan.specs.Line.{mp_line}
use Rattle.plan.specs.PlanText.{reason_of, with_mp, added}
use Rattle.plan.specs.WrittenPlan.{mps_from}
use Rattle.plan.proofs.Fair.{fair_line}
use Rattle.plan.proofs.Kept.{Kept, kept, GoodFlow, good_flow_lem}
use Rattle.plan.proofs.Faultless.{mp_clears}
use Rattle.plan.proofs.AddedMp.{with_other}
use Rattle.plan.proofs.InOrder.{every_at, some_under, first_at, distinct_before, distinct_behind, map_join}
use Rattle.plan.proofs.WrittenNumbers.{is_within}
use Rattle.plan.proofs.WrittenText.{Adds}
use Rattle.plan.proofs.WrittenFlows.{with_mps, bare}
use Rattle.plan.proofs.MpCounts.{get_past, set_past, count_join, none_counted, mps_join, mps_bare, with_this}

module _ (plan : Plan) (h : so_far plan ≡ true) where
  k : Kept plan
  k = kept plan h

  abbrev pub flowing : List Flow → Plan
  flowing flows = record { ports = plan.ports; flows = flows }

  -- one flow, between those that have their MPs and those that do not yet
  module _ (before rest : List Flow) (f : Flow) (e : before ++ (f ∷ rest) ≡ plan.flows) where
    good : GoodFlow plan f
    good = good_flow_lem plan f (every_at f rest (good_flow plan) before (rw e k.flows_good))

    abbrev stage : List ℕ → Plan
    stage mps = flowing (before ++ (with_mps f mps ∷ map bare rest))

    not_before : some (λ g. eqb g.number f.number) before ≡ false
    not_before = distinct_before f rest (λ g. g.number) before (rw e k.numbers)

    not_behind : some (λ g. eqb g.number f.number) (map bare rest) ≡ false
    not_behind =
        some_under (λ g. eqb g.number f.number) bare rest
        ∙ distinct_behind f rest (λ g. g.number) before (rw e k.numbers)

    flow_there : (mps : List ℕ) → flow_numbered f.number (stage mps) ≡ with_mps f mps
    unfolding flow_numbered
    flow_there mps =
        first_at (with_mps f mps) (map bare rest) (λ g. eqb g.number f.number) no_flow before not_before
        (eq-eqb f.number f.number refl)

    -- one level, where there is yet no MP
    module _ (a b : List ℕ) (m : ℕ) (s : 1 ≤ m) (d : a ++ (m ∷ b) ≡ f.mps) where
      abbrev clear : List ℕ
      clear = replicate (length b) 0

      mp_fair : fair_line (mp_line f.number m (length a)) ≡ true
      unfolding fair_line
      mp_fair =
          let t : leb m mip ≡ true = every_at m b (λ mp. leb mp mip) a (rw d good.mps_fit) in
          is_within up mip m s (leb-true m mip t)

      level_fits : length a < 8
      level_fits =
          let t : length (a ++ (m ∷ b)) ≡ 8 = rw d (eqb-true (length f.mps) 8 good.mps_long) in
          omega (arith, length-append a (m ∷ b))

      mp_room : mp_count (stage (a ++ (0 ∷ clear))).flows < 32
      unfolding mp_count mps_of count
      mp_room =
          let n : ℕ = count (leb 1) a in
          let all : mp_count (before ++ (f ∷ rest)) ≤ 32 = rw e (leb-true (mp_count plan.flows) 32 k.mps_few) in
          let here : count (leb 1) f.mps ≡ n + (1 + count (leb 1) b) = rw (← d, count_join (leb 1) a (m ∷ b), le-leb 1 m s) in
          let yet : count (leb 1) (a ++ (0 ∷ clear)) ≡ n + (0 + count (leb 1) clear) = count_join (leb 1) a (0 ∷ clear) in
          omega (
            arith,
            none_counted (length b),
            mps_bare rest,
            mps_join before (f ∷ rest),
            mps_join before (with_mps f (a ++ (0 ∷ clear)) ∷ map bare rest),
          )

      level_new : leb 1 (mp_at (length a) (flow_numbered f.number (stage (a ++ (0 ∷ clear))))) ≡ false
      unfolding mp_at
      level_new = rw (flow_there (a ++ (0 ∷ clear)), get_past a 0 clear)

      mp_fits : reason_of (stage (a ++ (0 ∷ clear))) (mp_line f.number m (length a)) ≡ 0
      unfolding reason_of in_plan
      mp_fits =
          mp_clears (stage (a ++ (0 ∷ clear))) f.number (length a)
          record {
            flow_fits = good.number_fits;
            level_fits = is_within 0 7 (length a) (omega arith) (omega (arith, level_fits));
            flow_there =
                rw (flow_there (a ++ (0 ∷ clear))) (le-leb 1 f.number (within_low 1 32 f.number good.number_fits));
            level_new = level_new;
            mp_room = lt-leb 32 (mp_count (stage (a ++ (0 ∷ clear))).flows) mp_room;
          }

      mp_set : added (mp_line f.number m (length a)) (stage (a ++ (0 ∷ clear))) ≡ stage (a ++ (m ∷ clear))
      unfolding added
      mp_set =
          let w : Flow → Flow = with_mp f.number m (length a) in
          let test : Flow → Bool = λ g. eqb g.number f.number in
          ap flowing
          (rw (
            map_join w before (with_mps f (a ++ (0 ∷ clear)) ∷ map bare rest),
            map_none test w (with_other f.number m (length a)) before not_before,
            map_none test w (with_other f.number m (length a)) (map bare rest) not_behind,
            with_this f (a ++ (0 ∷ clear)) m (length a),
            set_past a 0 m clear,
          ))

    -- the levels from some on
    onward : (a b : List ℕ) (m : ℕ)
        → Adds (stage ((a ++ (m ∷ [])) ++ replicate (length b) 0)) (mps_from f.number (length (a ++ (m ∷ []))) b)
        (stage f.mps)
        → Adds (stage (a ++ (m ∷ replicate (length b) 0))) (mps_from f.number (suc (length a)) b) (stage f.mps)
    onward a b m p =
        let t : length (a ++ (m ∷ [])) ≡ suc (length a) = omega (arith, length-append a (m ∷ [])) in
        rw (append_assoc a (m ∷ []) (replicate (length b) 0), t) at p

    pub levels_add : (a b : List ℕ) → a ++ b ≡ f.mps
        → Adds (stage (a ++ replicate (length b) 0)) (mps_from f.number (length a) b) (stage f.mps)
    unfolding mps_from
    levels_add a [] d = ap stage d
    levels_add a (m ∷ b) d =
        let p : Adds (stage (a ++ (m ∷ replicate (length b) 0))) (mps_from f.number (suc (length a)) b) (stage f.mps) =
        onward a b m (levels_add (a ++ (m ∷ [])) b (append_assoc a (m ∷ []) b ∙ d)) in
        by_eq m 0 (λ t same. rw t (rw same at p))
        (λ t other.
        let s : 1 ≤ m = omega (arith, other) in
        rw t (
          mp_fair a b m s d,
          mp_fits a b m s d,
          subst (λ next. Adds next (mps_from f.number (suc (length a)) b) (stage f.mps)) (sym (mp_set a b m s d)) p,
        ))

-- Every plan that keeps the rules is the reading of some text, the one that it is written as.
use mathlib.Core.Path.{◌≡◌, refl, ap, ◌∙◌}
use mathlib.Core.Bool.{true}
use mathlib.Core.List.{List, [], ◌∷◌, ◌++◌, map, flat_map, append_assoc}
use Prim.Native.Nat.{ℕ, suc, ◌≤◌}
use native.Mathlib.Omega.{arith}
use lib.Dec.{leb}
use lib.ListN.{length, length-append, length-map}
use borrow.Author.Tests.{eqb-true, leb-true, le-ltb, ne_eqb, le-leb}
use Rattle.octets.specs.Lists.{count}
use Rattle.octets.proofs.Cases.{by_eq}
use Rattle.plan.specs.declared.Flow.{Flow}
use Rattle.plan.specs.Plan.{Plan, mps_of, mp_count, good_flow, keeps_rules, so_far}
use Rattle.plan.specs.Line.{lf, parted}
use Rattle.plan.specs.PlanText.{planned, finished, read_lines, empty_plan, plan_in}
use Rattle.plan.specs.WrittenPlan.{port_record, flow_record, mps_from, mp_records, records_of, text_of}
use Rattle.plan.proofs.Kept.{Kept, kept, rules_so_far, good_flow_lem}
use Rattle.plan.proofs.Room.{ports_few, flows_few}
use Rattle.plan.proofs.InOrder.{every_at}
use Rattle.plan.proofs.WrittenText.{Adds, adds_join, text_parted, lines_read, text_short}
use Rattle.plan.proofs.WrittenPorts.{only, ports_add}
use Rattle.plan.proofs.WrittenFlows.{bare, bared, flows_add}
use Rattle.plan.proofs.WrittenLevels.{flowing, levels_add}

mps_length : (flow level : ℕ) (mps : List ℕ) → length (mps_from flow level mps) ≡ count (leb 1) mps
unfolding mps_from count
mps_length flow level [] = refl
mps_length flow level (m ∷ mps) =
    by_eq m 0 (λ e same. rw (e, same) (omega (arith, mps_length flow (suc level) mps)))
    (λ e other. rw (e, le-leb 1 m (omega (arith, other))) (omega (arith, mps_length flow (suc level) mps)))

all_mps : (flows : List Flow) → length (flat_map mp_records flows) ≡ mp_count flows
unfolding flat_map mp_records mp_count mps_of
all_mps [] = refl
all_mps (f ∷ flows) = rw (length-append, mps_length f.number 0 f.mps, all_mps flows)

module _ (plan : Plan) (h : so_far plan ≡ true) where
  k : Kept plan
  k = kept plan h

  mps_add : (before rest : List Flow) → before ++ rest ≡ plan.flows
      → Adds (flowing plan h (before ++ map bare rest)) (flat_map mp_records rest) (flowing plan h plan.flows)
  unfolding flat_map mp_records
  mps_add before [] e = ap (flowing plan h) e
  mps_add before (f ∷ rest) e =
      let eight : length f.mps ≡ 8 =
      eqb-true (length f.mps) 8 (good_flow_lem plan f (every_at f rest (good_flow plan) before (rw e k.flows_good))).mps_long in
      let here : Adds (flowing plan h (before ++ (bare f ∷ map bare rest))) (mps_from f.number 0 f.mps)
      (flowing plan h (before ++ (f ∷ map bare rest))) =
      rw eight at (levels_add plan h before rest f e [] f.mps refl) in
      let on : Adds (flowing plan h (before ++ (f ∷ map bare rest))) (flat_map mp_records rest) (flowing plan h plan.flows) =
      rw (append_assoc before (f ∷ []) (map bare rest)) at
      (mps_add (before ++ (f ∷ [])) rest (append_assoc before (f ∷ []) rest ∙ e)) in
      adds_join (flowing plan h (before ++ (bare f ∷ map bare rest))) (flowing plan h (before ++ (f ∷ map bare rest)))
      (flowing plan h plan.flows) (mps_from f.number 0 f.mps) (flat_map mp_records rest) here on

  records_add : Adds empty_plan (records_of plan) plan
  unfolding records_of empty_plan
  records_add =
      adds_join (only []) (only plan.ports) plan (map port_record plan.ports)
      (map flow_record plan.flows ++ flat_map mp_records plan.flows) (ports_add plan h [] plan.ports refl)
      (adds_join (only plan.ports) (bared plan h plan.flows) plan (map flow_record plan.flows)
      (flat_map mp_records plan.flows) (flows_add plan h [] plan.flows refl) (mps_add [] plan.flows refl))

  records_few : length (records_of plan) ≤ 72
  unfolding records_of
  records_few =
      simp (length-append, length-map)
      (omega (arith, ports_few plan h, flows_few plan h, all_mps plan.flows, leb-true (mp_count plan.flows) 32 k.mps_few))

  text_fits : length (text_of plan) ≤ 8192
  unfolding text_of
  text_fits = omega (arith, text_short (records_of plan), records_few)

some_planned : (plan : Plan) → leb 1 (length plan.ports) ≡ true → finished plan ≡ planned plan
unfolding finished
some_planned plan h =
    let p : 1 ≤ length plan.ports = leb-true 1 (length plan.ports) h in
    rw (ne_eqb (length plan.ports) 0 (λ z. omega arith))

text_read : (plan : Plan) → so_far plan ≡ true → read_lines 1 empty_plan (parted lf (text_of plan)) ≡ finished plan
unfolding text_of
text_read plan h = rw (text_parted (records_of plan)) (lines_read 1 empty_plan plan (records_of plan) (records_add plan h))

pub written_read : (plan : Plan) → keeps_rules plan ≡ true → plan_in (text_of plan) ≡ planned plan
unfolding plan_in
written_read plan r =
    let b : _ = rules_so_far plan r in
    rw (le-ltb 8192 (length (text_of plan)) (text_fits plan b.1)) (text_read plan b.1 ∙ some_planned plan b.0)

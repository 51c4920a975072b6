-- An MP with no fault, added to a plan: what the plan then holds.
use mathlib.Core.Path.{◌≡◌, sym, ap, ◌∙◌}
use mathlib.Core.Bool.{true}
use mathlib.Core.Logic.{◌⊎◌, inl, inr}
use Prim.Native.Nat.{ℕ, ◌<◌, ◌≤◌}
use native.Mathlib.Omega.{arith}
use lib.Dec.{eqb}
use lib.ListN.{length}
use lib.Seq.{get_or-set_same, get_or-set_other}
use borrow.Author.Tests.{eqb-true, eq-eqb, leb-false, le-leb}
use Rattle.octets.proofs.Cases.{by_eq}
use Rattle.octets.proofs.ListLaws.{within_low, within_high, first_map}
use Rattle.plan.specs.declared.Flow.{Flow}
use Rattle.plan.specs.Plan.{Plan, up, mip, no_flow, port_numbered, flow_numbered, in_plan, mp_at, good_flow, so_far}
use Rattle.plan.specs.Line.{Line, unreadable, port_line, flow_line, mp_line}
use Rattle.plan.specs.PlanText.{with_mp, added}
use Rattle.plan.specs.WrittenPlan.{flow_record}
use Rattle.plan.proofs.Fair.{fair_line}
use Rattle.plan.proofs.Faultless.{FaultlessMp}
use Rattle.plan.proofs.Kept.{kept, good_flow_lem}
use Rattle.plan.proofs.Found.{flow_found, flow_passes}
use Rattle.plan.proofs.AddedMp.{with_number, with_none}
use Rattle.plan.proofs.Holds.{Holds, Grows}

module _ (plan : Plan) (h : so_far plan ≡ true) (flow kind level : ℕ) (fair : fair_line (mp_line flow kind level) ≡ true)
    (f : FaultlessMp plan flow level) where
  abbrev line : Line
  line = mp_line flow kind level

  abbrev grown : Plan
  grown = added line plan

  abbrev with : Flow → Flow
  with = with_mp flow kind level

  flows_with : (n : ℕ) → flow_numbered n grown ≡ with (flow_numbered n plan)
  unfolding flow_numbered added
  flows_with n =
      first_map (λ g. eqb g.number n) with no_flow (λ g. ap (λ m. eqb m n) (with_number flow kind level g))
      (with_none flow kind level (within_low 1 32 flow f.flow_fits)) plan.flows

  record_stays : (g : Flow) → flow_record (with g) ≡ flow_record g
  unfolding flow_record with_mp
  record_stays g = by_eq g.number flow (λ e s. rw e) (λ e s. rw e)

  flow_record_lem : (n : ℕ) → flow_record (flow_numbered n grown) ≡ flow_record (flow_numbered n plan)
  flow_record_lem n = ap flow_record (flows_with n) ∙ record_stays (flow_numbered n plan)

  level_there : level < length (flow_numbered flow plan).mps
  level_there =
      let good : _ = good_flow_lem plan (flow_numbered flow plan)
      (flow_passes plan (good_flow plan) flow (kept plan h).flows_good f.flow_there) in
      omega (
        arith,
        eqb-true (length (flow_numbered flow plan).mps) 8 good.mps_long,
        within_high 0 7 level f.level_fits,
      )

  -- the MP at the level, and every other
  mp_here : mp_at level (flow_numbered flow grown) ≡ kind
  unfolding mp_at with_mp
  mp_here =
      let g : Flow = flow_numbered flow plan in
      rw (flows_with flow, eq-eqb g.number flow (flow_found plan flow f.flow_there))
      (get_or-set_same g.mps level kind 0 level_there)

  this_flow : (n : ℕ) → (flow_numbered n plan).number ≡ flow → n ≡ flow
  unfolding in_plan
  this_flow n same =
      let some : 1 ≤ flow = within_low 1 32 flow f.flow_fits in
      let there : in_plan (flow_numbered n plan).number ≡ true = le-leb 1 (flow_numbered n plan).number (omega arith) in
      sym (flow_found plan n there) ∙ same

  mp_there : (n l : ℕ) → (n ≡ flow → l ≡ level → ⊥) → mp_at l (flow_numbered n grown) ≡ mp_at l (flow_numbered n plan)
  unfolding mp_at with_mp
  mp_there n l other =
      let g : Flow = flow_numbered n plan in
      rw (flows_with n)
      (by_eq g.number flow (λ e same. rw e (get_or-set_other g.mps level l kind 0 (other (this_flow n same))))
      (λ e apart. rw e))

  kept_on : (r : Line) → Holds plan r → Holds grown r
  unfolding added port_numbered
  kept_on unreadable held = held
  kept_on (port_line n k a) held = held
  kept_on (flow_line n p k v) held = (held.0, flow_record_lem n ∙ held.1)
  kept_on (mp_line n k l) held = (held.0, mp_there n l taken ∙ held.1)
    where
      taken : n ≡ flow → l ≡ level → ⊥
      taken same here =
          let e : mp_at level (flow_numbered flow plan) ≡ k = rw (same, here) at held.1 in
          omega (arith, leb-false 1 (mp_at level (flow_numbered flow plan)) f.level_new, held.0)

  only : (r : Line) → Holds grown r → (r ≡ line) ⊎ Holds plan r
  unfolding added port_numbered
  only unreadable held = absurd held
  only (port_line n k a) held = inr held
  only (flow_line n p k v) held = inr (held.0, sym (flow_record_lem n) ∙ held.1)
  only (mp_line n k l) held =
      by_eq n flow
      (λ t same.
      by_eq l level (λ u here. inl (this same here))
      (λ u apart. inr (held.0, sym (mp_there n l (λ s. apart)) ∙ held.1)))
      (λ t apart. inr (held.0, sym (mp_there n l (λ s. absurd (apart s))) ∙ held.1))
    where
      this : n ≡ flow → l ≡ level → mp_line n k l ≡ mp_line flow kind level
      this same here =
          let e : mp_at level (flow_numbered flow grown) ≡ k = rw (same, here) at held.1 in
          let m : k ≡ kind = sym e ∙ mp_here in
          rw (same, here, m)

  pub mp_grows : Grows plan line grown
  unfolding fair_line
  mp_grows = record { kept = kept_on; new = (within_low up mip kind fair, mp_here); only = only }

-- A flow with no fault, added to a plan: what the plan then holds.
use mathlib.Core.Path.{◌≡◌, refl, sym, ap, subst, ◌∙◌}
use mathlib.Core.Bool.{true, false}
use mathlib.Core.Logic.{◌⊎◌, inl, inr}
use Prim.Native.Nat.{ℕ, ◌≤◌}
use native.Mathlib.Omega.{arith}
use lib.Dec.{eqb}
use lib.ListN.{replicate}
use borrow.Author.Tests.{eq-eqb, ne_eqb}
use Rattle.octets.specs.Lists.{some}
use Rattle.octets.proofs.Cases.{by_eq}
use Rattle.octets.proofs.ListLaws.{within_low, not_found, all_alike}
use Rattle.octets.proofs.PutLaws.{put_other, put_found}
use Rattle.plan.specs.declared.Flow.{Flow}
use Rattle.plan.specs.Plan.{Plan, no_flow, port_numbered, flow_numbered, flow_key, mp_at, so_far}
use Rattle.plan.specs.Line.{Line, unreadable, port_line, flow_line, mp_line}
use Rattle.plan.specs.PlanText.{added}
use Rattle.plan.specs.WrittenPlan.{flow_record}
use Rattle.plan.proofs.Faultless.{FaultlessFlow}
use Rattle.plan.proofs.Room.{flow_absent, set_absent}
use Rattle.plan.proofs.Holds.{Holds, Grows}

pub no_flow_lem : (n port kind vid : ℕ) → 1 ≤ n → flow_record no_flow ≡ flow_line n port kind vid → ⊥
unfolding flow_record no_flow
no_flow_lem n port kind vid s e = let z : 0 ≡ n = cc in omega arith

pub no_mp : (level kind : ℕ) → 1 ≤ kind → mp_at level no_flow ≡ kind → ⊥
unfolding mp_at no_flow
no_mp level kind s e = omega (arith, all_alike {A = ℕ} 0 8 level)

module _ (plan : Plan) (h : so_far plan ≡ true) (number port kind vid : ℕ) (f : FaultlessFlow plan number port kind vid) where
  abbrev line : Line
  line = flow_line number port kind vid

  abbrev grown : Plan
  grown = added line plan

  flow : Flow
  flow = record { number = number; port = port; kind = kind; vid = vid; mps = replicate 8 0 }

  absent : some (λ g. eqb g.number number) plan.flows ≡ false
  absent = flow_absent plan h number f.number_new

  none_yet : (n : ℕ) → number ≡ n → flow_numbered n plan ≡ no_flow
  unfolding flow_numbered
  none_yet n same =
      subst (λ m. flow_numbered m plan ≡ no_flow) same (not_found (λ g. eqb g.number number) no_flow plan.flows absent)

  flow_here : flow_numbered number grown ≡ flow
  unfolding flow_numbered added flow
  flow_here =
      put_found flow_key flow (λ g. eqb g.number number) no_flow plan.flows (eq-eqb number number refl) absent

  flow_there : (n : ℕ) → (number ≡ n → ⊥) → flow_numbered n grown ≡ flow_numbered n plan
  unfolding flow_numbered added flow flow_key
  flow_there n other =
      put_other flow_key flow (λ g. eqb g.number n) no_flow plan.flows (ne_eqb number n other)
      (set_absent plan h port kind vid f.set_new)

  bare_mp : (level k : ℕ) → 1 ≤ k → mp_at level flow ≡ k → ⊥
  unfolding mp_at flow
  bare_mp level k s e = omega (arith, all_alike {A = ℕ} 0 8 level)

  at_here : (n : ℕ) → number ≡ n → flow_numbered n grown ≡ flow
  at_here n same = subst (λ m. flow_numbered m grown ≡ flow) same flow_here

  kept : (r : Line) → Holds plan r → Holds grown r
  unfolding added port_numbered
  kept unreadable held = held
  kept (port_line n k a) held = held
  kept (flow_line n p k v) held =
      by_eq number n
      (λ t same. absurd (no_flow_lem n p k v held.0 (sym (ap flow_record (none_yet n same)) ∙ held.1)))
      (λ t other. (held.0, rw (flow_there n other) held.1))
  kept (mp_line n k l) held =
      by_eq number n
      (λ t same. absurd (no_mp l k held.0 (sym (ap (mp_at l) (none_yet n same)) ∙ held.1)))
      (λ t other. (held.0, rw (flow_there n other) held.1))

  only : (r : Line) → Holds grown r → (r ≡ line) ⊎ Holds plan r
  unfolding added port_numbered flow flow_record
  only unreadable held = absurd held
  only (port_line n k a) held = inr held
  only (flow_line n p k v) held =
      by_eq number n
      (λ t same. inl (sym held.1 ∙ ap flow_record (at_here n same)))
      (λ t other. inr (held.0, rw (flow_there n other) at held.1))
  only (mp_line n k l) held =
      by_eq number n
      (λ t same. absurd (bare_mp l k held.0 (sym (ap (mp_at l) (at_here n same)) ∙ held.1)))
      (λ t other. inr (held.0, rw (flow_there n other) at held.1))

  pub flow_grows : Grows plan line grown
  unfolding flow_record flow
  flow_grows =
      record { kept = kept; new = (within_low 1 32 number f.number_fits, ap flow_record flow_here); only = only }

-- A port with no fault, added to a plan: what the plan then holds.
use mathlib.Core.Path.{◌≡◌, refl, sym, ap, subst, ◌∙◌}
use mathlib.Core.Bool.{true, false}
use mathlib.Core.Logic.{◌⊎◌, inl, inr}
use Prim.Native.Nat.{ℕ, ◌≤◌}
use native.Mathlib.Omega.{arith}
use lib.Dec.{eqb}
use borrow.Author.Tests.{eq-eqb, ne_eqb}
use Rattle.octets.specs.Lists.{some}
use Rattle.octets.proofs.Cases.{by_eq}
use Rattle.octets.proofs.ListLaws.{within_low, not_found}
use Rattle.octets.proofs.PutLaws.{put_first, put_found}
use Rattle.plan.specs.declared.Port.{Port}
use Rattle.plan.specs.Plan.{Plan, no_port, port_numbered, flow_numbered, so_far}
use Rattle.plan.specs.Line.{Line, unreadable, port_line, flow_line, mp_line}
use Rattle.plan.specs.PlanText.{added}
use Rattle.plan.specs.WrittenPlan.{port_record}
use Rattle.plan.proofs.Faultless.{FaultlessPort}
use Rattle.plan.proofs.Room.{port_absent}
use Rattle.plan.proofs.Holds.{Holds, Grows}

pub no_port_lem : (n kind address : ℕ) → 1 ≤ n → port_record no_port ≡ port_line n kind address → ⊥
unfolding port_record no_port
no_port_lem n kind address s e = let z : 0 ≡ n = cc in omega arith

module _ (plan : Plan) (h : so_far plan ≡ true) (number kind address : ℕ) (f : FaultlessPort plan number address) where
  abbrev line : Line
  line = port_line number kind address

  abbrev grown : Plan
  grown = added line plan

  port : Port
  port = record { number = number; kind = kind; address = address }

  absent : some (λ p. eqb p.number number) plan.ports ≡ false
  absent = port_absent plan h number f.number_new

  none_yet : (n : ℕ) → number ≡ n → port_numbered n plan ≡ no_port
  unfolding port_numbered
  none_yet n same =
      subst (λ m. port_numbered m plan ≡ no_port) same (not_found (λ p. eqb p.number number) no_port plan.ports absent)

  port_here : port_numbered number grown ≡ port
  unfolding port_numbered added port
  port_here =
      put_found (λ p. p.number) port (λ p. eqb p.number number) no_port plan.ports (eq-eqb number number refl) absent

  port_there : (n : ℕ) → (number ≡ n → ⊥) → port_numbered n grown ≡ port_numbered n plan
  unfolding port_numbered added port
  port_there n other = put_first (λ p. p.number) port no_port n (ne_eqb number n other) plan.ports

  kept : (r : Line) → Holds plan r → Holds grown r
  unfolding added flow_numbered
  kept unreadable held = held
  kept (port_line n k a) held =
      by_eq number n
      (λ t same. absurd (no_port_lem n k a held.0 (sym (ap port_record (none_yet n same)) ∙ held.1)))
      (λ t other. (held.0, rw (port_there n other) held.1))
  kept (flow_line n p k v) held = held
  kept (mp_line n k l) held = held

  only : (r : Line) → Holds grown r → (r ≡ line) ⊎ Holds plan r
  unfolding added flow_numbered port port_record
  only unreadable held = absurd held
  only (port_line n k a) held =
      by_eq number n
      (λ t same. inl (sym held.1 ∙ ap port_record (subst (λ m. port_numbered m grown ≡ port) same port_here)))
      (λ t other. inr (held.0, rw (port_there n other) at held.1))
  only (flow_line n p k v) held = inr held
  only (mp_line n k l) held = inr held

  pub port_grows : Grows plan line grown
  unfolding port_record port
  port_grows =
      record { kept = kept; new = (within_low 1 8 number f.number_fits, ap port_record port_here); only = only }

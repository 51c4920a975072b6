-- A unit made from a plan's text, as the host sees it.
use mathlib.Core.Path.{◌≡◌, refl}
use mathlib.Core.Bool.{true}
use mathlib.Core.List.{List, []}
use Prim.Native.Nat.{ℕ}
use lib.ListN.{length}
use borrow.Author.Tests.{eq-eqb, ne_eqb}
use Rattle.std.specs.Prelude.{Ok, Err}
use Rattle.plan_reader.specs.declared.fault.Fault.{Fault}
use Rattle.plan.specs.declared.Records.{Records}
use Rattle.plan.specs.Plan.{keeps_rules}
use Rattle.plan.specs.PlanText.{plan_in}
use Rattle.plan.specs.Records.{plan_of}
use Rattle.plan_reader.specs.ReadPlan.{read_as, reason_number}
use Rattle.plan_reader.proofs.ReadBack.{plan_told, fault_told}
use Rattle.plan.proofs.ReadKeeps.{read_keeps}
use Rattle.state.specs.Image.{image}
use Rattle.calls.specs.declared.Answer.TheVariants.{Refused, Done, Faulty}
use Rattle.calls.specs.Answer.{leaves, number_of}
use Rattle.state.specs.State.{made}
use Rattle.calls.specs.Calls.{make, refusal, served, make_served, lent, handed, call, makes, keeps_image, stored, enter}
use Rattle.tmavolice.specs.Outcome.{Outcome}

pub plan_keeps : (text : List ℕ) (r : Records) → Ok r ≡ read_as (plan_in text) → keeps_rules (plan_of r) ≡ true
plan_keeps text r read = read_keeps text (plan_of r) (plan_told text r read)

module _ (l text : List ℕ) (clock : ℕ) where
  pub make_refused : {r : ℕ} → (length l ≡ 4096 → ⊥) → r ≡ number_of (Refused 8) → Outcome (enter l (make text clock)) r l []
  unfolding enter lent
  make_refused n e = rw (ne_eqb (length l) 4096 n) (record { answered = e; stored = refl; written = refl })

  module _ (long : length l ≡ 4096) where
    pub make_faulty : (f : Fault) → Err f ≡ read_as (plan_in text) → {r : ℕ} → r ≡ number_of (Faulty f.line (reason_number f.reason))
        → Outcome (enter l (make text clock)) r l []
    unfolding enter lent makes call refusal served make_served leaves handed stored keeps_image
    make_faulty f read e =
        rw (eq-eqb (length l) 4096 long, fault_told text f read) (record { answered = e; stored = refl; written = refl })

    pub make_done : (x : Records) → Ok x ≡ read_as (plan_in text) → {r : ℕ} {left : List ℕ}
        → left ≡ image (made (plan_of x) clock)
        → r ≡ number_of Done → Outcome (enter l (make text clock)) r left []
    unfolding enter lent makes call refusal served make_served leaves handed stored keeps_image
    make_done x read s e = rw (eq-eqb (length l) 4096 long, plan_told text x read) (record { answered = e; stored = s; written = refl })

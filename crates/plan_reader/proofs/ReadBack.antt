-- What a text is read as, by value: what it says of the plan, and that it is one value.
use mathlib.Core.Path.{◌≡◌, refl, sym, ap, ◌∙◌}
use mathlib.Core.List.{List}
use Prim.Native.Nat.{ℕ}
use Rattle.std.specs.Prelude.{Result, Ok, Err}
use Rattle.plan.specs.PlanText.{Reading, fault, planned, plan_in}
use Rattle.plan.specs.declared.Records.{Records}
use Rattle.plan.specs.Records.{plan_of, by_value}
use Rattle.plan.proofs.Kept.{rules_so_far}
use Rattle.plan.proofs.ReadKeeps.{read_keeps}
use Rattle.plan.proofs.ByValue.{value_back}
use Rattle.plan_reader.specs.declared.fault.Fault.{Fault}
use Rattle.plan_reader.specs.ReadPlan.{read_as, reason_number, reason_numbered}
use Rattle.plan_reader.proofs.ReasonRange.{fault_numbered}

-- two outcomes under the promise are equal
pub read_agree : (text : List ℕ) (x y : Result Records Fault) → x ≡ read_as (plan_in text) → y ≡ read_as (plan_in text) → x ≡ y
read_agree text x y e f = e ∙ sym f

module _ (text : List ℕ) where
  pub plan_told : (r : Records) → Ok r ≡ read_as (plan_in text) → plan_in text ≡ planned (plan_of r)
  unfolding read_as
  plan_told r e = go (plan_in text) refl
    where
      go : (reading : Reading) → plan_in text ≡ reading → plan_in text ≡ planned (plan_of r)
      go (fault line reason) p = let k : _ = e ∙ ap read_as p in cc
      go (planned plan) p =
          let k : _ = e ∙ ap read_as p in
          let s : r ≡ by_value plan = cc in
          p ∙ ap planned (sym (value_back plan (rules_so_far plan (read_keeps text plan p)).1) ∙ ap plan_of (sym s))

  pub fault_told : (f : Fault) → Err f ≡ read_as (plan_in text) → plan_in text ≡ fault f.line (reason_number f.reason)
  unfolding read_as
  fault_told f e = go (plan_in text) refl
    where
      go : (reading : Reading) → plan_in text ≡ reading → plan_in text ≡ fault f.line (reason_number f.reason)
      go (fault line reason) p =
          let k : _ = e ∙ ap read_as p in
          let s : f ≡ record { line = line; reason = reason_numbered reason } = cc in
          rw (s, fault_numbered text line reason p) p
      go (planned plan) p = let k : _ = e ∙ ap read_as p in cc

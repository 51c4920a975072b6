-- A unit that is made, or a faulty plan that is told.
use mathlib.Core.Path.{◌≡◌, refl}
use mathlib.Core.List.{List, []}
use Prim.Native.Nat.{ℕ, ◌/◌, ◌%◌, ◌^◌}
use borrow.Author.Tests.{eq-eqb, ne_eqb}
use Rattle.calls.specs.Calls.{Entered}
use Rattle.tmavolice.specs.Outcome.{Outcome}
use Rattle.events.specs.AnswerLine.{fault_line}
use Rattle.events.specs.Read.{Put}
use Rattle.events.proofs.Puts.{put_none, put_as}
use Rattle.events_shift.specs.Shift.{is_faulty, fault_of}
use Rattle.events_shift.specs.Ready.{Ready}

module _ {x : Entered} {n : ℕ} {left : List ℕ} (o : Outcome x n left []) (out : List ℕ) where
  pub ready_made : (n % 2 ^ 8 ≡ 7 → ⊥) → Ready x 0 left out out
  unfolding is_faulty fault_of
  ready_made h =
      let none : [] ≡ fault_of x = rw (← o.answered, ne_eqb _ _ h) in
      record { stored = o.stored; printed = put_as (put_none 0 out) none refl }

  pub ready_fault : n % 2 ^ 8 ≡ 7 → {r : ℕ} {q : List ℕ} → Put (fault_line (n / 2 ^ 32) (n / 2 ^ 8 % 2 ^ 8)) 0 r out q
      → Ready x r left out q
  unfolding is_faulty fault_of
  ready_fault h p =
      let told : fault_line (n / 2 ^ 32) (n / 2 ^ 8 % 2 ^ 8) ≡ fault_of x = rw (← o.answered, eq-eqb _ _ h) in
      record { stored = o.stored; printed = put_as p told refl }

-- A step by its parts: what a call's number says, and what a call leaves in the buffer that it was lent.
use mathlib.Core.Path.{◌≡◌, sym, ◌∙◌}
use mathlib.Core.List.{List, [], append-nil}
use Prim.Native.Nat.{ℕ, ◌/◌, ◌%◌, ◌^◌, ◌-◌, min}
use native.Mathlib.Nat.{sub-zero}
use native.Mathlib.Omega.{arith}
use lib.ListN.{length, take, drop, drop_of_length-le}
use lib.Seq.{take_all}
use borrow.Author.Tests.{eq-eqb, ne_eqb}
use Rattle.octets.proofs.Cases.{by_le}
use Rattle.calls.specs.Calls.{Entered}
use Rattle.tmavolice.specs.Outcome.{Outcome}
use Rattle.events.specs.declared.Logged.{Logged}
use Rattle.events.specs.AnswerLine.{refused, answered}
use Rattle.events_shift.specs.Step.{got_of}
use Rattle.events_shift.specs.Held.{lent_to, Made}

-- the first n octets, of as many as there are
pub take_least : (n m : ℕ) (l : List ℕ) → m ≡ min n (length l) → take (m - 0) (drop 0 l) ≡ take n l
take_least n m l e =
    by_le n (length l) (λ t low. let z : m ≡ n = omega arith in rw (sub-zero, z))
    (λ t high.
    let z : m ≡ length l = omega arith in
    rw (sub-zero, z) (take_all (length l) l (omega arith) ∙ sym (take_all n l (omega arith))))

pub says_refused : (answer : ℕ) (l : List ℕ) → answer % 2 ^ 8 ≡ 0 → refused (answer / 2 ^ 8 % 2 ^ 8) ≡ got_of answer l
unfolding got_of
says_refused answer l z = rw (eq-eqb _ _ z)

pub says_answered : (answer n : ℕ) (l : List ℕ) → (answer % 2 ^ 8 ≡ 0 → ⊥) → n ≡ min (answer / 2 ^ 32) (length l)
    → answered (answer % 2 ^ 8) (take (n - 0) (drop 0 l)) ≡ got_of answer l
unfolding got_of
says_answered answer n l z e = rw (ne_eqb _ _ z, take_least (answer / 2 ^ 32) n l e)

module _ {x : Entered} {n : ℕ} {left : List ℕ} (e : Logged) where
  -- a call that was lent the buffer, and one that was not
  pub made_lent : {before out : List ℕ} → lent_to e out ≡ out → Outcome x n left out → length out ≡ length before
      → Made x e n left before out
  made_lent {before} {out} z o same =
      record {
        answered = o.answered;
        stored = o.stored;
        sent = z ∙ o.written;
        lent = rw (← o.written) (sym (rw (drop_of_length-le before {i = length out} (omega arith)) (append-nil out)));
      }

  pub made_silent : (room : List ℕ) → lent_to e room ≡ [] → Outcome x n left [] → Made x e n left room room
  made_silent room z o =
      record { answered = o.answered; stored = o.stored; sent = z ∙ o.written; lent = rw (← o.written) }

-- What the lent output held before plays no part in what a step prints and leaves.
use mathlib.Core.Path.{◌≡◌, refl, sym, ◌∙◌}
use mathlib.Core.Bool.{Bool, true, false, cond, ◌&&◌, ◌||◌}
use mathlib.Core.List.{List, []}
use Prim.Native.Nat.{ℕ, ◌+◌, ◌*◌, ◌/◌, ◌%◌, ◌^◌}
use native.Mathlib.Omega.{arith}
use lib.Dec.{eqb}
use lib.ListN.{length}
use lib.Seq.{take_at, take_all}
use borrow.Author.Tests.{eq-eqb}
use Rattle.octets.specs.Octets.{over}
use Rattle.octets.proofs.Same.{both_true}
use Rattle.state.specs.State.{State, notice_due}
use Rattle.state.specs.Image.{state_of, ok_image}
use Rattle.state.proofs.ImageLaws.{ok_valid}
use Rattle.calls.specs.declared.Answer.{Answer}
use Rattle.calls.specs.declared.Answer.TheVariants.{Refused}
use Rattle.calls.specs.Answer.{packed, number_of, leaves}
use Rattle.calls.specs.Calls as calls
use Rattle.calls.specs.Calls.{Call, Entered, short_output, refusal, served, lent, handed, call, makes, stored, enter}
use Rattle.calls.proofs.CallValid.{passed}
use Rattle.events.specs.Event.{Event, frame, tick, allow, prohibit, notice, restart, unreadable}
use Rattle.events_shift.specs.Step.{entered, got_of, printed}
use Rattle.events_shift.proofs.Measured.{Measured, frame_measured, notice_measured}

-- so what was written is what the host sees, wherever it was written over
got_written : (a : Answer) (w room : List ℕ) → number_of a / 2 ^ 32 ≡ length w → got_of (number_of a) (over w room) ≡ got_of (number_of a) w
unfolding got_of
got_written a w room e =
    let n : ℕ = number_of a in
    rw (e, take_at w _ (length w) refl, take_all (length w) w (omega arith))

got_refused : (n : ℕ) (a b : List ℕ) → got_of (number_of (Refused n)) a ≡ got_of (number_of (Refused n)) b
unfolding got_of number_of packed
got_refused n a b = let z : (0 + n * 2 ^ 8 + 0 * 2 ^ 16 + 0 * 2 ^ 24 + 0 * 2 ^ 32) % 2 ^ 8 ≡ 0 = omega arith in rw (eq-eqb _ _ z)

-- two calls that differ in what they are lent alone
pub record Alike (x y : Entered) : Type 0 where
  pub number : x.number ≡ y.number
  pub image : x.image ≡ y.image
  pub got : got_of x.number x.out ≡ got_of y.number y.out

module _ (l : List ℕ) (c d : Call) (again : makes d ≡ makes c) (no : refusal (state_of l) d ≡ refusal (state_of l) c)
    (yes : served (state_of l) d ≡ served (state_of l) c)
    (measured : (eqb (length l) 4096 && (makes c || ok_image l)) ≡ true → eqb (refusal (state_of l) c) 0 ≡ true
    → Measured (served (state_of l) c)) where
  call_alike : (eqb (length l) 4096 && (makes c || ok_image l)) ≡ true
      → Alike (stored l (call (state_of l) c)) (stored l (call (state_of l) d))
  unfolding call handed stored leaves
  call_alike ok = rw (no, yes) (go (eqb (refusal (state_of l) c) 0) refl)
    where
      s : State
      s = state_of l

      go : (b : Bool) → eqb (refusal s c) 0 ≡ b
          → Alike (stored l (handed c (cond b (served s c) (leaves (Refused (refusal s c)) s))))
          (stored l (handed d (cond b (served s c) (leaves (Refused (refusal s c)) s))))
      go true e =
          let m : Measured (served s c) = measured ok e in
          let w : List ℕ = (served s c).octets in
          let a : Answer = (served s c).answer in
          record { number = refl; image = refl; got = got_written a w (lent c) m ∙ sym (got_written a w (lent d) m) }
      go false e = record { number = refl; image = refl; got = got_refused (refusal s c) (over [] (lent c)) (over [] (lent d)) }

  enter_alike : Alike (enter l c) (enter l d)
  unfolding enter
  enter_alike = rw again (go (eqb (length l) 4096 && (makes c || ok_image l)) refl)
    where
      go : (b : Bool) → (eqb (length l) 4096 && (makes c || ok_image l)) ≡ b
          → Alike (cond b (stored l (call (state_of l) c)) (record { number = number_of (Refused 8); image = l; out = lent c }))
          (cond b (stored l (call (state_of l) d)) (record { number = number_of (Refused 8); image = l; out = lent d }))
      go true e = call_alike e
      go false e = record { number = refl; image = refl; got = got_refused 8 (lent c) (lent d) }

step_alike : (number : ℕ) (e : Event) {x y : Entered} → Alike x y → printed number e x ≡ printed number e y
unfolding printed
step_alike number e a = rw (a.image, a.got)

-- The program lends 2,008 octets; whatever they held, it prints the same and leaves the same image.
due : (b : Bool) → eqb (cond b 0 7) 0 ≡ true → b ≡ true
due true h = refl
due false h = h

pub room_free : (number : ℕ) (l a b : List ℕ) (e : Event) → length a ≡ length b
    → printed number e (entered l a e) ≡ printed number e (entered l b e)
unfolding entered refusal served makes short_output
room_free number l a b (frame port side octets) same =
    step_alike number (frame port side octets)
    (enter_alike l (calls.frame port side octets a) (calls.frame port side octets b) refl (rw same) refl
    (λ ok e. frame_measured (state_of l) port side octets))
room_free number l a b (tick reading) same = refl
room_free number l a b (allow flow) same = refl
room_free number l a b (prohibit flow) same = refl
room_free number l a b notice same =
    step_alike number notice
    (enter_alike l (calls.notice a) (calls.notice b) refl (rw same) refl
    (λ ok e.
    notice_measured (state_of l) (ok_valid l (both_true (eqb (length l) 4096) (ok_image l) ok).1)
    (due (notice_due (state_of l)) (passed (short_output a) 2 _ e).1)))
room_free number l a b (restart reading) same = refl
room_free number l a b unreadable same = refl

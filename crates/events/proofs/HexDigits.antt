-- Hexadecimal digits: what one of them is, a turn of the loop that tests them, and the octets that two of them are.
use mathlib.Core.Path.{◌≡◌, refl}
use mathlib.Core.Bool.{Bool, true, false, ◌&&◌, and-true, and_assoc, false≢true}
use mathlib.Core.List.{List, [], ◌∷◌, ◌++◌}
use Prim.Native.Nat.{ℕ, zero, suc, ◌+◌, ◌*◌, ◌/◌, ◌<◌, ◌≤◌}
use native.Mathlib.Numerals.{add-one}
use native.Mathlib.Omega.{arith}
use lib.ListN.{length, get_or, take, drop, set, drop_of_length-le}
use lib.Seq.{drop-cons}
use borrow.Author.Tests.{lt-leb}
use Rattle.octets.specs.Lists.{within, every}
use Rattle.octets.specs.Text.{digit}
use Rattle.octets.proofs.Over.{copy_more}
use Rattle.octets.proofs.Same.{both_true}
use Rattle.octets.proofs.Cases.{by_le}
use Rattle.octets.proofs.ListLaws.{within_low, within_high}
use Rattle.plan.specs.Line.{is_digit}
use Rattle.plan_lines.specs.Fields.{is_hex}
use Rattle.events.specs.Event.{unhexed}

-- a number above the range is not in it
above : (low high x : ℕ) → high < x → within low high x ≡ false
unfolding within
above low high x h = rw (lt-leb x high h) (by_le low x (λ e k. rw e) (λ e k. rw e))

-- a digit stands from `0` on; one above `9` is a letter
module _ (x : ℕ) (t : is_hex x ≡ true) where
  pub from_zero : 48 ≤ x
  unfolding is_hex is_digit within
  from_zero =
      by_le 48 x (λ e h. h) (λ e h. absurd (false≢true (simp (e, lt-leb 97 x (omega arith)) at t)))

  pub a_letter : 57 < x → (97 ≤ x) × (x ≤ 102)
  unfolding is_hex is_digit
  a_letter k =
      let w : within 97 102 x ≡ true = rw (above 48 57 x k) at t in
      (within_low 97 102 x w, within_high 97 102 x w)

-- a turn of the loop that tests each octet, and its end
pub digits_turn : (f : List ℕ) (i : ℕ) (all : Bool) → i < length f
    → ((all && is_hex (get_or f i 0)) && every is_hex (drop (i + 1) f)) ≡ (all && every is_hex (drop i f))
unfolding every
digits_turn f i all h = simp (add-one, drop-cons f i 0 h, and_assoc)

pub digits_end : (f : List ℕ) (i : ℕ) (all : Bool) → length f ≤ i → (all && every is_hex (drop i f)) ≡ all
unfolding every
digits_end f i all h = simp (drop_of_length-le f h, and-true)

-- where every octet is a digit, the one at each place is
pub digit_at : (f : List ℕ) → every is_hex f ≡ true → (i : ℕ) → i < length f → is_hex (get_or f i 0) ≡ true
unfolding every
digit_at [] h i k = absurd (omega arith)
digit_at (x ∷ f) h zero k = (both_true (is_hex x) (every is_hex f) h).0
digit_at (x ∷ f) h (suc i) k = digit_at f (both_true (is_hex x) (every is_hex f) h).1 i (omega arith)

-- two digits are one octet: how many octets there are, and the one at each place
pub unhexed_length : (f : List ℕ) → length (unhexed f) ≡ length f / 2
unfolding unhexed
unhexed_length [] = refl
unhexed_length (a ∷ []) = refl
unhexed_length (a ∷ b ∷ f) = omega (arith, unhexed_length f)

unhexed_at : (f : List ℕ) (i : ℕ) → 2 * i + 1 < length f
    → get_or (unhexed f) i 0 ≡ digit (get_or f (2 * i) 0) * 16 + digit (get_or f (2 * i + 1) 0)
unfolding unhexed
unhexed_at [] i h = absurd (omega arith)
unhexed_at (a ∷ []) i h = absurd (omega arith)
unhexed_at (a ∷ b ∷ f) zero h = refl
unhexed_at (a ∷ b ∷ f) (suc i) h =
    let e : 2 * suc i ≡ suc (suc (2 * i)) = omega arith in
    let g : 2 * suc i + 1 ≡ suc (suc (2 * i + 1)) = omega arith in
    rw (g, e) (unhexed_at f i (omega arith))

-- a turn of the loop that writes the octets
pub unhexed_turn : (f room : List ℕ) (i : ℕ) {a b : ℕ} → 2 * i + 1 < length f → length f ≤ 2 * length room
    → a ≡ digit (get_or f (2 * i) 0) → b ≡ digit (get_or f (2 * i + 1) 0)
    → set (take i (unhexed f) ++ drop i room) i (a * 16 + b) ≡ take (i + 1) (unhexed f) ++ drop (i + 1) room
unhexed_turn f room i h k ea eb =
    let n : length (unhexed f) ≡ length f / 2 = unhexed_length f in
    rw (ea, eb, ← unhexed_at f i h) (copy_more room (unhexed f) i (omega arith) (omega arith))

-- Turns of the loops over the octets beside the flows' numbers, counted or compared with places.
use mathlib.Core.Path.{◌≡◌, refl, sym}
use mathlib.Core.Bool.{Bool, true, false, cond, ◌&&◌, ◌||◌, and-true, and_assoc}
use mathlib.Core.List.{List}
use Prim.Native.Nat.{ℕ, zero, suc, ◌+◌, ◌<◌, ◌≤◌}
use native.Mathlib.Nat.{add-zero}
use native.Mathlib.Numerals.{add-one}
use native.Mathlib.Omega.{arith}
use lib.Bits.{bit_or}
use lib.Dec.{eqb, leb}
use lib.ListN.{length, get_or, drop, drop_of_length-le}
use lib.Seq.{drop-cons}
use borrow.Author.Tests.{ne_eqb, lt-leb}
use Rattle.octets.specs.Lists.{count}
use Rattle.octets.proofs.Zero.{or_eqb}
use Rattle.state_tables.specs.Pass.{ok_allowed}

-- n elements below i pass the test
pub count_end : (test : ℕ → Bool) (l : List ℕ) (i n : ℕ) → length l ≤ i → n + count test (drop i l) ≡ n
unfolding count
count_end test l i n h = simp (drop_of_length-le l h, add-zero)

-- an octet of an allowed flow is at most its place's mark
at_most : (a : ℕ) (m : Bool) → (eqb a 0 || (eqb a 1 && m)) ≡ leb a (cond m 1 0)
at_most zero true = refl
at_most zero false = refl
at_most (suc zero) true = refl
at_most (suc zero) false = refl
at_most (suc (suc a)) m =
    rw (ne_eqb (suc (suc a)) 0 (λ z. absurd (omega arith)), ne_eqb (suc (suc a)) 1 (λ z. absurd (omega arith)))
    (sym (lt-leb (suc (suc a)) (cond m 1 0) (high m)))
  where
    high : (m : Bool) → cond m 1 0 < suc (suc a)
    high true = omega arith
    high false = omega arith

pub at_most_mark : (a p : ℕ) → (eqb a 0 || (eqb a 1 && leb 1 p)) ≡ leb a (cond (leb 1 p) 1 0)
at_most_mark a p = at_most a (leb 1 p)

-- 1 where a test fails
fault_zero : (good : Bool) → eqb (cond good 0 1) 0 ≡ good
fault_zero true = refl
fault_zero false = refl

-- bad is the OR of what is wrong below i
pub allowed_turn : (a p : List ℕ) (i bad w : ℕ) → i < length a → length a ≤ length p
    → w ≡ cond (eqb (get_or a i 0) 0 || (eqb (get_or a i 0) 1 && leb 1 (get_or p i 0))) 0 1
    → (eqb (bit_or bad w) 0 && ok_allowed (drop (i + 1) a) (drop (i + 1) p)) ≡ (eqb bad 0 && ok_allowed (drop i a) (drop i p))
unfolding ok_allowed
allowed_turn a p i bad w h k e =
    simp (or_eqb, e, fault_zero, add-one, drop-cons a i 0 h, drop-cons p i 0 (omega arith), and_assoc)

pub allowed_end : (a p : List ℕ) (i bad : ℕ) → length a ≤ i → (eqb bad 0 && ok_allowed (drop i a) (drop i p)) ≡ eqb bad 0
unfolding ok_allowed
allowed_end a p i bad h = simp (drop_of_length-le a h, and-true)

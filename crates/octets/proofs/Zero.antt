-- Laws of `all_zero`: a turn of the loop that ORs the octets, and a run of zeros.
use mathlib.Core.Path.{◌≡◌, refl}
use mathlib.Core.Bool.{Bool, true, false, ◌&&◌, and-true, and_assoc}
use mathlib.Core.List.{List, [], ◌∷◌, ◌++◌}
use Prim.Native.Nat.{ℕ, suc, zero, ◌+◌, ◌<◌, ◌≤◌}
use native.Mathlib.Numerals.{add-one}
use native.Mathlib.Omega.{arith}
use lib.Bits.{bit_or, bit_and, or_add_and, and_le_l, and_le_r}
use lib.Dec.{eqb}
use lib.ListN.{length, get_or, take, drop, replicate, drop_of_length-le, take-append-drop}
use lib.Seq.{drop-cons, drop-drop}
use borrow.Author.Tests.{eqb-true, eqb-false, ne_eqb}
use Rattle.octets.specs.Octets.{low_number, all_zero}
use Rattle.octets.proofs.Same.{both_true}
use Rattle.octets.proofs.LowLaws.{low_zero}

or_none : (a x : ℕ) → bit_or a x ≡ 0 → (a ≡ 0) × (x ≡ 0)
or_none a x e =
    let s : bit_or a x + bit_and a x ≡ a + x = or_add_and a x in
    let l : bit_and a x ≤ a = and_le_l a x in
    let r : bit_and a x ≤ x = and_le_r a x in
    (omega arith, omega arith)

pub or_eqb : (a x : ℕ) → eqb (bit_or a x) 0 ≡ (eqb a 0 && eqb x 0)
or_eqb a x = go (eqb a 0) (eqb x 0) refl refl
  where
    go : (p q : Bool) → eqb a 0 ≡ p → eqb x 0 ≡ q → eqb (bit_or a x) 0 ≡ (p && q)
    go true true e f = rw (eqb-true a 0 e, eqb-true x 0 f) refl
    go true false e f = ne_eqb _ _ (λ z. eqb-false x 0 f (or_none a x z).1)
    go false q e f = ne_eqb _ _ (λ z. eqb-false a 0 e (or_none a x z).0)

-- octets cut in two
pub zero_parts : (a b : List ℕ) → all_zero (a ++ b) ≡ (all_zero a && all_zero b)
unfolding all_zero
zero_parts [] b = refl
zero_parts (x ∷ a) b = rw (zero_parts a b) (simp and_assoc)

pub run_rest : (at n : ℕ) (l : List ℕ) → all_zero (drop at l) ≡ (all_zero (take n (drop at l)) && all_zero (drop (at + n) l))
run_rest at n l =
    let both : _ = zero_parts (take n (drop at l)) (drop n (drop at l)) in
    rw (take-append-drop, drop-drop) at both

-- a turn of the loop: acc is the OR of the octets below i
pub zero_turn : (l : List ℕ) (i acc : ℕ) → i < length l
    → (eqb (bit_or acc (get_or l i 0)) 0 && all_zero (drop (i + 1) l)) ≡ (eqb acc 0 && all_zero (drop i l))
unfolding all_zero
zero_turn l i acc h = simp (or_eqb, add-one, drop-cons l i 0 h, and_assoc)

-- and of one that ORs the numbers that n octets spell
pub word_turn : (n : ℕ) (l : List ℕ) (i acc : ℕ) {x : ℕ} → x ≡ low_number n (drop i l)
    → (eqb (bit_or acc x) 0 && all_zero (drop (i + n) l)) ≡ (eqb acc 0 && all_zero (drop i l))
word_turn n l i acc e = rw (or_eqb, e, low_zero, run_rest i n l) (simp and_assoc)

pub zero_end : (l : List ℕ) (i acc : ℕ) → length l ≤ i → (eqb acc 0 && all_zero (drop i l)) ≡ eqb acc 0
unfolding all_zero
zero_end l i acc h = simp (drop_of_length-le l h, and-true)

-- a run of zeros, and no other, is all zero
pub zeros_all : (n : ℕ) → all_zero (replicate n 0) ≡ true
unfolding all_zero
zeros_all zero = refl
zeros_all (suc n) = zeros_all n

pub all_zeros : (l : List ℕ) → all_zero l ≡ true → l ≡ replicate (length l) 0
unfolding all_zero
all_zeros [] e = refl
all_zeros (x ∷ l) e =
    let b : _ = both_true (eqb x 0) (all_zero l) e in
    rw (eqb-true x 0 b.0, ← all_zeros l b.1)

-- Laws of numbers with the lowest octet first, over the width: read in two parts, written and read again, read and written again.
use mathlib.Core.Path.{◌≡◌, refl, ap}
use mathlib.Core.List.{List, [], ◌∷◌, ◌++◌}
use mathlib.Core.Bool.{◌&&◌}
use Prim.Native.Nat.{ℕ, suc, zero, ◌+◌, ◌*◌, ◌/◌, ◌%◌, ◌^◌, ◌<◌, ◌≤◌}
use native.Mathlib.Nat.{add-zero, zero-add, suc-add, add_assoc, add-mul, mul_assoc, mul-one, pow-suc}
use native.Mathlib.Omega.{arith}
use lib.Dec.{eqb}
use borrow.Author.Tests.{eq-eqb, ne_eqb}
use lib.ListN.{length, get_or, take, drop, length-drop, get_or-append}
use lib.Seq.{get_or-drop, drop-drop, drop-append-le}
use Rattle.octets.specs.Octets.{low_number, low_octets, all_zero}
use Rattle.octets.proofs.Laws.{Octets, octets_drop, drop_more}
use Rattle.octets.proofs.Cases.{by_eq}

pub low_octets_length : (n x : ℕ) → length (low_octets n x) ≡ n
unfolding low_octets
low_octets_length zero x = refl
low_octets_length (suc n) x = ap suc (low_octets_length n (x / 256))

-- a number of m octets and n more
low_join : (m n : ℕ) (l : List ℕ) → low_number (m + n) l ≡ low_number m l + low_number n (drop m l) * 256 ^ m
unfolding low_number
low_join zero n l = rw (zero-add, zero-add, mul-one)
low_join (suc m) n l =
    rw (suc-add, low_join m n (drop 1 l), drop_more, pow-suc, add-mul, mul_assoc, add_assoc)

-- a number read in two parts at a place
pub low_parts : (m n at : ℕ) (l : List ℕ) {a b : ℕ} → a ≡ low_number m (drop at l) → b ≡ low_number n (drop (at + m) l)
    → a + b * 256 ^ m ≡ low_number (m + n) (drop at l)
low_parts m n at l ea eb = rw (ea, eb, low_join, drop-drop)

pub low_1 : (at : ℕ) (l : List ℕ) → get_or l at 0 ≡ low_number 1 (drop at l)
unfolding low_number
low_1 at l = simp (get_or-drop, add-zero)

-- what stands behind a number's octets is no part of it
pub low_on : (n : ℕ) (l t : List ℕ) → n ≤ length l → low_number n (l ++ t) ≡ low_number n l
unfolding low_number
low_on zero l t h = refl
low_on (suc n) l t h =
    rw (
      get_or-append l t 0 0 (omega arith),
      drop-append-le 1 l t (omega arith),
      low_on n (drop 1 l) t (omega (arith, length-drop 1 l)),
    )

pub low_octets_lem : (n x : ℕ) (t : List ℕ) → x < 256 ^ n → low_number n (low_octets n x ++ t) ≡ x
unfolding low_number low_octets
low_octets_lem zero x t h = omega arith
low_octets_lem (suc n) x t h =
    let p : x < 256 ^ n * 256 = rw pow-suc at h in
    let q : x / 256 < 256 ^ n = omega arith in
    rw (low_octets_lem n (x / 256) t q) (omega arith)

pub low_fits : (n : ℕ) (l : List ℕ) → Octets l → low_number n l < 256 ^ n
unfolding low_number
low_fits zero l o = omega arith
low_fits (suc n) l o =
    let f : low_number n (drop 1 l) < 256 ^ n = low_fits n (drop 1 l) (octets_drop 1 l o) in
    let x : get_or l 0 0 < 256 = o 0 in
    rw pow-suc (omega arith)

pub octets_low : (n : ℕ) (l : List ℕ) → Octets l → n ≤ length l → low_octets n (low_number n l) ≡ take n l
unfolding low_number low_octets
octets_low zero l o h = refl
octets_low (suc n) [] o h = absurd (omega arith)
octets_low (suc n) (x ∷ l) o h =
    let b : x < 256 = o 0 in
    let m : ℕ = low_number n l in
    let low : (x + m * 256) % 256 ≡ x = omega arith in
    let high : (x + m * 256) / 256 ≡ m = omega arith in
    rw (low, high, octets_low n l (λ i. o (suc i)) (omega arith))

pub octets_low_at : (at n : ℕ) (l : List ℕ) → Octets l → at + n ≤ length l → low_octets n (low_number n (drop at l)) ≡ take n (drop at l)
octets_low_at at n l o h = octets_low n (drop at l) (octets_drop at l o) (omega (arith, length-drop at l))

low_none : (n : ℕ) → low_number n [] ≡ 0
unfolding low_number
low_none zero = refl
low_none (suc n) = rw (low_none n)

-- a number is 0 when its octets are
pub sum_zero : (x m : ℕ) → eqb (x + m * 256) 0 ≡ (eqb x 0 && eqb m 0)
sum_zero x m =
    by_eq x 0
    (λ e same. by_eq m 0 (λ f none. simp (e, f, eq-eqb (x + m * 256) 0 (omega arith)))
    (λ f more. simp (e, f, ne_eqb (x + m * 256) 0 (λ z. more (omega arith)))))
    (λ e other. simp (e, ne_eqb (x + m * 256) 0 (λ z. other (omega arith))))

pub low_zero : (n : ℕ) (l : List ℕ) → eqb (low_number n l) 0 ≡ all_zero (take n l)
unfolding low_number all_zero
low_zero zero l = refl
low_zero (suc n) [] = rw (zero-add, low_none n) refl
low_zero (suc n) (x ∷ l) = rw (sum_zero, low_zero n l)

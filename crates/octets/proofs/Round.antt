-- A number written as octets and read again, and octets read as a number and written again: over the width. Also by way of the other order.
use mathlib.Core.Path.{◌≡◌, refl, sym, ◌∙◌}
use mathlib.Core.List.{List, [], ◌∷◌, ◌++◌, append-nil}
use Prim.Native.Nat.{ℕ, suc, zero, ◌+◌, ◌*◌, ◌/◌, ◌%◌, ◌^◌, ◌<◌, ◌≤◌}
use native.Mathlib.Nat.{zero-add, zero-mul, add_assoc, add-mul, mul_assoc, mod-one, mod-eq_of_lt, one-le-pow, pow-succ'}
use native.Mathlib.Omega.{arith}
use lib.Arith.{digits_lt, digits_div, digits_mod, mod-mul}
use lib.ListN.{length, take, drop, length-drop, take-append-drop}
use lib.Seq.{take_all, length-take-le}
use Rattle.octets.specs.Octets.{number, octets, low_number, low_octets}
use Rattle.octets.proofs.Laws.{Octets, octets_drop, octets_length, octets_small, octets_join, number_on}
use Rattle.octets.proofs.LowLaws.{octets_low, octets_low_at}

pow_some : (n : ℕ) → 0 < 256 ^ n
pow_some n = one-le-pow n 256 (omega arith)

-- n octets keep a number up to 256 ^ n
octets_keep : (n x : ℕ) (t : List ℕ) → number n (octets n x ++ t) ≡ x % 256 ^ n
unfolding number octets
octets_keep zero x t = sym (mod-one x)
octets_keep (suc n) x t = rw (octets_keep n x t, pow-succ') (sym (mod-mul x {m = 256} {c = 256 ^ n} (omega arith) (pow_some n)))

pub number_octets : (n x : ℕ) (t : List ℕ) → x < 256 ^ n → number n (octets n x ++ t) ≡ x
number_octets n x t h = octets_keep n x t ∙ mod-eq_of_lt h

pub number_fits : (n : ℕ) (l : List ℕ) → Octets l → number n l < 256 ^ n
unfolding number
number_fits zero l o = omega arith
number_fits (suc n) l o =
    let f : number n (drop 1 l) < 256 ^ n = number_fits n (drop 1 l) (octets_drop 1 l o) in
    rw pow-succ' (digits_lt (o 0) f)

-- whatever stands above the n octets does not show in them
octets_under : (n k : ℕ) (l : List ℕ) → Octets l → n ≤ length l → octets n (k * 256 ^ n + number n l) ≡ take n l
unfolding number octets
octets_under zero k l o h = refl
octets_under (suc n) k [] o h = absurd (omega arith)
octets_under (suc n) k (x ∷ l) o h =
    let p : ℕ = 256 ^ n in
    let m : ℕ = number n l in
    let t : Octets l = λ i. o (suc i) in
    let e : k * 256 ^ suc n + (x * p + m) ≡ (k * 256 + x) * p + m = rw (pow-succ', add-mul, mul_assoc, add_assoc) in
    let top : ((k * 256 + x) * p + m) / p % 256 ≡ x = rw (digits_div (k * 256 + x) (number_fits n l t)) (digits_mod k (o 0)) in
    rw (e, top, octets_under n (k * 256 + x) l t (omega arith))

pub octets_number : (n : ℕ) (l : List ℕ) → Octets l → n ≤ length l → octets n (number n l) ≡ take n l
octets_number n l o h = rw (zero-mul, zero-add) at (octets_under n 0 l o h)

-- n octets show no more of a number than they keep
octets_kept : (n x : ℕ) → octets n (x % 256 ^ n) ≡ octets n x
octets_kept n x =
    let w : List ℕ = octets n x in
    let long : length w ≡ n = octets_length n x in
    rw (← octets_keep n x [], append-nil, octets_number n w (octets_small n x) (omega arith), take_all n w (omega arith))

-- a number's octets in two parts
pub octets_cut : (m n x : ℕ) → octets m (x / 256 ^ n) ++ octets n (x % 256 ^ n) ≡ octets (m + n) x
octets_cut m n x = rw (octets_kept n x, octets_join m n x)

-- a number read at a place with the lowest octet first, its octets then turned: it is the one in network order
pub number_turned : (n at : ℕ) (l : List ℕ) {x r : ℕ} → Octets l → at + n ≤ length l
    → x ≡ low_number n (drop at l) → r ≡ number n (low_octets n x) → r ≡ number n (drop at l)
number_turned n at l o h ex er =
    let m : List ℕ = drop at l in
    let long : n ≤ length m = omega (arith, length-drop at l) in
    let w : List ℕ = take n m in
    let front : number n (w ++ drop n m) ≡ number n w = number_on n w (drop n m) (omega (arith, length-take-le n m long)) in
    rw (er, ex, octets_low_at at n l o h, ← front, take-append-drop)

-- a number turned and then written with the lowest octet first: its octets stand in network order; also in two parts
pub octets_turned : (n x : ℕ) {y : ℕ} → y ≡ low_number n (octets n x) → low_octets n y ≡ octets n x
octets_turned n x e =
    let long : length (octets n x) ≡ n = octets_length n x in
    rw (e, octets_low n (octets n x) (octets_small n x) (omega arith), take_all n (octets n x) (omega arith))

pub octets_parts : (m n x : ℕ) {y z : ℕ} → y ≡ low_number m (octets m (x / 256 ^ n % 256 ^ m)) → z ≡ low_number n (octets n (x % 256 ^ n))
    → low_octets m y ++ low_octets n z ≡ octets (m + n) x
octets_parts m n x ey ez = rw (octets_turned m _ ey, octets_turned n _ ez, octets_kept m, octets_kept n, octets_join)

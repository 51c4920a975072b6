-- Laws of octets that a row's are made of: a list cut in parts, a number in two parts, runs of zeros.
use mathlib.Core.Path.{◌≡◌, refl, sym}
use mathlib.Core.List.{List, [], ◌∷◌, ◌++◌}
use Prim.Native.Nat.{ℕ, suc, zero, ◌+◌, ◌-◌, ◌*◌, ◌/◌, ◌%◌, ◌^◌, ◌<◌, ◌≤◌}
use native.Mathlib.Nat.{zero-add, suc-add, mul_assoc, pow-suc, not-suc-le-zero, le_of_suc-le-suc}
use native.Mathlib.Omega.{arith}
use lib.ListN.{length, get_or, take, drop, replicate, length-drop}
use lib.Seq.{drop-cons, get_or-take, take-nil, take-add, drop-drop, length-take-le}
use borrow.Author.Tests.{eq-eqb}
use Rattle.octets.specs.Octets.{low_number, low_octets, all_zero, same}
use Rattle.octets.proofs.ListLaws.{eqb_turn}
use Rattle.state.specs.Image.{zeros}

take_next : (at n : ℕ) (l : List ℕ) → at < length l → take (suc n) (drop at l) ≡ get_or l at 0 ∷ take n (drop (suc at) l)
take_next at n l h = rw (drop-cons l at 0 h)

pub take_two : (at n : ℕ) (l : List ℕ) → at + 2 ≤ length l
    → take (suc (suc n)) (drop at l) ≡ get_or l at 0 ∷ get_or l (suc at) 0 ∷ take n (drop (suc (suc at)) l)
take_two at n l h = rw (take_next at (suc n) l (omega arith), take_next (suc at) n l (omega arith))

pub take_on : (at m n : ℕ) (l : List ℕ) → take (m + n) (drop at l) ≡ take m (drop at l) ++ take n (drop (at + m) l)
take_on at m n l = rw (take-add m n (drop at l), drop-drop)

pub drop_take : {A : Type 0} (m n : ℕ) (l : List A) → m ≤ n → drop m (take n l) ≡ take (n - m) (drop m l)
drop_take zero n l h = let e : n - 0 ≡ n = omega arith in rw e
drop_take (suc m) zero l h = absurd (not-suc-le-zero h)
drop_take (suc m) (suc n) [] h = sym (take-nil (suc n - suc m))
drop_take (suc m) (suc n) (x ∷ l) h =
    let e : suc n - suc m ≡ n - m = omega arith in
    rw e (drop_take m n l (le_of_suc-le-suc h))

-- a number's octets are in the first octets alone
pub low_within : (n m : ℕ) (l : List ℕ) → n ≤ m → low_number n (take m l) ≡ low_number n l
unfolding low_number
low_within zero m l h = refl
low_within (suc n) m l h =
    rw (get_or-take m l 0 0 (omega arith), drop_take 1 m l (omega arith), low_within n (m - 1) (drop 1 l) (omega arith))

-- a number of m octets with n more above it
pub low_octets_join : (m n s h : ℕ) → s < 256 ^ m → low_octets (m + n) (h * 256 ^ m + s) ≡ low_octets m s ++ low_octets n h
unfolding low_octets
low_octets_join zero n s h f =
    let e : h * 1 + s ≡ h = omega arith in
    rw (zero-add, e)
low_octets_join (suc m) n s h f =
    let g : s < 256 ^ m * 256 = rw pow-suc at f in
    let q : ℕ = h * 256 ^ m in
    let e : h * 256 ^ suc m ≡ q * 256 = rw (pow-suc, mul_assoc) in
    let low : (q * 256 + s) % 256 ≡ s % 256 = omega arith in
    let high : (q * 256 + s) / 256 ≡ q + s / 256 = omega arith in
    rw (suc-add, e, low, high, low_octets_join m n (s / 256) h (omega arith))

pub low_zeros : (n m : ℕ) (t : List ℕ) → n ≤ m → low_number n (replicate m 0 ++ t) ≡ 0
unfolding low_number
low_zeros zero m t h = refl
low_zeros (suc n) zero t h = absurd (not-suc-le-zero h)
low_zeros (suc n) (suc m) t h = rw (low_zeros n m t (le_of_suc-le-suc h))

-- ---- what is compared

pub same_front : (a b c : List ℕ) → same (a ++ b) (a ++ c) ≡ same b c
unfolding same
same_front [] b c = refl
same_front (x ∷ a) b c = rw (eq-eqb x x refl) (same_front a b c)

pub same_zeros : (n : ℕ) (l : List ℕ) → length l ≡ n → same (replicate n 0) l ≡ all_zero l
unfolding same all_zero
same_zeros zero [] e = refl
same_zeros zero (x ∷ l) e = absurd (omega arith)
same_zeros (suc n) [] e = absurd (omega arith)
same_zeros (suc n) (x ∷ l) e = rw (eqb_turn 0 x, same_zeros n l (omega arith))

-- octets kept, with zeros behind them
pub same_tail : (n m : ℕ) (l : List ℕ) → n + m ≤ length l
    → same (take n l ++ zeros m) (take (n + m) l) ≡ all_zero (take m (drop n l))
unfolding zeros
same_tail n m l h =
    let e : length (take m (drop n l)) ≡ m = length-take-le m (drop n l) (omega (arith, length-drop n l)) in
    rw (take-add n m l, same_front) (same_zeros m (take m (drop n l)) e)

-- Lists whose front has a known length, and runs of zeros: cut, stored to, and read as a number.
use mathlib.Core.Path.{◌≡◌, refl, ap}
use mathlib.Core.List.{List, [], ◌∷◌, ◌++◌, map}
use Prim.Native.Nat.{ℕ, suc, zero, ◌+◌, ◌-◌, ◌≤◌}
use native.Mathlib.Nat.{zero-add, suc-add, not-suc-le-zero, le_of_suc-le-suc}
use native.Mathlib.Omega.{arith}
use lib.ListN.{length, take, drop, set, replicate-append-replicate}
use lib.Seq.{take-append-add, drop-append-add}
use Rattle.octets.specs.Octets.{low_number}
use Rattle.state.specs.Image.{zeros}

module _ (p l : List ℕ) (m n : ℕ) (e : length p ≡ m) where
  pub take_past : take (m + n) (p ++ l) ≡ p ++ take n l
  take_past = rw (← e) (take-append-add p l n)

  pub drop_past : drop (m + n) (p ++ l) ≡ drop n l
  drop_past = rw (← e) (drop-append-add p l n)

pub set_past : (p l : List ℕ) (m i x : ℕ) → length p ≡ m → set (p ++ l) (m + i) x ≡ p ++ set l i x
set_past p l m i x e = rw (← e) (go p)
  where
    go : (p : List ℕ) → set (p ++ l) (length p + i) x ≡ p ++ set l i x
    go [] = rw zero-add
    go (y ∷ p) = rw suc-add (ap {B = List ℕ} (λ q. y ∷ q) (go p))

pub set_map : {A B : Type 0} (f : A → B) (l : List A) (i : ℕ) (a : A) → set (map f l) i (f a) ≡ map f (set l i a)
set_map f [] i a = refl
set_map f (x ∷ l) zero a = refl
set_map {B = B} f (x ∷ l) (suc i) a = ap {B = List B} (λ q. f x ∷ q) (set_map f l i a)

pub take_zeros : (m n : ℕ) → m ≤ n → take m (zeros n) ≡ zeros m
unfolding zeros
take_zeros zero n h = refl
take_zeros (suc m) zero h = absurd (not-suc-le-zero h)
take_zeros (suc m) (suc n) h = ap {B = List ℕ} (λ q. 0 ∷ q) (take_zeros m n (le_of_suc-le-suc h))

pub drop_zeros : (m n : ℕ) → drop m (zeros n) ≡ zeros (n - m)
unfolding zeros
drop_zeros zero n = let e : n - 0 ≡ n = omega arith in rw e
drop_zeros (suc m) zero = let e : 0 - suc m ≡ 0 = omega arith in rw e
drop_zeros (suc m) (suc n) = let e : suc n - suc m ≡ n - m = omega arith in rw e (drop_zeros m n)

pub zeros_join : (m n k : ℕ) → m + n ≡ k → zeros m ++ zeros n ≡ zeros k
unfolding zeros
zeros_join m n k e = rw (← e) (replicate-append-replicate m n 0)

pub zeros_number : (k n : ℕ) → low_number k (zeros n) ≡ 0
unfolding low_number zeros
zeros_number zero n = refl
zeros_number (suc k) zero = rw (zeros_number k zero)
zeros_number (suc k) (suc n) = rw (zeros_number k n)

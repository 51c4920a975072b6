-- Laws of numbers in network order: one over the width, for each way to use it.
use mathlib.Core.Path.{◌≡◌, refl, ap}
use mathlib.Core.List.{List, [], ◌∷◌, ◌++◌}
use Prim.Native.Nat.{ℕ, suc, zero, ◌+◌, ◌*◌, ◌/◌, ◌^◌, ◌<◌, ◌≤◌}
use native.Mathlib.Nat.{add-zero, zero-add, suc-add, add_assoc, add-mul, mul_assoc, mul-one, zero-mul, add_comm, div-div-eq-div-mul}
use native.Mathlib.Omega.{arith}
use lib.ListN.{length, get_or, drop, length-drop, get_or-append}
use lib.Pow.{pow-add}
use lib.Seq.{get_or-drop, drop-drop, drop-nil, drop-append-le}
use Rattle.octets.specs.Octets.{number, octets}

-- a list of octets
abbrev pub Octets : List ℕ → Type 0
Octets l = (i : ℕ) → get_or l i 0 < 256

pub octets_drop : (n : ℕ) (l : List ℕ) → Octets l → Octets (drop n l)
octets_drop n l o i = rw get_or-drop (o (n + i))

pub octets_length : (n x : ℕ) → length (octets n x) ≡ n
unfolding octets
octets_length zero x = refl
octets_length (suc n) x = ap suc (octets_length n x)

pub octets_small : (n x : ℕ) → Octets (octets n x)
unfolding octets
octets_small zero x i = omega arith
octets_small (suc n) x zero = omega arith
octets_small (suc n) x (suc i) = octets_small n x i

-- the octets of a number, m of them and n more
pub octets_join : (m n x : ℕ) → octets (m + n) x ≡ octets m (x / 256 ^ n) ++ octets n x
unfolding octets
octets_join zero n x = rw zero-add
octets_join (suc m) n x = rw (suc-add, octets_join m n x, div-div-eq-div-mul, ← pow-add, add_comm n m)

pub drop_more : (m : ℕ) (l : List ℕ) → drop m (drop 1 l) ≡ drop (suc m) l
drop_more m [] = drop-nil m
drop_more m (x ∷ l) = refl

-- a number of m octets and n more
number_join : (m n : ℕ) (l : List ℕ) → number (m + n) l ≡ number m l * 256 ^ n + number n (drop m l)
unfolding number
number_join zero n l = rw (zero-add, zero-mul, zero-add)
number_join (suc m) n l =
    rw (suc-add, number_join m n (drop 1 l), drop_more, pow-add, add-mul, mul_assoc, add_assoc)

-- a number read in two parts at a place
pub number_parts : (m n at : ℕ) (l : List ℕ) {a b : ℕ} → a ≡ number m (drop at l) → b ≡ number n (drop (at + m) l)
    → a * 256 ^ n + b ≡ number (m + n) (drop at l)
number_parts m n at l ea eb = rw (ea, eb, number_join, drop-drop)

pub number_1 : (at : ℕ) (l : List ℕ) → get_or l at 0 ≡ number 1 (drop at l)
unfolding number
number_1 at l = simp (get_or-drop, add-zero, mul-one)

-- what stands behind a number's octets is no part of it
pub number_on : (n : ℕ) (l t : List ℕ) → n ≤ length l → number n (l ++ t) ≡ number n l
unfolding number
number_on zero l t h = refl
number_on (suc n) l t h =
    rw (
      get_or-append l t 0 0 (omega arith),
      drop-append-le 1 l t (omega arith),
      number_on n (drop 1 l) t (omega (arith, length-drop 1 l)),
    )

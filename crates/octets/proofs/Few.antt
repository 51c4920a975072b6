-- How many there can be: of distinct numbers within 1 to n at most n, and fewer while one is free.
use mathlib.Core.Path.{◌≡◌, refl, ◌∙◌}
use mathlib.Core.Bool.{Bool, true, false, cond, not, ◌&&◌, ◌||◌}
use mathlib.Core.List.{List, [], ◌∷◌, map}
use Prim.Native.Nat.{ℕ, suc, zero, ◌+◌, ◌<◌, ◌≤◌}
use native.Mathlib.Omega.{arith}
use lib.Dec.{eqb, leb}
use lib.ListN.{length, length-map}
use borrow.Author.Tests.{leb-true, le-leb, lt-leb, not-true}
use Rattle.octets.specs.Lists.{within, every, some, count, distinct}
use Rattle.octets.proofs.Same.{both_true}
use Rattle.octets.proofs.Cases.{by_eq, by_le}
use Rattle.octets.proofs.ListLaws.{every_map, some_map}

-- how many of the numbers are at most n
abbrev below : ℕ → List ℕ → ℕ
below n l = count (λ x. leb x n) l

none_counted : (x : ℕ) (l : List ℕ) → some (eqb x) l ≡ false → count (eqb x) l ≡ 0
unfolding some count
none_counted x [] e = refl
none_counted x (y ∷ l) e = go (eqb x y) e (none_counted x l)
  where
    go : (b : Bool) → (b || some (eqb x) l) ≡ false → (some (eqb x) l ≡ false → count (eqb x) l ≡ 0)
        → cond b 1 0 + count (eqb x) l ≡ 0
    go true e f = let z : ◌≡◌ {A = ℕ} 0 1 = cc in absurd (omega arith)
    go false e f = omega (arith, f e)

once : (x : ℕ) (l : List ℕ) → distinct l ≡ true → count (eqb x) l ≤ 1
unfolding distinct count
once x [] d = omega arith
once x (y ∷ l) d =
    let b : _ = both_true (not (some (eqb y) l)) (distinct l) d in
    let r : count (eqb x) l ≤ 1 = once x l b.1 in
    by_eq x y
    (λ e same. rw e (omega (arith, rw (← same) at (none_counted y l (not-true (some (eqb y) l) b.0)))))
    (λ e other. rw e (omega arith))

one_more : (n : ℕ) (l : List ℕ) → below (suc n) l ≤ below n l + count (eqb (suc n)) l
unfolding count
one_more n [] = omega arith
one_more n (x ∷ l) =
    let r : _ = one_more n l in
    by_le x n
    (λ e h. rw (e, le-leb x (suc n) (omega arith)) (omega arith))
    (λ e h. by_eq (suc n) x (λ f same. rw (e, f, le-leb x (suc n) (omega arith)) (omega arith))
    (λ f other. rw (e, f, lt-leb x (suc n) (omega arith)) (omega arith)))

none_below : (n : ℕ) (l : List ℕ) → every (within 1 n) l ≡ true → below 0 l ≡ 0
unfolding count every within
none_below n [] h = refl
none_below n (x ∷ l) h =
    let b : _ = both_true (leb 1 x && leb x n) (every (within 1 n) l) h in
    let p : 1 ≤ x = leb-true 1 x (both_true (leb 1 x) (leb x n) b.0).0 in
    rw (lt-leb x 0 (omega arith)) (omega (arith, none_below n l b.1))

all_below : (n : ℕ) (l : List ℕ) → every (within 1 n) l ≡ true → below n l ≡ length l
unfolding count every within
all_below n [] h = refl
all_below n (x ∷ l) h =
    let b : _ = both_true (leb 1 x && leb x n) (every (within 1 n) l) h in
    rw (both_true (leb 1 x) (leb x n) b.0).1 (omega (arith, all_below n l b.1))

few_below : (m n : ℕ) (l : List ℕ) → distinct l ≡ true → every (within 1 m) l ≡ true → below n l ≤ n
few_below m zero l d h = omega (arith, none_below m l h)
few_below m (suc n) l d h = omega (arith, few_below m n l d h, one_more n l, once (suc n) l d)

pub distinct_few : (n : ℕ) (l : List ℕ) → distinct l ≡ true → every (within 1 n) l ≡ true → length l ≤ n
distinct_few n l d h = omega (arith, few_below n n l d h, all_below n l h)

module _ {A : Type 0} where
  -- elements whose numbers are distinct and within 1 to n: at most n, and fewer if a number within 1 to n is not theirs
  module _ (number : A → ℕ) (n : ℕ) (l : List A) (d : distinct (map number l) ≡ true)
      (h : every (λ x. within 1 n (number x)) l ≡ true) where
    pub few : length l ≤ n
    few = rw length-map at (distinct_few n (map number l) d (rw (every_map number (within 1 n) l) h))

    pub room : (k : ℕ) → within 1 n k ≡ true → some (λ x. eqb (number x) k) l ≡ false → length l < n
    unfolding distinct every
    room k w s =
        let e : length (map number l) ≡ length l = length-map l number in
        let f : some (eqb k) (map number l) ≡ false = some_map number k l ∙ s in
        let t : distinct (k ∷ map number l) ≡ true = rw f d in
        let u : every (within 1 n) (k ∷ map number l) ≡ true = rw (w, every_map number (within 1 n) l) h in
        omega (arith, distinct_few n (k ∷ map number l) t u)

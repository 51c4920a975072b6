-- Laws of an element between others, in a list whose keys ascend or whose numbers are distinct.
use mathlib.Core.Path.{◌≡◌, refl, sym, ◌∙◌}
use mathlib.Core.Bool.{Bool, true, false, not}
use mathlib.Core.List.{List, [], ◌∷◌, ◌++◌, map}
use Prim.Native.Nat.{ℕ, ◌<◌}
use native.Mathlib.Omega.{arith}
use lib.Dec.{eqb, ltb}
use borrow.Author.Tests.{ltb-true, lt-ltb, ne_eqb, not-true}
use Rattle.octets.specs.Lists.{every, some, first, ascends, distinct}
use Rattle.octets.proofs.Same.{both_true}
use Rattle.octets.proofs.ListLaws.{neither, eqb_turn, some_map}

module _ {A : Type 0} where
  pub some_under : {B : Type 0} (test : B → Bool) (g : A → B) (l : List A) → some test (map g l) ≡ some (λ x. test (g x)) l
  unfolding some
  some_under test g [] = refl
  some_under test g (x ∷ l) = rw (some_under test g l)

  pub map_join : {B : Type 0} (g : A → B) (a b : List A) → map g (a ++ b) ≡ map g a ++ map g b
  map_join g [] b = refl
  map_join g (x ∷ a) b = rw (map_join g a b)

  -- no key that is below another is that other
  pub below_absent : (key : A → ℕ) (k : ℕ) (l : List A) → every (λ y. ltb (key y) k) l ≡ true
      → some (λ y. eqb (key y) k) l ≡ false
  unfolding every some
  below_absent key k [] h = refl
  below_absent key k (y ∷ l) h =
      let b : _ = both_true (ltb (key y) k) (every (λ y. ltb (key y) k) l) h in
      let p : key y < k = ltb-true (key y) k b.0 in
      rw (ne_eqb (key y) k (λ z. omega arith)) (below_absent key k l b.1)

  module _ (x : A) (rest : List A) where
    pub every_at : (test : A → Bool) (l : List A) → every test (l ++ (x ∷ rest)) ≡ true → test x ≡ true
    unfolding every
    every_at test [] h = (both_true (test x) (every test rest) h).0
    every_at test (y ∷ l) h = every_at test l (both_true (test y) (every test (l ++ (x ∷ rest))) h).1

    pub first_at : (test : A → Bool) (other : A) (l : List A) → some test l ≡ false → test x ≡ true
        → first test other (l ++ (x ∷ rest)) ≡ x
    unfolding some first
    first_at test other [] h t = rw t
    first_at test other (y ∷ l) h t = let b : _ = neither (test y) (some test l) h in rw b.0 (first_at test other l b.1 t)

    ascends_past : (key : A → ℕ) (last : ℕ) (l : List A) → ascends key last (l ++ (x ∷ rest)) ≡ true → last < key x
    unfolding ascends
    ascends_past key last [] h = ltb-true last (key x) (both_true (ltb last (key x)) (ascends key (key x) rest) h).0
    ascends_past key last (y ∷ l) h =
        let b : _ = both_true (ltb last (key y)) (ascends key (key y) (l ++ (x ∷ rest))) h in
        omega (arith, ltb-true last (key y) b.0, ascends_past key (key y) l b.1)

    pub ascends_before : (key : A → ℕ) (last : ℕ) (l : List A) → ascends key last (l ++ (x ∷ rest)) ≡ true
        → every (λ y. ltb (key y) (key x)) l ≡ true
    unfolding ascends every
    ascends_before key last [] h = refl
    ascends_before key last (y ∷ l) h =
        let b : _ = both_true (ltb last (key y)) (ascends key (key y) (l ++ (x ∷ rest))) h in
        rw (lt-ltb (key y) (key x) (ascends_past key (key y) l b.1)) (ascends_before key (key y) l b.1)

    -- another number before it, and behind it
    some_at : (test : A → Bool) (l : List A) → some test (l ++ (x ∷ rest)) ≡ false → test x ≡ false
    unfolding some
    some_at test [] h = (neither (test x) (some test rest) h).0
    some_at test (y ∷ l) h = some_at test l (neither (test y) (some test (l ++ (x ∷ rest))) h).1

    pub distinct_before : (f : A → ℕ) (l : List A) → distinct (map f (l ++ (x ∷ rest))) ≡ true
        → some (λ y. eqb (f y) (f x)) l ≡ false
    unfolding distinct some
    distinct_before f [] h = refl
    distinct_before f (y ∷ l) h =
        let all : List A = l ++ (x ∷ rest) in
        let b : _ = both_true (not (some (eqb (f y)) (map f all))) (distinct (map f all)) h in
        let n : some (λ z. eqb (f z) (f y)) all ≡ false =
        sym (some_map f (f y) all) ∙ not-true (some (eqb (f y)) (map f all)) b.0 in
        rw (eqb_turn (f y) (f x), some_at (λ z. eqb (f z) (f y)) l n) (distinct_before f l b.1)

    pub distinct_behind : (f : A → ℕ) (l : List A) → distinct (map f (l ++ (x ∷ rest))) ≡ true
        → some (λ y. eqb (f y) (f x)) rest ≡ false
    unfolding distinct
    distinct_behind f [] h =
        sym (some_map f (f x) rest)
        ∙ not-true (some (eqb (f x)) (map f rest)) (both_true (not (some (eqb (f x)) (map f rest))) (distinct (map f rest)) h).0
    distinct_behind f (y ∷ l) h =
        let all : List A = l ++ (x ∷ rest) in
        distinct_behind f l (both_true (not (some (eqb (f y)) (map f all))) (distinct (map f all)) h).1

-- Laws of the questions about lists, over the element and the test.
use mathlib.Core.Path.{◌≡◌, refl, sym, ◌∙◌}
use mathlib.Core.Bool.{Bool, true, false, cond, not, ◌||◌}
use mathlib.Core.List.{List, [], ◌∷◌, map}
use Prim.Native.Nat.{ℕ, zero, suc, ◌≤◌}
use native.Mathlib.Omega.{arith}
use lib.Dec.{eqb, leb}
use lib.ListN.{length, get_or, replicate}
use borrow.Author.Tests.{leb-true, eq-eqb, ne_eqb, not-false}
use Rattle.octets.specs.Lists.{within, every, some, count, first}
use Rattle.octets.proofs.Same.{both_true}
use Rattle.octets.proofs.Cases.{by_eq}

pub neither : (p q : Bool) → (p || q) ≡ false → (p ≡ false) × (q ≡ false)
neither true q e = let z : ◌≡◌ {A = ℕ} 0 1 = cc in absurd (omega arith)
neither false q e = (refl, e)

pub eqb_turn : (m n : ℕ) → eqb m n ≡ eqb n m
eqb_turn m n = by_eq m n (λ e same. rw (e, eq-eqb n m (sym same))) (λ e other. rw (e, ne_eqb n m (λ z. other (sym z))))

pub within_low : (low high x : ℕ) → within low high x ≡ true → low ≤ x
unfolding within
within_low low high x h = leb-true low x (both_true (leb low x) (leb x high) h).0

pub within_high : (low high x : ℕ) → within low high x ≡ true → x ≤ high
unfolding within
within_high low high x h = leb-true x high (both_true (leb low x) (leb x high) h).1

module _ {A : Type 0} where
  -- the same element at every place, and behind the last
  pub all_alike : (x : A) (n i : ℕ) → get_or (replicate n x) i x ≡ x
  all_alike x zero i = refl
  all_alike x (suc n) zero = refl
  all_alike x (suc n) (suc i) = all_alike x n i

  -- a test that holds where another does, and where two others do
  pub every_such : (one two : A → Bool) → ((x : A) → one x ≡ true → two x ≡ true) → (l : List A) → every one l ≡ true
      → every two l ≡ true
  unfolding every
  every_such one two p [] h = refl
  every_such one two p (x ∷ l) h =
      let b : _ = both_true (one x) (every one l) h in
      rw (p x b.0) (every_such one two p l b.1)

  pub every_both : (test other told : A → Bool) → ((x : A) → test x ≡ true → other x ≡ true → told x ≡ true)
      → (l : List A) → every test l ≡ true → every other l ≡ true → every told l ≡ true
  unfolding every
  every_both test other told p [] h k = refl
  every_both test other told p (x ∷ l) h k =
      let b : _ = both_true (test x) (every test l) h in
      let c : _ = both_true (other x) (every other l) k in
      rw (p x b.0 c.0) (every_both test other told p l b.1 c.1)

  -- a test of what a function gives
  pub every_map : {B : Type 0} (f : B → A) (test : A → Bool) (l : List B) → every test (map f l) ≡ every (λ x. test (f x)) l
  unfolding every
  every_map f test [] = refl
  every_map f test (x ∷ l) = rw (every_map f test l)

  pub some_map : (f : A → ℕ) (k : ℕ) (l : List A) → some (eqb k) (map f l) ≡ some (λ y. eqb (f y) k) l
  unfolding some
  some_map f k [] = refl
  some_map f k (y ∷ l) = rw (eqb_turn k (f y), some_map f k l)

  -- a function that keeps a number, and one that keeps what fails a test
  pub map_same : (f : A → ℕ) (g : A → A) → ((x : A) → f (g x) ≡ f x) → (l : List A) → map f (map g l) ≡ map f l
  map_same f g p [] = refl
  map_same f g p (x ∷ l) = rw (p x, map_same f g p l)

  pub map_none : (test : A → Bool) (g : A → A) → ((x : A) → test x ≡ false → g x ≡ x) → (l : List A) → some test l ≡ false
      → map g l ≡ l
  unfolding some
  map_none test g p [] h = refl
  map_none test g p (x ∷ l) h = let b : _ = neither (test x) (some test l) h in rw (p x b.0, map_none test g p l b.1)

  -- where none fails a test, each passes it, and all are counted
  pub none_fails : (test : A → Bool) (l : List A) → some (λ x. not (test x)) l ≡ false → every test l ≡ true
  unfolding some every
  none_fails test [] h = refl
  none_fails test (x ∷ l) h =
      let b : _ = neither (not (test x)) (some (λ y. not (test y)) l) h in
      rw (not-false (test x) b.0) (none_fails test l b.1)

  pub all_counted : (test : A → Bool) (l : List A) → every test l ≡ true → count test l ≡ length l
  unfolding every count
  all_counted test [] h = refl
  all_counted test (x ∷ l) h =
      let b : _ = both_true (test x) (every test l) h in
      rw (b.0, all_counted test l b.1) (omega arith)

  -- a function that keeps a test, and what stands for none
  pub first_map : (test : A → Bool) (g : A → A) (other : A) → ((x : A) → test (g x) ≡ test x) → g other ≡ other → (l : List A)
      → first test other (map g l) ≡ g (first test other l)
  unfolding first
  first_map test g other p o [] = sym o
  first_map test g other p o (x ∷ l) = rw (p x, first_map test g other p o l) (go (test x))
    where
      go : (t : Bool) → cond t (g x) (g (first test other l)) ≡ g (cond t x (first test other l))
      go true = refl
      go false = refl

  -- what is not there is not found
  pub not_found : (test : A → Bool) (other : A) (l : List A) → some test l ≡ false → first test other l ≡ other
  unfolding some first
  not_found test other [] h = refl
  not_found test other (x ∷ l) h = let b : _ = neither (test x) (some test l) h in rw b.0 (not_found test other l b.1)

  -- what is found is marked, if each is; so what is not found is not there
  pub none_there : (mark test : A → Bool) (other : A) (l : List A) → every mark l ≡ true → mark (first test other l) ≡ false
      → some test l ≡ false
  unfolding every some first
  none_there mark test other [] m h = refl
  none_there mark test other (x ∷ l) m h =
      let b : _ = both_true (mark x) (every mark l) m in
      go (test x) b.0 h (none_there mark test other l b.1)
    where
      go : (t : Bool) → mark x ≡ true → mark (cond t x (first test other l)) ≡ false
          → (mark (first test other l) ≡ false → some test l ≡ false)
          → (t || some test l) ≡ false
      go true k h r = sym k ∙ h
      go false k h r = r h

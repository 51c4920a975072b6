-- A row put in its place, and rows changed one by one: each turn of their loops, and what the rows are behind it.
use mathlib.Core.Path.{◌≡◌, refl, sym, ap, ◌∙◌}
use mathlib.Core.Bool.{false}
use mathlib.Core.List.{List, [], ◌∷◌, map}
use Prim.Native.Nat.{ℕ, zero, suc, ◌+◌, ◌<◌, ◌≤◌}
use native.Mathlib.Nat.{not-suc-le-zero, le_of_suc-le-suc}
use native.Mathlib.Numerals.{add-one}
use native.Mathlib.Omega.{arith}
use lib.Dec.{eqb}
use lib.ListN.{length, get_or, set, length-set}
use Rattle.octets.specs.Lists.{some, put}
use Rattle.octets.proofs.Cases.{by_lt}
use Rattle.octets.proofs.ListLaws.{neither}
use Rattle.plan.specs.Records.{filled}
use Rattle.plan_records.specs.Insertion.{place_of, inserted, changed_from}

module _ {A : Type 0} where
  inserted_set : (i : ℕ) (x d : A) (l : List A) → i < length l → inserted (suc i) (get_or l i d) (set l i x) ≡ inserted i x l
  unfolding inserted
  inserted_set i x d [] h = absurd (not-suc-le-zero h)
  inserted_set zero x d (y ∷ l) h = refl
  inserted_set (suc i) x d (y ∷ l) h = ap (λ (r : List A). y ∷ r) (inserted_set i x d l (le_of_suc-le-suc h))

  inserted_end : (i : ℕ) (x : A) (l : List A) → length l ≤ i → inserted i x l ≡ l
  unfolding inserted
  inserted_end i x [] h = refl
  inserted_end zero x (y ∷ l) h = absurd (not-suc-le-zero h)
  inserted_end (suc i) x (y ∷ l) h = ap (λ (r : List A). y ∷ r) (inserted_end i x l (le_of_suc-le-suc h))

  changed_set : (i : ℕ) (f : A → A) (d : A) (l : List A) → i < length l
      → changed_from (suc i) f (set l i (f (get_or l i d))) ≡ changed_from i f l
  unfolding changed_from
  changed_set i f d [] h = absurd (not-suc-le-zero h)
  changed_set zero f d (y ∷ l) h = refl
  changed_set (suc i) f d (y ∷ l) h = ap (λ (r : List A). y ∷ r) (changed_set i f d l (le_of_suc-le-suc h))

  pub changed_turn : (i : ℕ) (f : A → A) {x : A} (d : A) (l : List A) → i < length l → x ≡ f (get_or l i d)
      → changed_from (i + 1) f (set l i x) ≡ changed_from i f l
  changed_turn i f d l h e = rw (e, add-one) (changed_set i f d l h)

  pub changed_end : (i : ℕ) (f : A → A) (l : List A) → length l ≤ i → changed_from i f l ≡ l
  unfolding changed_from
  changed_end i f [] h = refl
  changed_end zero f (y ∷ l) h = absurd (not-suc-le-zero h)
  changed_end (suc i) f (y ∷ l) h = ap (λ (r : List A). y ∷ r) (changed_end i f l (le_of_suc-le-suc h))

  pub changed_all : (f : A → A) (l : List A) → changed_from 0 f l ≡ map f l
  unfolding changed_from
  changed_all f [] = refl
  changed_all f (y ∷ l) = ap (λ (r : List A). f y ∷ r) (changed_all f l)

-- a row that is put in at `at`, at row i of n: x waits there
pub record Inserting {A : Type 0} (n at : ℕ) (x₀ : A) (l₀ : List A) (l : List A) (x : A) (i : ℕ) : Type 0 where
  pub long : length l ≡ n
  pub same : inserted i x l ≡ inserted at x₀ l₀

module _ {A : Type 0} {n at : ℕ} {x₀ : A} {l₀ l : List A} {x : A} {i : ℕ} (w : Inserting n at x₀ l₀ l x i) where
  pub insert_on : (d : A) → i < n → Inserting n at x₀ l₀ (set l i x) (get_or l i d) (i + 1)
  insert_on d h =
      record { long = length-set l i x ∙ w.long; same = rw add-one (inserted_set i x d l (omega arith)) ∙ w.same }

  pub insert_end : n ≤ i → l ≡ inserted at x₀ l₀
  insert_end h = sym (inserted_end i x l (omega arith)) ∙ w.same

-- rows that are filled with the elements of a list, and then with one row
module _ {A : Type 0} (e : A) where
  pushed_empty : (n : ℕ) → inserted 0 e (filled n e []) ≡ filled n e []
  unfolding inserted filled
  pushed_empty zero = refl
  pushed_empty (suc n) = ap (λ (r : List A). e ∷ r) (pushed_empty n)

  pushed : (n : ℕ) (x : A) (l : List A) → length l < n → inserted 0 x (filled n e l) ≡ filled n e (x ∷ l)
  unfolding inserted filled
  pushed zero x l h = absurd (not-suc-le-zero h)
  pushed (suc n) x [] h = ap (λ (r : List A). x ∷ r) (pushed_empty n)
  pushed (suc n) x (y ∷ l) h = ap (λ (r : List A). x ∷ r) (pushed n y l (le_of_suc-le-suc h))

  -- a key that is not there yet, put in at its place
  pub filled_put : (key : A → ℕ) (x : A) (n : ℕ) (l : List A) → length l < n → some (λ y. eqb (key y) (key x)) l ≡ false
      → inserted (place_of key (key x) l) x (filled n e l) ≡ filled n e (put key x l)
  unfolding some put place_of inserted filled
  filled_put key x zero l h a = absurd (not-suc-le-zero h)
  filled_put key x (suc n) [] h a = ap (λ (r : List A). x ∷ r) (pushed_empty n)
  filled_put key x (suc n) (y ∷ l) h a =
      let b : _ = neither (eqb (key y) (key x)) (some (λ z. eqb (key z) (key x)) l) a in
      by_lt (key y) (key x)
      (λ f s. rw f (ap (λ (r : List A). y ∷ r) (filled_put key x n l (le_of_suc-le-suc h) b.1)))
      (λ f s. rw (f, b.0) (ap (λ (r : List A). x ∷ r) (pushed n y l (le_of_suc-le-suc h))))

  -- every row changed, by a function that keeps the empty one
  pub filled_map : (f : A → A) → f e ≡ e → (n : ℕ) (l : List A) → map f (filled n e l) ≡ filled n e (map f l)
  unfolding filled
  filled_map f k zero l = refl
  filled_map f k (suc n) [] = rw (k, filled_map f k n [])
  filled_map f k (suc n) (x ∷ l) = rw (filled_map f k n l)

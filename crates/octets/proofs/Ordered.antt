-- Laws of lists whose keys ascend, over the element and its key, also when elements are taken out.
use mathlib.Core.Path.{◌≡◌, refl}
use mathlib.Core.Bool.{Bool, true, false}
use mathlib.Core.List.{List, [], ◌∷◌, map}
use Prim.Native.Nat.{ℕ, ◌<◌, ◌≤◌}
use native.Mathlib.Omega.{arith}
use lib.Dec.{eqb, ltb}
use lib.ListN.{length}
use borrow.Author.Tests.{lt-ltb, ltb-true, ne_eqb}
use Rattle.octets.specs.Lists.{every, some, ascends, without, distinct}
use Rattle.octets.proofs.Same.{both_true}
use Rattle.octets.proofs.Cases.{by_eq}
use Rattle.octets.proofs.ListLaws.{some_map}

module _ {A : Type 0} (key : A → ℕ) where
  pub next_key : (last : ℕ) (x : A) (l : List A) → ascends key last (x ∷ l) ≡ true → (last < key x) × (ascends key (key x) l ≡ true)
  unfolding ascends
  next_key last x l a =
      let b : _ = both_true (ltb last (key x)) (ascends key (key x) l) a in
      (ltb-true last (key x) b.0, b.1)

  pub ascends_on : (last : ℕ) (x : A) (l : List A) → last < key x → ascends key (key x) l ≡ true → ascends key last (x ∷ l) ≡ true
  unfolding ascends
  ascends_on last x l h a = rw (lt-ltb last (key x) h, a)

  ascends_from : (low last : ℕ) (l : List A) → low ≤ last → ascends key last l ≡ true → ascends key low l ≡ true
  unfolding ascends
  ascends_from low last [] h a = refl
  ascends_from low last (x ∷ l) h a = let p : _ = next_key last x l a in ascends_on low x l (omega arith) p.1

  -- a key that is not above the last is not there
  pub none_below : (last k : ℕ) (l : List A) → ascends key last l ≡ true → k ≤ last → some (λ y. eqb (key y) k) l ≡ false
  unfolding some
  none_below last k [] a h = refl
  none_below last k (y ∷ l) a h =
      let p : _ = next_key last y l a in
      rw (ne_eqb (key y) k (λ z. omega arith), none_below (key y) k l p.1 (omega arith))

  -- what ascends is distinct
  pub ascends_distinct : (last : ℕ) (l : List A) → ascends key last l ≡ true → distinct (map key l) ≡ true
  unfolding distinct
  ascends_distinct last [] a = refl
  ascends_distinct last (x ∷ l) a =
      let p : _ = next_key last x l a in
      rw (some_map key (key x) l, none_below (key x) (key x) l p.1 (omega arith)) (ascends_distinct (key x) l p.1)

  -- a function that keeps the keys
  pub map_ascends : (g : A → A) → ((x : A) → key (g x) ≡ key x) → (last : ℕ) (l : List A)
      → ascends key last (map g l) ≡ ascends key last l
  unfolding ascends
  map_ascends g p last [] = refl
  map_ascends g p last (x ∷ l) = rw (p x, map_ascends g p (key x) l)

  -- ---- taken out

  pub without_ascends : (last k : ℕ) (l : List A) → ascends key last l ≡ true → ascends key last (without key k l) ≡ true
  unfolding without
  without_ascends last k [] a = a
  without_ascends last k (y ∷ l) a =
      let p : _ = next_key last y l a in
      let r : _ = without_ascends (key y) k l p.1 in
      by_eq (key y) k
      (λ e same. rw e (ascends_from last (key y) (without key k l) (omega arith) r))
      (λ e other. rw e (ascends_on last y (without key k l) p.0 r))

  pub without_every : (test : A → Bool) (k : ℕ) (l : List A) → every test l ≡ true → every test (without key k l) ≡ true
  unfolding every without
  without_every test k [] h = refl
  without_every test k (y ∷ l) h =
      let b : _ = both_true (test y) (every test l) h in
      let r : _ = without_every test k l b.1 in
      by_eq (key y) k (λ e same. rw e r) (λ e other. rw (e, b.0) r)

  pub without_length : (k : ℕ) (l : List A) → length (without key k l) ≤ length l
  unfolding without
  without_length k [] = omega arith
  without_length k (y ∷ l) =
      let r : _ = without_length k l in
      by_eq (key y) k (λ e same. rw e (omega arith)) (λ e other. rw e (omega arith))

  pub without_none : (last k : ℕ) (l : List A) → ascends key last l ≡ true → k ≤ last → without key k l ≡ l
  unfolding without
  without_none last k [] a h = refl
  without_none last k (y ∷ l) a h =
      let p : _ = next_key last y l a in
      rw (ne_eqb (key y) k (λ z. omega arith), without_none (key y) k l p.1 (omega arith))

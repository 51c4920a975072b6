-- Laws of the elements of lists: two lists whose keys ascend and that have the same elements, or answer every look-up by key alike,
-- are equal.
use mathlib.Core.Path.{◌≡◌, refl, sym, ap, ◌∙◌}
use mathlib.Core.Bool.{Bool, true, false, cond, not, ◌||◌, false≢true}
use mathlib.Core.List.{List, [], ◌∷◌, map}
use mathlib.Core.Logic.{◌⊎◌, inl, inr, ⊎_elim}
use Prim.Native.Nat.{ℕ, ◌<◌, ◌≤◌}
use native.Mathlib.Omega.{arith}
use lib.Dec.{eqb}
use borrow.Author.Tests.{eq-eqb, not-true}
use Rattle.octets.specs.Lists.{In, here, there, every, some, first, ascends, distinct}
use Rattle.octets.proofs.Same.{both_true}
use Rattle.octets.proofs.Cases.{by_eq}
use Rattle.octets.proofs.ListLaws.{some_map}
use Rattle.octets.proofs.Ordered.{next_key, ascends_distinct}

module _ {A : Type 0} where
  pub none_in : (x : A) → In x [] → ⊥
  none_in x m = elim m [ ]

  pub first_or_later : {x y : A} {l : List A} → In x (y ∷ l) → (x ≡ y) ⊎ In x l
  first_or_later (here e) = inl e
  first_or_later (there m) = inr m

  -- what is found is there, or it is what stands for none
  pub found_in : (test : A → Bool) (other : A) (l : List A) → (first test other l ≡ other) ⊎ In (first test other l) l
  unfolding first
  found_in test other [] = inl refl
  found_in test other (x ∷ l) = go (test x) (found_in test other l)
    where
      go : (b : Bool) → (first test other l ≡ other) ⊎ In (first test other l) l
          → (cond b x (first test other l) ≡ other) ⊎ In (cond b x (first test other l)) (x ∷ l)
      go true p = inr (here refl)
      go false (inl e) = inl e
      go false (inr m) = inr (there m)

  pub each : (test : A → Bool) (x : A) (l : List A) → every test l ≡ true → In x l → test x ≡ true
  unfolding every
  each test x [] h m = absurd (none_in x m)
  each test x (y ∷ l) h m =
      let b : _ = both_true (test y) (every test l) h in
      ⊎_elim (λ e. rw e b.0) (λ later. each test x l b.1 later) (first_or_later m)

  pub passes : (test : A → Bool) (x : A) (l : List A) → test x ≡ true → In x l → some test l ≡ true
  unfolding some
  passes test x [] t m = absurd (none_in x m)
  passes test x (y ∷ l) t m =
      ⊎_elim (λ e. rw (← e, t)) (λ later. rw (passes test x l t later) (or_true (test y))) (first_or_later m)
    where
      or_true : (p : Bool) → (p || true) ≡ true
      or_true true = refl
      or_true false = refl

module _ {A : Type 0} (key : A → ℕ) where
  pub above : (last : ℕ) (x : A) (l : List A) → ascends key last l ≡ true → In x l → last < key x
  above last x [] a m = absurd (none_in x m)
  above last x (y ∷ l) a m =
      let p : _ = next_key key last y l a in
      ⊎_elim (λ e. rw e p.0) (λ later. omega (arith, p.0, above (key y) x l p.1 later)) (first_or_later m)

  -- two lists that begin alike, and go on alike
  alike : (last : ℕ) (x : A) (xs ys : List A) → ascends key last (x ∷ xs) ≡ true → ((z : A) → In z (x ∷ xs) → In z (x ∷ ys))
      → (z : A) → In z xs → In z ys
  alike last x xs ys a sub z m =
      let low : key x < key z = above (key x) z xs (next_key key last x xs a).1 m in
      ⊎_elim (λ e. let k : key z ≡ key x = ap key e in absurd (omega arith)) (λ later. later) (first_or_later (sub z (there m)))

  same_first : (last : ℕ) (x y : A) (xs ys : List A) → ascends key last (x ∷ xs) ≡ true → ascends key last (y ∷ ys) ≡ true
      → In x (y ∷ ys) → In y (x ∷ xs) → y ≡ x
  same_first last x y xs ys a b m n =
      ⊎_elim (λ e. sym e)
      (λ p. ⊎_elim (λ e. e)
      (λ q. absurd (omega (
        arith,
        above (key y) x ys (next_key key last y ys b).1 p,
        above (key x) y xs (next_key key last x xs a).1 q,
      )))
      (first_or_later n))
      (first_or_later m)

  pub same_lists : (last : ℕ) (xs ys : List A) → ascends key last xs ≡ true → ascends key last ys ≡ true
      → ((x : A) → In x xs → In x ys) → ((x : A) → In x ys → In x xs)
      → xs ≡ ys
  same_lists last [] [] a b sub sup = refl
  same_lists last [] (y ∷ ys) a b sub sup = absurd (none_in y (sup y (here refl)))
  same_lists last (x ∷ xs) [] a b sub sup = absurd (none_in x (sub x (here refl)))
  same_lists last (x ∷ xs) (y ∷ ys) a b sub sup =
      let e : y ≡ x = same_first last x y xs ys a b (sub x (here refl)) (sup y (here refl)) in
      let c : ascends key last (x ∷ ys) ≡ true = rw e at b in
      let to : (z : A) → In z (x ∷ xs) → In z (x ∷ ys) = rw e at sub in
      let fro : (z : A) → In z (x ∷ ys) → In z (x ∷ xs) = rw e at sup in
      let r : xs ≡ ys =
      same_lists (key x) xs ys (next_key key last x xs a).1 (next_key key last x ys c).1 (alike last x xs ys a to)
      (alike last x ys xs c fro) in
      rw (e, r)

  -- an element is found by its key, where keys are distinct
  pub found_by : (x other : A) (l : List A) → distinct (map key l) ≡ true → In x l
      → first (λ y. eqb (key y) (key x)) other l ≡ x
  unfolding first distinct
  found_by x other [] d m = absurd (none_in x m)
  found_by x other (y ∷ l) d m =
      let b : _ = both_true (not (some (eqb (key y)) (map key l))) (distinct (map key l)) d in
      let n : some (λ z. eqb (key z) (key y)) l ≡ false =
      sym (some_map key (key y) l) ∙ not-true (some (eqb (key y)) (map key l)) b.0 in
      ⊎_elim (λ e. rw (← e, eq-eqb (key x) (key x) refl))
      (λ later.
      by_eq (key y) (key x)
      (λ t same. absurd (false≢true (sym n ∙ passes (λ z. eqb (key z) (key y)) x l (eq-eqb (key x) (key y) (sym same)) later)))
      (λ t other_key. rw t (found_by x other l b.1 later)))
      (first_or_later m)

  pub looked_up : (last : ℕ) (x other : A) (l : List A) → ascends key last l ≡ true → In x l
      → first (λ y. eqb (key y) (key x)) other l ≡ x
  looked_up last x other l a m = found_by x other l (ascends_distinct key last l a) m

  -- what stands for none has no key that is there
  module _ (last : ℕ) (other : A) (low : key other ≤ last) where
    found_again : (xs ys : List A) → ascends key last xs ≡ true
        → ((k : ℕ) → first (λ y. eqb (key y) k) other xs ≡ first (λ y. eqb (key y) k) other ys)
        → (x : A) → In x xs → In x ys
    found_again xs ys a f x m =
        let e : first (λ y. eqb (key y) (key x)) other ys ≡ x = sym (f (key x)) ∙ looked_up last x other xs a m in
        let high : last < key x = above last x xs a m in
        ⊎_elim (λ n. let k : key x ≡ key other = ap key (sym e ∙ n) in absurd (omega arith)) (λ there. rw e at there)
        (found_in (λ y. eqb (key y) (key x)) other ys)

    pub same_found : (xs ys : List A) → ascends key last xs ≡ true → ascends key last ys ≡ true
        → ((k : ℕ) → first (λ y. eqb (key y) k) other xs ≡ first (λ y. eqb (key y) k) other ys)
        → xs ≡ ys
    same_found xs ys a b f =
        same_lists last xs ys a b (found_again xs ys a f) (found_again ys xs b (λ k. sym (f k)))

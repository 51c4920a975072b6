-- Laws of an element put in by its key, over the element and the key.
use mathlib.Core.Path.{◌≡◌, refl, sym, ap, ◌∙◌}
use mathlib.Core.Bool.{Bool, true, false, not, false≢true}
use mathlib.Core.List.{List, [], ◌∷◌, ◌++◌, map}
use Prim.Native.Nat.{ℕ, suc, ◌<◌, ◌≤◌}
use native.Mathlib.Omega.{arith}
use lib.Dec.{eqb, ltb}
use lib.ListN.{length}
use borrow.Author.Tests.{lt-ltb, ne_eqb, not-true}
use Rattle.octets.specs.Lists.{every, some, first, ascends, put, distinct}
use Rattle.octets.proofs.Same.{both_true}
use Rattle.octets.proofs.Cases.{by_eq, by_lt}
use Rattle.octets.proofs.ListLaws.{neither, eqb_turn, some_map}
use Rattle.octets.proofs.Ordered.{next_key, none_below}

module _ {A : Type 0} where
  -- an element of one key put in
  module _ (key : A → ℕ) (x : A) where
    pub put_every : (test : A → Bool) (l : List A) → test x ≡ true → every test l ≡ true → every test (put key x l) ≡ true
    unfolding every put
    put_every test [] t h = rw t
    put_every test (y ∷ l) t h =
        let b : _ = both_true (test y) (every test l) h in
        by_lt (key y) (key x) (λ e s. rw (e, b.0) (put_every test l t b.1))
        (λ e s. by_eq (key y) (key x) (λ f s. rw (e, f, t) b.1) (λ f s. rw (e, f, t, b.0) b.1))

    pub put_ascends : (last : ℕ) (l : List A) → last < key x → ascends key last l ≡ true → ascends key last (put key x l) ≡ true
    unfolding ascends put
    put_ascends last [] above h = rw (lt-ltb last (key x) above)
    put_ascends last (y ∷ l) above h =
        let b : _ = both_true (ltb last (key y)) (ascends key (key y) l) h in
        by_lt (key y) (key x) (λ e s. rw (e, b.0) (put_ascends (key y) l s b.1))
        (λ e s. by_eq (key y) (key x)
        (λ f same. rw (e, f, lt-ltb last (key x) above) (rw same at b.1))
        (λ f other. rw (e, f, lt-ltb last (key x) above, lt-ltb (key x) (key y) (omega arith)) b.1))

    -- another key is found as before
    pub put_first : (other : A) (k : ℕ) → eqb (key x) k ≡ false → (l : List A)
        → first (λ y. eqb (key y) k) other (put key x l) ≡ first (λ y. eqb (key y) k) other l
    unfolding first put
    put_first other k n [] = rw n
    put_first other k n (y ∷ l) =
        by_lt (key y) (key x) (λ e s. rw (e, put_first other k n l))
        (λ e s. by_eq (key y) (key x) (λ f same. rw (e, f, n, same, n)) (λ f s. rw (e, f, n)))

    -- where no element has its key, what passes a test that it fails is found as before, and it is found by a test that it alone passes
    pub put_other : (test : A → Bool) (other : A) (l : List A) → test x ≡ false → some (λ y. eqb (key y) (key x)) l ≡ false
        → first test other (put key x l) ≡ first test other l
    unfolding first put some
    put_other test other [] t new = rw t
    put_other test other (y ∷ l) t new =
        let b : _ = neither (eqb (key y) (key x)) (some (λ y. eqb (key y) (key x)) l) new in
        by_lt (key y) (key x) (λ e s. rw (e, put_other test other l t b.1)) (λ e s. rw (e, b.0, t))

    pub put_found : (test : A → Bool) (other : A) (l : List A) → test x ≡ true → some test l ≡ false
        → first test other (put key x l) ≡ x
    unfolding first put some
    put_found test other [] t h = rw t
    put_found test other (y ∷ l) t h =
        let b : _ = neither (test y) (some test l) h in
        by_lt (key y) (key x) (λ e s. rw (e, b.0) (put_found test other l t b.1))
        (λ e s. by_eq (key y) (key x) (λ f s. rw (e, f, t)) (λ f s. rw (e, f, t)))

    -- a key above all others is put in last
    pub put_last : (l : List A) → every (λ y. ltb (key y) (key x)) l ≡ true → put key x l ≡ l ++ (x ∷ [])
    unfolding every put
    put_last [] h = refl
    put_last (y ∷ l) h =
        let b : _ = both_true (ltb (key y) (key x)) (every (λ y. ltb (key y) (key x)) l) h in
        rw (b.0, put_last l b.1)

    pub put_some : (test : A → Bool) (l : List A) → test x ≡ false → some test l ≡ false → some test (put key x l) ≡ false
    unfolding some put
    put_some test [] t h = rw t
    put_some test (y ∷ l) t h =
        let b : _ = neither (test y) (some test l) h in
        by_lt (key y) (key x) (λ e s. rw (e, b.0) (put_some test l t b.1))
        (λ e s. by_eq (key y) (key x) (λ f s. rw (e, f, t) b.1) (λ f s. rw (e, f, t, b.0) b.1))

  pub put_distinct : (key f : A → ℕ) (x : A) (l : List A) → some (λ y. eqb (f y) (f x)) l ≡ false → distinct (map f l) ≡ true
      → distinct (map f (put key x l)) ≡ true
  unfolding some put distinct
  put_distinct key f x [] n h = refl
  put_distinct key f x (y ∷ l) n h =
      let b : _ = both_true (not (some (eqb (f y)) (map f l))) (distinct (map f l)) h in
      let c : _ = neither (eqb (f y) (f x)) (some (λ y. eqb (f y) (f x)) l) n in
      let d : some (λ z. eqb (f z) (f y)) l ≡ false = sym (some_map f (f y) l) ∙ not-true (some (eqb (f y)) (map f l)) b.0 in
      let u : eqb (f x) (f y) ≡ false = eqb_turn (f x) (f y) ∙ c.0 in
      by_lt (key y) (key x)
      (λ e s.
      rw (e, some_map f (f y) (put key x l), put_some key x (λ z. eqb (f z) (f y)) l u d)
      (put_distinct key f x l c.1 b.1))
      (λ e s. by_eq (key y) (key x)
      (λ g s. rw (e, g, some_map f (f x) l, c.1) b.1)
      (λ g s. rw (e, g, u, some_map f (f x) l, c.1) h))

  -- ---- how many there are

  pub put_length : (key : A → ℕ) (x : A) (l : List A) → length (put key x l) ≤ suc (length l)
  unfolding put
  put_length key x [] = omega arith
  put_length key x (y ∷ l) =
      by_lt (key y) (key x)
      (λ e s. rw e (omega (arith, put_length key x l)))
      (λ e s. by_eq (key y) (key x) (λ f same. rw (e, f) (omega arith)) (λ f other. rw (e, f) (omega arith)))

  -- a key that is there takes no further place
  pub put_again : (key : A → ℕ) (last : ℕ) (x : A) (l : List A) → ascends key last l ≡ true
      → some (λ y. eqb (key y) (key x)) l ≡ true
      → length (put key x l) ≡ length l
  unfolding put some
  put_again key last x [] a s = absurd (false≢true s)
  put_again key last x (y ∷ l) a s =
      let p : _ = next_key key last y l a in
      by_lt (key y) (key x)
      (λ e less.
      let t : some (λ z. eqb (key z) (key x)) l ≡ true = rw (ne_eqb (key y) (key x) (λ z. omega arith)) at s in
      rw e (ap suc (put_again key (key y) x l p.1 t)))
      (λ e more.
      by_eq (key y) (key x)
      (λ f same. rw (e, f))
      (λ f other. absurd (false≢true (rw (f, none_below key (key y) (key x) l p.1 (omega arith)) at s))))

-- Laws of lists whose keys ascend: the first element that passes a test, and what is looked up by a key.
use mathlib.Core.Path.{◌≡◌, refl, ap, sym, ◌∙◌}
use mathlib.Core.Bool.{Bool, true, false, cond, false≢true}
use mathlib.Core.List.{List, [], ◌∷◌, map}
use Prim.Native.Nat.{ℕ, ◌<◌}
use native.Mathlib.Omega.{arith}
use lib.Dec.{eqb}
use borrow.Author.Tests.{eq-eqb, ne_eqb}
use Rattle.octets.specs.Lists.{every, some, first, ascends, put, without, distinct}
use Rattle.octets.proofs.Same.{both_true}
use Rattle.octets.proofs.Cases.{by_eq, by_lt}
use Rattle.octets.proofs.Ordered.{none_below, next_key}
use Rattle.octets.proofs.ListLaws.{neither, some_map}
use Rattle.state.proofs.OwedRow.{by_test, first_above}

module _ {A : Type 0} where
  -- where no good one passes a test, and each is good, none passes
  pub none_such : (good test : A → Bool) → ((x : A) → good x ≡ true → test x ≡ false) → (l : List A) → every good l ≡ true
      → some test l ≡ false
  unfolding every some
  none_such good test p [] h = refl
  none_such good test p (x ∷ l) h =
      let b : _ = both_true (good x) (every good l) h in
      rw (p x b.0) (none_such good test p l b.1)

  -- keys that ascend are distinct
  pub ascends_distinct : (key : A → ℕ) (last : ℕ) (l : List A) → ascends key last l ≡ true → distinct (map key l) ≡ true
  unfolding distinct
  ascends_distinct key last [] a = refl
  ascends_distinct key last (x ∷ l) a =
      let p : _ = next_key key last x l a in
      rw (some_map key (key x) l, none_below key (key x) (key x) l p.1 (omega arith)) (ascends_distinct key (key x) l p.1)

-- ---- what is looked up by a key

module _ {A B : Type 0} (key : A → ℕ) (hit : A → B) (none : B) where
  -- what the element of this key gives, or what stands for none
  unfoldable pub look : ℕ → List A → B
  look k [] = none
  look k (x ∷ l) = cond (eqb (key x) k) (hit x) (look k l)

  pub look_absent : (k : ℕ) (l : List A) → some (λ x. eqb (key x) k) l ≡ false → look k l ≡ none
  unfolding some look
  look_absent k [] h = refl
  look_absent k (x ∷ l) h =
      let b : _ = neither (eqb (key x) k) (some (λ y. eqb (key y) k) l) h in
      rw b.0 (look_absent k l b.1)

  pub look_put : (k : ℕ) (x : A) (l : List A) → look k (put key x l) ≡ cond (eqb (key x) k) (hit x) (look k l)
  unfolding look put
  look_put k x [] = refl
  look_put k x (y ∷ l) =
      by_lt (key y) (key x)
      (λ less low.
      rw (less, look_put k x l)
      (by_eq (key x) k (λ e same. rw (e, ne_eqb (key y) k (λ z. omega arith))) (λ e other. rw e)))
      (λ less high. by_eq (key y) (key x)
      (λ e twin. rw (less, e) (by_eq (key x) k (λ f same. rw f) (λ f other. rw (f, twin, f))))
      (λ e apart. rw (less, e)))

  pub look_without : (k j : ℕ) (l : List A) → look k (without key j l) ≡ cond (eqb j k) none (look k l)
  unfolding look without
  look_without k j [] = by_eq j k (λ e same. rw e) (λ e other. rw e)
  look_without k j (x ∷ l) =
      by_eq (key x) j
      (λ e twin. rw (e, look_without k j l) (by_eq j k (λ f same. rw f) (λ f other. rw (f, twin, f))))
      (λ e apart.
      rw (e, look_without k j l)
      (by_eq j k (λ f same. rw (f, ne_eqb (key x) k (λ z. apart (z ∙ sym same)))) (λ f other. rw f)))

  -- the first that passes a test is the one of its key
  pub look_first : (test : A → Bool) (other : A) (last : ℕ) (l : List A) → ascends key last l ≡ true → some test l ≡ true
      → look (key (first test other l)) l ≡ hit (first test other l)
  unfolding some look first
  look_first test other last [] a h = absurd (false≢true h)
  look_first test other last (x ∷ l) a h =
      let p : _ = next_key key last x l a in
      by_test (test x)
      (λ t. rw (t, eq-eqb (key x) (key x) refl))
      (λ t.
      let g : some test l ≡ true = rw t at h in
      let above : key x < key (first test other l) = first_above key test other (key x) l p.1 g in
      let later : first test other (x ∷ l) ≡ first test other l = rw t in
      let past : look (key (first test other l)) (x ∷ l) ≡ look (key (first test other l)) l =
      rw (ne_eqb (key x) (key (first test other l)) (λ z. omega arith)) in
      ap (λ y. look (key y) (x ∷ l)) later ∙ past ∙ look_first test other (key x) l p.1 g ∙ ap hit (sym later))

-- what is looked up, told by a function
pub look_told : {A B C : Type 0} (key : A → ℕ) (hit : A → B) (none : B) (tell : B → C) (told : A → C) (empty : C)
    → tell none ≡ empty → ((x : A) → tell (hit x) ≡ told x)
    → (k : ℕ) (l : List A) → tell (look key hit none k l) ≡ look key told empty k l
unfolding look
look_told key hit none tell told empty e p k [] = e
look_told key hit none tell told empty e p k (x ∷ l) =
    by_eq (key x) k (λ t same. rw t (p x)) (λ t other. rw t (look_told key hit none tell told empty e p k l))

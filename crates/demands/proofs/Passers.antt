-- The elements that pass a test, by their keys, in a list whose keys ascend: how many there are, and the first.
use mathlib.Core.Path.{◌≡◌, refl, ap, sym, ◌∙◌}
use mathlib.Core.Bool.{Bool, true, false}
use mathlib.Core.List.{List, [], ◌∷◌}
use Prim.Native.Nat.{ℕ, ◌<◌}
use native.Mathlib.Omega.{arith}
use lib.Dec.{ltb}
use borrow.Author.Tests.{ltb-true, eq-eqb, ne_eqb}
use Rattle.octets.specs.Lists.{every, some, count, first, ascends}
use Rattle.octets.proofs.Same.{both_true}
use Rattle.octets.proofs.Cases.{by_eq}
use Rattle.octets.proofs.Ordered.{none_below, next_key}
use Rattle.octets.proofs.ListLaws.{neither}
use Rattle.demands.specs.World.{counted}
use Rattle.demands.proofs.Below.{counted_same, counted_one, counted_none}
use Rattle.state.proofs.OwedRow.{by_test}
use Rattle.demands.proofs.Lists.{look, look_absent}

module _ {A : Type 0} (key : A → ℕ) (test : A → Bool) where
  -- does the element of this key pass the test?
  abbrev pub passes_at : ℕ → List A → Bool
  passes_at k l = look key test false k l

  pub none_passes : (k : ℕ) (l : List A) → some test l ≡ false → passes_at k l ≡ false
  unfolding some look
  none_passes k [] h = refl
  none_passes k (x ∷ l) h =
      let b : _ = neither (test x) (some test l) h in
      by_eq (key x) k (λ e same. rw e b.0) (λ e other. rw e (none_passes k l b.1))

  -- none below the first that passes
  pub before_first : (other : A) (last k : ℕ) (l : List A) → ascends key last l ≡ true → k < key (first test other l)
      → passes_at k l ≡ false
  unfolding look first
  before_first other last k [] a h = refl
  before_first other last k (x ∷ l) a h =
      let p : _ = next_key key last x l a in
      by_test (test x)
      (λ t.
      let low : k < key x = rw t at h in
      rw (ne_eqb (key x) k (λ z. omega arith)) (look_absent key test false k l (none_below key (key x) k l p.1 (omega arith))))
      (λ t. by_eq (key x) k (λ e same. rw e t) (λ e apart. rw e (before_first other (key x) k l p.1 (rw t at h))))

  pub counted_count : (n last : ℕ) (l : List A) → ascends key last l ≡ true → every (λ x. ltb (key x) n) l ≡ true
      → counted (λ k. passes_at k l) n ≡ count test l
  unfolding look count every
  counted_count n last [] a b = counted_none n
  counted_count n last (x ∷ l) a b =
      let p : _ = next_key key last x l a in
      let c : _ = both_true (ltb (key x) n) (every (λ y. ltb (key y) n) l) b in
      let rest : counted (λ k. passes_at k l) n ≡ count test l = counted_count n (key x) l p.1 c.1 in
      let here : passes_at (key x) (x ∷ l) ≡ test x = rw (eq-eqb (key x) (key x) refl) in
      let others : (k : ℕ) → (k ≡ key x → ⊥) → passes_at k (x ∷ l) ≡ passes_at k l = λ k d. rw (ne_eqb (key x) k (λ z. d (sym z))) in
      let gone : passes_at (key x) l ≡ false
      = look_absent key test false (key x) l (none_below key (key x) (key x) l p.1 (omega arith)) in
      by_test (test x)
      (λ t.
      counted_one (λ k. passes_at k (x ∷ l)) (λ k. passes_at k l) n (key x) (ltb-true (key x) n c.0) (here ∙ t) gone others
      ∙ rw (t, rest) (omega arith))
      (λ t.
      counted_same (λ k. passes_at k (x ∷ l)) (λ k. passes_at k l) n
      (λ k low.
      by_eq k (key x)
      (λ e same. ap (λ j. passes_at j (x ∷ l)) same ∙ here ∙ t ∙ sym gone ∙ ap (λ j. passes_at j l) (sym same))
      (λ e other. others k other))
      ∙ rw (t, rest) (omega arith))

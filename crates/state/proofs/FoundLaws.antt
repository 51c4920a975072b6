-- What a search through rows finds, over the row's width, its reader and the question that it answers.
use mathlib.Core.Path.{◌≡◌, refl}
use mathlib.Core.Bool.{Bool, true, false, cond}
use mathlib.Core.List.{List, [], ◌∷◌}
use Prim.Native.Nat.{ℕ, suc, zero, ◌+◌, ◌*◌, ◌≤◌}
use native.Mathlib.Nat.{suc-mul}
use native.Mathlib.Omega.{arith}
use lib.Dec.{eqb}
use lib.ListN.{drop}
use lib.Seq.{drop-drop}
use borrow.Author.Tests.{eq-eqb, ne_eqb}
use Rattle.octets.specs.Octets.{low_number}
use Rattle.octets.specs.Lists.{first}
use Rattle.octets.proofs.Cases.{by_eq}
use Rattle.state.specs.Image.{rows_in}
use Rattle.state.specs.Rows.{find_row}

by_test : {A : Type 0} (t : Bool) → (t ≡ true → A) → (t ≡ false → A) → A
by_test true p q = p refl
by_test false p q = q refl

-- what a search answers: one thing if it found nothing, another if it found a row
pub record Found {B : Type 0} (r : ℕ) (other hit answer : B) : Type 0 where
  pub nothing : r ≡ 0 → other ≡ answer
  pub something : (r ≡ 0 → ⊥) → hit ≡ answer

-- The answer is `hit` of the first element that passes, or what is answered of no elements at all.
module _ {A B : Type 0} (read : List ℕ → A) (test : List ℕ → Bool) (passes : A → Bool) (hit : A → B)
    (answer : List A → B) (width : ℕ) (same : (l : List ℕ) → passes (read l) ≡ test l)
    (turn : (x : A) (xs : List A) → answer (x ∷ xs) ≡ cond (passes x) (hit x) (answer xs)) where
  by_row : (n start : ℕ) (b : List ℕ) → 1 ≤ start
      → cond (eqb (find_row n width test start (drop start b)) 0) (answer [])
      (hit (read (drop (find_row n width test start (drop start b)) b))) ≡
      answer (rows_in n width read (drop start b))
  unfolding find_row rows_in
  by_row zero start b h = refl
  by_row (suc n) start b h =
      by_test (eqb (low_number 8 (drop start b)) 0)
      (λ e. simp e)
      (λ e. by_test (test (drop start b))
      (λ t. simp (e, t, ne_eqb start 0 (λ z. omega arith), turn, same))
      (λ t. simp (e, t, turn, same, drop-drop) (by_row n (start + width) b (omega arith))))

  pub found : (n start : ℕ) (b : List ℕ) → 1 ≤ start → {r : ℕ} → r ≡ find_row n width test start (drop start b)
      → Found r (answer []) (hit (read (drop r b))) (answer (rows_in n width read (drop start b)))
  found n start b h {r} e = record {
    nothing = λ z. simp (eq-eqb r 0 z) at (rw (← e) at (by_row n start b h));
    something = λ z. simp (ne_eqb r 0 z) at (rw (← e) at (by_row n start b h));
  }

-- the first element that passes
pub found_first : {A : Type 0} (read : List ℕ → A) (test : List ℕ → Bool) (passes : A → Bool) (other : A) (width : ℕ)
    → ((l : List ℕ) → passes (read l) ≡ test l) → (n start : ℕ) (b : List ℕ) → 1 ≤ start
    → {r : ℕ} → r ≡ find_row n width test start (drop start b)
    → Found r other (read (drop r b)) (first passes other (rows_in n width read (drop start b)))
unfolding first
found_first {A} read test passes other width same n start b h e =
    let same_one : A → A = λ x. x in
    found read test passes same_one (first passes other) width same (λ x xs. refl) n start b h e

-- A row that is found passes the test.
pub found_passes : (test : List ℕ → Bool) (width n start : ℕ) (b : List ℕ)
    → (find_row n width test start (drop start b) ≡ 0 → ⊥)
    → test (drop (find_row n width test start (drop start b)) b) ≡ true
unfolding find_row
found_passes test width zero start b h = absurd (h refl)
found_passes test width (suc n) start b h =
    by_test (eqb (low_number 8 (drop start b)) 0)
    (λ e. absurd (h (simp e)))
    (λ e. by_test (test (drop start b))
    (λ t. simp (e, t))
    (λ t. simp (e, t, drop-drop) (found_passes test width n (start + width) b (simp (e, t, drop-drop) at h))))

-- A row that is found is one of the n.
module _ (test : List ℕ → Bool) (width : ℕ) where
  pub found_inside : (n start : ℕ) (l : List ℕ) → (find_row n width test start l ≡ 0 → ⊥)
      → (start ≤ find_row n width test start l) × (find_row n width test start l + width ≤ start + n * width)
  unfolding find_row
  found_inside zero start l h = absurd (h refl)
  found_inside (suc n) start l h =
      by_test (eqb (low_number 8 l) 0)
      (λ e. absurd (h (simp e)))
      (λ e. by_test (test l)
      (λ t. simp (e, t, suc-mul) (omega arith, omega arith))
      (λ t.
      let more : _ = found_inside n (start + width) (drop width l) (simp (e, t) at h) in
      simp (e, t, suc-mul) (omega (arith, more), omega (arith, more))))

  pub found_fits : (n start : ℕ) (l : List ℕ) → find_row (suc n) width test start l + width ≤ start + suc n * width
  found_fits n start l =
      by_eq (find_row (suc n) width test start l) 0
      (λ e z. rw (z, suc-mul) (omega arith))
      (λ e z. (found_inside (suc n) start l z).1)

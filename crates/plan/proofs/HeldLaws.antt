-- The rows up to the first empty one, row by row: the laws over the element and its number, then the MPs of flows.
use mathlib.Core.Path.{◌≡◌, refl, sym, ap, ◌∙◌}
use mathlib.Core.Bool.{Bool, false, cond}
use mathlib.Core.List.{List, [], ◌∷◌}
use Prim.Native.Nat.{ℕ, suc, ◌+◌, ◌<◌, ◌≤◌}
use native.Mathlib.Numerals.{add-one}
use native.Mathlib.Omega.{arith}
use lib.Dec.{eqb, leb}
use lib.ListN.{length, get_or, drop, drop_of_length-le}
use lib.Seq.{drop-cons}
use borrow.Author.Tests.{eq-eqb, ne_eqb}
use Rattle.octets.specs.Lists.{count}
use Rattle.plan.specs.declared.Flow.{Flow}
use Rattle.plan.specs.Plan.{mps_of, mp_count}
use Rattle.plan.specs.Records.{held, held_flows}

-- what `held` is of, by its two clauses
pub record Rows {A : Type 0} (number : A → ℕ) (held : List A → List A) : Type 0 where
  pub none : held [] ≡ []
  pub one : (x : A) (l : List A) → held (x ∷ l) ≡ cond (eqb (number x) 0) [] (x ∷ held l)

pub held_rows : {A : Type 0} (number : A → ℕ) → Rows number (held number)
unfolding held
held_rows number = record { none = refl; one = λ x l. refl }

module _ {A : Type 0} {number : A → ℕ} {held : List A → List A} (rows : Rows number held) (l : List A) where
  pub rows_end : (i : ℕ) → length l ≤ i → held (drop i l) ≡ []
  rows_end i h = ap held (drop_of_length-le l h) ∙ rows.none

  module _ (i : ℕ) (d : A) (h : i < length l) where
    row : held (drop i l) ≡ cond (eqb (number (get_or l i d)) 0) [] (get_or l i d ∷ held (drop (i + 1) l))
    row = rw add-one (ap held (drop-cons l i d h) ∙ rows.one (get_or l i d) (drop (suc i) l))

    pub rows_none : number (get_or l i d) ≡ 0 → held (drop i l) ≡ []
    rows_none e = row ∙ rw (eq-eqb _ _ e)

    pub rows_one : (number (get_or l i d) ≡ 0 → ⊥) → held (drop i l) ≡ get_or l i d ∷ held (drop (i + 1) l)
    rows_one n = row ∙ rw (ne_eqb _ _ n)

    pub rows_some : (number (get_or l i d) ≡ 0 → ⊥) → false ≡ eqb (length (held (drop i l))) 0
    rows_some n =
        let e : length (held (drop i l)) ≡ suc (length (held (drop (i + 1) l))) = ap length (rows_one n) in
        sym (ne_eqb (length (held (drop i l))) 0 (λ z. omega (arith, z, e)))

pub count_turn : {A : Type 0} (test : A → Bool) (l : List A) (i : ℕ) (d : A) → i < length l
    → count test (drop i l) ≡ cond (test (get_or l i d)) 1 0 + count test (drop (i + 1) l)
unfolding count
count_turn test l i d h = rw (add-one, drop-cons l i d h)

-- the MPs of the flow at i, and of those behind it
module _ (l : List Flow) (i : ℕ) (d : Flow) (h : i < length l) where
  pub mps_none : (get_or l i d).number ≡ 0 → mp_count (held_flows (drop i l)) ≡ 0
  unfolding mp_count
  mps_none e = ap mp_count (rows_none (held_rows (λ f. f.number)) l i d h e)

  pub mps_one : ((get_or l i d).number ≡ 0 → ⊥)
      → mp_count (held_flows (drop i l)) ≡ count (leb 1) (get_or l i d).mps + mp_count (held_flows (drop (i + 1) l))
  unfolding mp_count mps_of
  mps_one n = ap mp_count (rows_one (held_rows (λ f. f.number)) l i d h n)

pub mps_end : (l : List Flow) (i : ℕ) → length l ≤ i → mp_count (held_flows (drop i l)) ≡ 0
unfolding mp_count
mps_end l i h = ap mp_count (rows_end (held_rows (λ f. f.number)) l i h)

-- The one pass over the rows of a table, for any kind of row: it passes when what is read passes, element by element, and the
-- table has the rows of what is read and no other octet.
use mathlib.Core.Path.{◌≡◌, refl}
use mathlib.Core.Bool.{Bool, ◌&&◌, and_assoc}
use mathlib.Core.List.{List, [], ◌∷◌, ◌++◌}
use Prim.Native.Nat.{ℕ, suc, zero, ◌+◌, ◌*◌, ◌≤◌}
use native.Mathlib.Omega.{arith}
use native.Mathlib.Nat.{suc-mul}
use lib.Dec.{ltb}
use lib.ListN.{length, take, drop, length-take, length-drop, get_or-eq_default}
use lib.Seq.{get_or-take}
use Rattle.octets.specs.Octets.{low_number, same, all_zero}
use Rattle.octets.specs.Lists.{every, ascends}
use Rattle.octets.proofs.Cases.{by_eq, by_le}
use Rattle.octets.proofs.Laws.{Octets, octets_drop}
use Rattle.state.specs.Image.{zeros, table, rows_in}
use Rattle.state.proofs.Cuts.{same_zeros}
use Rattle.state.proofs.TableLaws.{none_table, rest_table}
use Rattle.state_tables.specs.Pass.{ok_rows}
use Rattle.state_tables.proofs.Tests.{and_left_comm, and_swap}

-- what the pass asks of the elements, each told what is known of those before it
module _ {A S : Type 0} (fits : S → A → Bool) (next : S → A → S) (right : S → Bool) where
  unfoldable pub passes : S → List A → Bool
  passes s [] = right s
  passes s (x ∷ xs) = fits s x && passes (next s x) xs

pub octets_take : (n : ℕ) (l : List ℕ) → Octets l → Octets (take n l)
octets_take n l o i =
    by_le n i
    (λ e out. omega (arith, get_or-eq_default (take n l) 0 {n = i} (omega (arith, length-take n l))))
    (λ e within. rw (get_or-take n l i 0 within) (o i))

pub same_parts : (a b l : List ℕ) → same (a ++ b) l ≡ (same a (take (length a) l) && same b (drop (length a) l))
unfolding same
same_parts [] b l = refl
same_parts (x ∷ a) b [] = refl
same_parts (x ∷ a) b (y ∷ l) = rw (same_parts a b l) (simp and_assoc)

module _ {A : Type 0} (row : A → List ℕ) where
  none : (l : List ℕ) → same (table (length l) row []) l ≡ all_zero l
  unfolding zeros
  none l = rw none_table (same_zeros (length l) l refl)

  -- the first row of a table, and the rest
  first_row : (width : ℕ) (x : A) (xs : List A) (l : List ℕ) → length (row x) ≡ width
      → same (table (length l) row (x ∷ xs)) l
      ≡ (same (row x) (take width l) && same (table (length (drop width l)) row xs) (drop width l))
  first_row width x xs l e = rw (rest_table row width (length l) x xs e, same_parts, e, length-drop)

module _ {A S : Type 0} (read : List ℕ → A) (row : A → List ℕ) (width : ℕ)
    (fitsL : S → List ℕ → Bool) (nextL : S → List ℕ → S) (fits : S → A → Bool) (next : S → A → S) (right : S → Bool)
    (fit : (s : S) (l : List ℕ) → Octets l → width ≤ length l → (low_number 8 l ≡ 0 → ⊥)
    → fitsL s l ≡ (fits s (read l) && same (row (read l)) (take width l)))
    (step : (s : S) (l : List ℕ) → Octets l → width ≤ length l → (low_number 8 l ≡ 0 → ⊥) → nextL s l ≡ next s (read l))
    (wide : (l : List ℕ) → Octets l → width ≤ length l → (low_number 8 l ≡ 0 → ⊥) → length (row (read l)) ≡ width) where
  pub rows_law : (n : ℕ) (s : S) (l : List ℕ) → Octets l → n * width ≤ length l
      → ok_rows fitsL nextL right width n s l
      ≡ (passes fits next right s (rows_in n width read l) && same (table (length l) row (rows_in n width read l)) l)
  unfolding ok_rows passes rows_in
  rows_law zero s l o h = rw (none row l)
  rows_law (suc n) s l o h =
      let h' : n * width + width ≤ length l = rw suc-mul at h in
      let long : width ≤ length l = omega arith in
      by_eq (low_number 8 l) 0 (λ e empty. simp (e, none row l))
      (λ e some.
      let more : n * width ≤ length (drop width l) = rw length-drop (omega arith) in
      let ih : _ = rows_law n (nextL s l) (drop width l) (octets_drop width l o) more in
      let x : A = read l in
      let xs : List A = rows_in n width read (drop width l) in
      simp e
      (rw (ih, fit s l o long some, step s l o long some, first_row row width x xs l (wide l o long some))
      (and_swap (fits s x) (same (row x) (take width l)) (passes fits next right (next s x) xs)
      (same (table (length (drop width l)) row xs) (drop width l)))))

-- where all that is known of those before is the last key
module _ {A : Type 0} (key : A → ℕ) where
  unfoldable pub last_key : ℕ → List A → ℕ
  last_key last [] = last
  last_key last (x ∷ xs) = last_key (key x) xs

turn : (l g a e r : Bool) → (l && g && (a && e && r)) ≡ (l && a && (g && e) && r)
turn l g a e r = simp (and_assoc, and_left_comm)

module _ {A : Type 0} (key : A → ℕ) (good : A → Bool) (right : ℕ → Bool) where
  pub keys_law : (last : ℕ) (xs : List A)
      → passes (λ last x. ltb last (key x) && good x) (λ last x. key x) right last xs
      ≡ (ascends key last xs && every good xs && right (last_key key last xs))
  unfolding passes ascends every last_key
  keys_law last [] = refl
  keys_law last (x ∷ xs) =
      rw (keys_law (key x) xs)
      (turn (ltb last (key x)) (good x) (ascends key (key x) xs) (every good xs) (right (last_key key (key x) xs)))

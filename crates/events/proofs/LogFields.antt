-- The last field of a line: what stands behind the last tab that was looked for has to be one field.
use mathlib.Core.Path.{◌≡◌, refl}
use mathlib.Core.Bool.{Bool, true, false, cond, ◌&&◌, ◌||◌}
use mathlib.Core.List.{List, [], ◌∷◌}
use Prim.Native.Nat.{ℕ, ◌%◌, ◌≤◌}
use native.Mathlib.Omega.{arith}
use lib.Dec.{eqb, leb, ltb}
use lib.ListN.{length}
use borrow.Author.Tests.{lt-ltb}
use Rattle.octets.specs.Octets.{same}
use Rattle.octets.specs.Lists.{every}
use Rattle.octets.specs.Text.{text}
use Rattle.octets.proofs.Same.{both_true, same_equal}
use Rattle.octets.proofs.Cases.{by_eq}
use Rattle.octets.proofs.ListLaws.{every_such, within_low}
use Rattle.plan.specs.Line.{tab, lf, joined, parted, is_digit, is_number, number_in}
use Rattle.plan.proofs.WrittenFields.{plain, plain_free, parted_only}
use Rattle.plan_lines.proofs.Parts.{some_part}
use Rattle.plan_lines.proofs.Words.{by_test}
use Rattle.plan_lines.specs.Fields.{is_hex}
use Rattle.events.specs.Event.{highest, is_count, is_hexed, is_octets}
use Rattle.events.proofs.HexDigits.{from_zero}

-- one part is the whole
only_part : (by : ℕ) (l : List ℕ) → length (parted by l) ≡ 1 → parted by l ≡ l ∷ []
unfolding parted joined
only_part by [] h = refl
only_part by (x ∷ l) h =
    by_eq x by
    (λ e same.
    let z : length {A = List ℕ} ([] ∷ parted by l) ≡ 1 = rw e at h in
    absurd (omega (arith, some_part by l)))
    (λ e other.
    let z : length (joined x (parted by l)) ≡ 1 = rw e at h in
    rw (e, only_part by l (inner (parted by l) (some_part by l) z)))
  where
    inner : (parts : List (List ℕ)) → 1 ≤ length parts → length (joined x parts) ≡ 1 → length parts ≡ 1
    inner [] k z = absurd (omega arith)
    inner (p ∷ ps) k z = z

-- what a line is read as, by its last field: that field fails its test if it has a tab, and so does the line
pub last_alone : {A : Type 0} (g : List (List ℕ) → A) (t : Bool) (x none : A) (l : List ℕ) → (t ≡ true → plain l ≡ true)
    → ((fields : List (List ℕ)) → 2 ≤ length fields → g fields ≡ none) → g (l ∷ []) ≡ cond t x none
    → g (parted tab l) ≡ cond t x none
last_alone g true x none l p many one = rw (parted_only tab l (plain_free tab (omega arith) l (p refl))) one
last_alone g false x none l p many one =
    by_eq (length (parted tab l)) 1 (λ e alone. rw (only_part tab l alone) one)
    (λ e more. many (parted tab l) (omega (arith, some_part tab l)))

-- a number has no tab, and neither have octets
pub count_plain : (l : List ℕ) → is_count l ≡ true → plain l ≡ true
unfolding is_count is_number is_digit every
count_plain [] h = refl
count_plain (x ∷ l) h =
    let n : _ = both_true (is_number (x ∷ l)) (leb (number_in (x ∷ l)) highest) h in
    let b : _ = both_true (is_digit x && every is_digit l) (eqb (length l) 0 || leb 49 x) n.0 in
    every_such is_digit (ltb lf) low (x ∷ l) b.0
  where
    low : (y : ℕ) → is_digit y ≡ true → ltb lf y ≡ true
    low y t = lt-ltb lf y (omega (arith, within_low 48 57 y t))

pub octets_plain : (l : List ℕ) → is_octets l ≡ true → plain l ≡ true
unfolding is_octets is_hexed text every
octets_plain l h =
    by_test (same l (text "-")) (λ e. rw (same_equal l (text "-") e) refl)
    (λ e.
    let k : is_hexed l ≡ true = rw e at h in
    let b : _ = both_true (leb 2 (length l) && eqb (length l % 2) 0) (every is_hex l) k in
    every_such is_hex (ltb lf) (λ y t. lt-ltb lf y (omega (arith, from_zero y t))) l b.1)

-- A table of rows, over the kind of row: its length, its first row, and the rows read back from it.
use mathlib.Core.Path.{◌≡◌, refl, sym, ap}
use mathlib.Core.Bool.{Bool, true}
use mathlib.Core.List.{List, [], ◌∷◌, ◌++◌, append_assoc}
use Prim.Native.Nat.{ℕ, suc, zero, ◌+◌, ◌-◌, ◌*◌, ◌≤◌}
use native.Mathlib.Nat.{not-suc-le-zero, le_of_suc-le-suc, suc-mul, zero-mul, add_comm}
use native.Mathlib.Omega.{arith}
use lib.ListN.{length, take, drop, length-append, length-replicate}
use lib.Seq.{drop_at, get_or-take, take-take}
use borrow.Author.Tests.{eq-eqb, ne_eqb}
use Rattle.octets.specs.Octets.{low_number}
use Rattle.octets.specs.Lists.{every}
use Rattle.octets.proofs.Same.{both_true}
use Rattle.octets.proofs.Cases.{by_eq}
use Rattle.state.specs.Image.{zeros, rows, table, rows_in, port_in, flow_in, session_in}
use Rattle.state.proofs.Cuts.{drop_take, low_within, low_zeros}

module _ {A : Type 0} where
  -- each element has the property
  abbrev pub Each : (A → Type 0) → List A → Type 0
  Each P [] = Unit {0}
  Each P (x ∷ xs) = P x × Each P xs

  pub each : (P : A → Type 0) (test : A → Bool) → ((x : A) → test x ≡ true → P x)
      → (xs : List A) → every test xs ≡ true → Each P xs
  unfolding every
  each P test f [] e = tt
  each P test f (x ∷ xs) e =
      let b : _ = both_true (test x) (every test xs) e in
      (f x b.0, each P test f xs b.1)

  pub each_also : (P Q : A → Type 0) → ((x : A) → P x → Q x) → (xs : List A) → Each P xs → Each Q xs
  each_also P Q f [] h = tt
  each_also P Q f (x ∷ xs) h = (f x h.0, each_also P Q f xs h.1)

  pub rows_few : (k width : ℕ) (read : List ℕ → A) (l : List ℕ) → length (rows_in k width read l) ≤ k
  unfolding rows_in
  rows_few zero width read l = omega arith
  rows_few (suc k) width read l =
      let r : _ = rows_few k width read (drop width l) in
      by_eq (low_number 8 l) 0 (λ e none. rw e (omega arith)) (λ e more. rw e (omega arith))

  -- what stands behind the rows is not read, by a reader that reads a row's octets alone
  pub rows_within : (k width m : ℕ) (read : List ℕ → A) → 8 ≤ width
      → ((m : ℕ) (l : List ℕ) → width ≤ m → read (take m l) ≡ read l)
      → (l : List ℕ) → k * width ≤ m → rows_in k width read (take m l) ≡ rows_in k width read l
  unfolding rows_in
  rows_within zero width m read w r l h = refl
  rows_within (suc k) width m read w r l h =
      let f : k * width + width ≤ m = rw suc-mul at h in
      rw (
        low_within 8 m l (omega arith),
        r m l (omega arith),
        drop_take width m l (omega arith),
        rows_within k width (m - width) read w r (drop width l) (omega arith),
      )

  -- ---- a table

  pub none_table : (row : A → List ℕ) (n : ℕ) → table n row [] ≡ zeros n
  unfolding table rows
  none_table row n = let e : n - 0 ≡ n = omega arith in rw e

  pub none_head : (row : A → List ℕ) (n : ℕ) (t : List ℕ) → 8 ≤ n → low_number 8 (table n row [] ++ t) ≡ 0
  unfolding zeros
  none_head row n t h = rw none_table (low_zeros 8 n t h)

  module _ (row : A → List ℕ) (width : ℕ) where
    pub rest_table : (n : ℕ) (x : A) (xs : List A) → length (row x) ≡ width
        → table n row (x ∷ xs) ≡ row x ++ table (n - width) row xs
    unfolding table rows
    rest_table n x xs e =
        let m : ℕ = length (rows row xs) in
        let d : n - (width + m) ≡ n - width - m = omega arith in
        rw (length-append, e, d, append_assoc)

    pub rows_length : (xs : List A) → Each (λ x. length (row x) ≡ width) xs → length (rows row xs) ≡ length xs * width
    unfolding rows
    rows_length [] h = sym (zero-mul width)
    rows_length (x ∷ xs) h = rw (length-append, h.0, rows_length xs h.1, suc-mul) (add_comm width (length xs * width))

    pub table_length : (n : ℕ) (xs : List A) → Each (λ x. length (row x) ≡ width) xs → length xs * width ≤ n
        → length (table n row xs) ≡ n
    unfolding table zeros
    table_length n xs h f = rw (length-append, rows_length xs h, length-replicate) (omega arith)

  -- a row that is read back as what it was written from, and is not empty
  pub record Readable (row : A → List ℕ) (read : List ℕ → A) (width : ℕ) (x : A) : Type 0 where
    pub long : length (row x) ≡ width
    pub back : (t : List ℕ) → read (row x ++ t) ≡ x
    pub some : (t : List ℕ) → low_number 8 (row x ++ t) ≡ 0 → ⊥

  module _ (row : A → List ℕ) (read : List ℕ → A) (width : ℕ) (w : 8 ≤ width) where
    pub rows_back : (k n : ℕ) (xs : List A) (t : List ℕ) → Each (Readable row read width) xs → length xs ≤ k → k * width ≤ n
        → rows_in k width read (table n row xs ++ t) ≡ xs
    unfolding rows_in
    rows_back zero n [] t h few fit = refl
    rows_back zero n (x ∷ xs) t h few fit = absurd (not-suc-le-zero few)
    rows_back (suc k) n [] t h few fit =
        let f : k * width + width ≤ n = rw suc-mul at fit in
        rw (eq-eqb (low_number 8 (table n row [] ++ t)) 0 (none_head row n t (omega arith)))
    rows_back (suc k) n (x ∷ xs) t h few fit =
        let f : k * width + width ≤ n = rw suc-mul at fit in
        let r : List ℕ = table (n - width) row xs ++ t in
        let y : Readable row read width x = h.0 in
        let e : table n row (x ∷ xs) ++ t ≡ row x ++ r
        = rw (rest_table row width n x xs y.long) (append_assoc (row x) (table (n - width) row xs) t) in
        rw (e, ne_eqb (low_number 8 (row x ++ r)) 0 (y.some r), y.back r, drop_at (row x) r width y.long)
        (ap {B = List A} (λ q. x ∷ q) (rows_back k (n - width) xs t h.1 (le_of_suc-le-suc few) (omega arith)))

-- ---- the readers read their own row

pub port_within : (m : ℕ) (l : List ℕ) → 16 ≤ m → port_in (take m l) ≡ port_in l
unfolding port_in
port_within m l h = rw (get_or-take m l 7 0 (omega arith), get_or-take m l 6 0 (omega arith), low_within 6 m l (omega arith))

pub flow_within : (m : ℕ) (l : List ℕ) → 32 ≤ m → flow_in (take m l) ≡ flow_in l
unfolding flow_in
flow_within m l h =
    rw (
      get_or-take m l 1 0 (omega arith),
      get_or-take m l 7 0 (omega arith),
      get_or-take m l 6 0 (omega arith),
      drop_take 4 m l (omega arith),
      drop_take 8 m l (omega arith),
      low_within 2 (m - 4) (drop 4 l) (omega arith),
      take-take 8 (m - 8) (drop 8 l) (omega arith),
    )

pub session_within : (m : ℕ) (l : List ℕ) → 32 ≤ m → session_in (take m l) ≡ session_in l
unfolding session_in
session_within m l h =
    rw (
      drop_take 6 m l (omega arith),
      drop_take 8 m l (omega arith),
      drop_take 16 m l (omega arith),
      low_within 2 (m - 6) (drop 6 l) (omega arith),
      low_within 6 m l (omega arith),
      low_within 4 (m - 8) (drop 8 l) (omega arith),
      low_within 8 (m - 16) (drop 16 l) (omega arith),
      get_or-take m l 12 0 (omega arith),
      get_or-take m l 13 0 (omega arith),
      get_or-take m l 14 0 (omega arith),
      get_or-take m l 15 0 (omega arith),
    )

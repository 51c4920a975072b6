-- The table of sessions behind a head: how its rows are read, and all of them rewritten at once.
use mathlib.Core.Path.{◌≡◌, refl, sym, ap}
use mathlib.Core.Bool.{true}
use mathlib.Core.List.{List, [], ◌∷◌, ◌++◌, map, append_assoc}
use Prim.Native.Nat.{ℕ, suc, zero, ◌+◌, ◌-◌, ◌*◌, ◌≤◌}
use native.Mathlib.Nat.{not-suc-le-zero, le_of_suc-le-suc}
use native.Mathlib.Omega.{arith}
use lib.ListN.{length, drop, length-append}
use lib.Seq.{take_at, drop_at}
use borrow.Author.Tests.{eq-eqb, ne_eqb}
use Rattle.octets.specs.Octets.{low_number}
use Rattle.octets.specs.Lists.{ascends}
use Rattle.octets.proofs.Ordered.{next_key}
use Rattle.machine.specs.declared.Session.{Session}
use Rattle.machine.specs.Machine.{key_of}
use Rattle.state.specs.Image.{zeros, session_row, session_in, table}
use Rattle.state.proofs.RowLaws.{SessionFits, session_length, session_back, session_key}
use Rattle.state.proofs.TableLaws.{Each, rest_table, none_table, none_head, table_length}
use Rattle.state_store.specs.StoredRows.{map_rows, sessions_mapped, sessions_cleared}

-- sessions that make a table: at most 16 with ascending keys, each of which fits its row
pub record Tabled (xs : List Session) : Type 0 where
  pub few : length xs ≤ 16
  pub order : ascends key_of 0 xs ≡ true
  pub fit : Each SessionFits xs

-- their table in n octets, and what stands behind it
abbrev pub table_then : List ℕ → ℕ → List Session → List ℕ
table_then t n xs = table n session_row xs ++ t

rows_long : (xs : List Session) → Each (λ x. length (session_row x) ≡ 32) xs
rows_long [] = tt
rows_long (x ∷ xs) = (session_length x, rows_long xs)

pub table_long : (n : ℕ) (xs : List Session) → length xs * 32 ≤ n → length (table n session_row xs) ≡ n
table_long n xs h = table_length session_row 32 n xs (rows_long xs) h

-- ---- a table from its first row on

module _ (t : List ℕ) (n : ℕ) where
  pub empty_key : 8 ≤ n → low_number 8 (table_then t n []) ≡ 0
  empty_key h = none_head session_row n t h

  module _ (x : Session) (xs : List Session) where
    pub first_row : table_then t n (x ∷ xs) ≡ session_row x ++ table_then t (n - 32) xs
    first_row = rw (rest_table session_row 32 n x xs (session_length x)) (append_assoc (session_row x) (table (n - 32) session_row xs) t)

    pub first_key : SessionFits x → low_number 8 (table_then t n (x ∷ xs)) ≡ key_of x
    first_key f = rw first_row (session_key x (table_then t (n - 32) xs) f)

    pub first_back : SessionFits x → session_in (table_then t n (x ∷ xs)) ≡ x
    first_back f = rw first_row (session_back x (table_then t (n - 32) xs) f)

    pub behind_first : drop 32 (table_then t n (x ∷ xs)) ≡ table_then t (n - 32) xs
    behind_first = rw first_row (drop_at (session_row x) (table_then t (n - 32) xs) 32 (session_length x))

    -- the same behind a head of m octets
    module _ (h : List ℕ) (m : ℕ) where
      pub past_first : h ++ table_then t n (x ∷ xs) ≡ h ++ session_row x ++ table_then t (n - 32) xs
      past_first = rw first_row (sym (append_assoc h (session_row x) (table_then t (n - 32) xs)))

      module _ (long : length h ≡ m) where
        pub past_length : length (h ++ session_row x) ≡ m + 32
        past_length = rw (length-append, session_length x) (ap (λ (q : ℕ). q + 32) long)

        pub past_drop : drop (m + 32) (h ++ table_then t n (x ∷ xs)) ≡ table_then t (n - 32) xs
        past_drop = rw past_first (drop_at (h ++ session_row x) (table_then t (n - 32) xs) (m + 32) past_length)

-- ---- every session put through f

map_table : (t : List ℕ) (f : Session → Session) (k n last : ℕ) (xs : List Session) → length xs ≤ k → k * 32 ≤ n
    → ascends key_of last xs ≡ true → Each SessionFits xs → map_rows f k (table_then t n xs) ≡ table_then t n (map f xs)
unfolding map_rows
map_table t f zero n last [] h fit a e = refl
map_table t f zero n last (x ∷ xs) h fit a e = absurd (not-suc-le-zero h)
map_table t f (suc k) n last [] h fit a e = simp (eq-eqb (low_number 8 (table_then t n [])) 0 (empty_key t n (omega arith)))
map_table t f (suc k) n last (x ∷ xs) h fit a e =
    let p : _ = next_key key_of last x xs a in
    let l : List ℕ = table_then t n (x ∷ xs) in
    let more : low_number 8 l ≡ 0 → ⊥ = λ z. let q : _ = first_key t n x xs e.0 in omega arith in
    rw (first_row t n (f x) (map f xs))
    (rw (
      ne_eqb (low_number 8 l) 0 more,
      first_back t n x xs e.0,
      behind_first t n x xs,
      map_table t f k (n - 32) (key_of x) xs (le_of_suc-le-suc h) (omega arith) p.1 e.1,
    ))

-- ---- behind a head of 1,536 octets

module _ (h t : List ℕ) (xs : List Session) (long : length h ≡ 1536) (k : Tabled xs) where
  pub mapped_table : (f : Session → Session) → sessions_mapped f (h ++ table_then t 512 xs) ≡ h ++ table_then t 512 (map f xs)
  unfolding sessions_mapped
  mapped_table f =
      let r : List ℕ = table_then t 512 xs in
      rw (
        take_at h r 1536 long,
        drop_at h r 1536 long,
        map_table t f 16 512 0 xs k.few (omega arith) k.order k.fit,
      )

  pub cleared_table : sessions_cleared (h ++ table_then t 512 xs) ≡ h ++ table_then t 512 []
  unfolding sessions_cleared zeros
  cleared_table =
      let r : List ℕ = table_then t 512 xs in
      let few : length xs ≤ 16 = k.few in
      rw (
        take_at h r 1536 long,
        drop_at h r 1536 long,
        drop_at (table 512 session_row xs) t 512 (table_long 512 xs (omega arith)),
        none_table session_row 512,
      )

-- A session taken out of a table behind a head: the table of the sessions without it.
use mathlib.Core.Path.{◌≡◌, refl}
use mathlib.Core.Bool.{true, cond}
use mathlib.Core.List.{List, [], ◌∷◌, ◌++◌}
use Prim.Native.Nat.{ℕ, suc, zero, ◌+◌, ◌-◌, ◌*◌, ◌≤◌}
use native.Mathlib.Nat.{not-suc-le-zero, le_of_suc-le-suc}
use native.Mathlib.Omega.{arith}
use lib.Dec.{eqb}
use lib.ListN.{length, drop, length-append}
use lib.Seq.{drop_at}
use borrow.Author.Tests.{ne_eqb}
use Rattle.octets.specs.Octets.{splice, moved_down}
use Rattle.octets.specs.Lists.{ascends, without}
use Rattle.octets.proofs.Cases.{by_eq}
use Rattle.octets.proofs.Ordered.{next_key, without_none}
use Rattle.machine.specs.declared.Session.{Session}
use Rattle.machine.specs.Machine.{key_of}
use Rattle.state.specs.Image.{zeros, session_row}
use Rattle.state.specs.Rows.{row_found, session_at}
use Rattle.state.proofs.RowLaws.{SessionFits, session_length}
use Rattle.state.proofs.TableLaws.{Each}
use Rattle.state_store.specs.StoredRows.{row_removed, session_removed}
use Rattle.state_store.proofs.Tables.{Tabled, table_then, table_long, first_row, past_first, past_length}
use Rattle.state_store.proofs.Seeks.{seek, seek_low, seek_first, seek_later}
use Rattle.state_store.proofs.Shift.{removed_behind, longer}

-- b without the row that has this key, of the k rows from `start` on
unfoldable remove_from : ℕ → ℕ → ℕ → List ℕ → List ℕ
remove_from start k key b =
    let at = seek k key start (drop start b) in
    cond (eqb at 0) b (splice (start + k * 32 - 32) (zeros 32) (moved_down 32 (at + 32) (start + k * 32) b))

remove_none : (h t : List ℕ) (m k n key : ℕ) → length h ≡ m → k * 32 ≤ n
    → remove_from m k key (h ++ table_then t n []) ≡ h ++ table_then t n []
unfolding remove_from ascends
remove_none h t m k n key long fit =
    rw (drop_at h (table_then t n []) m long, seek_low t k n key m key [] fit refl tt (omega arith))

module _ (h t : List ℕ) (m k n key : ℕ) (y : Session) (ys : List Session)
    (long : length h ≡ m) (f : SessionFits y) (some : 1 ≤ key_of y) where
  abbrev whole : List ℕ
  whole = h ++ table_then t n (y ∷ ys)

  -- its row is the first
  remove_first : 1 ≤ m → key_of y ≡ key → length ys ≤ k → k * 32 + 32 ≤ n
      → remove_from m (suc k) key whole ≡ h ++ table_then t n ys
  unfolding remove_from
  remove_first start same few fit =
      let r : List ℕ = table_then t (n - 32) ys in
      let u : m + suc k * 32 - 32 ≡ m + k * 32 = omega arith in
      let v : m + suc k * 32 ≡ m + (32 + k * 32) = omega arith in
      let w : k * 32 ≤ length r = rw length-append (omega (arith, table_long (n - 32) ys (omega arith))) in
      rw (
        seek_first h t m k n key y ys long f some same,
        ne_eqb m 0 (λ z. omega arith),
        u,
        v,
        first_row t n y ys,
        removed_behind h (session_row y) r m (k * 32) long (session_length y) w,
        longer t k n ys few fit,
      )

  -- its row is further on
  remove_later : (key_of y ≡ key → ⊥) → remove_from m (suc k) key whole ≡ remove_from (m + 32) k key whole
  unfolding remove_from
  remove_later other =
      let w : m + suc k * 32 ≡ m + 32 + k * 32 = omega arith in
      rw (seek_later h t m k n key y ys long f some other, w)

remove_from_lem : (h t : List ℕ) (m k n last key : ℕ) (xs : List Session) → length h ≡ m → 1 ≤ m → k * 32 ≤ n
    → ascends key_of last xs ≡ true → Each SessionFits xs → length xs ≤ k
    → remove_from m k key (h ++ table_then t n xs) ≡ h ++ table_then t n (without key_of key xs)
unfolding without
remove_from_lem h t m k n last key [] long start fit a f few = remove_none h t m k n key long fit
remove_from_lem h t m zero n last key (y ∷ ys) long start fit a f few = absurd (not-suc-le-zero few)
remove_from_lem h t m (suc k) n last key (y ∷ ys) long start fit a f few =
    let p : _ = next_key key_of last y ys a in
    let some : 1 ≤ key_of y = omega arith in
    by_eq (key_of y) key
    (λ e same.
    rw (e, without_none key_of (key_of y) key ys p.1 (omega arith))
    (remove_first h t m k n key y ys long f.0 some start same (le_of_suc-le-suc few) (omega arith)))
    (λ e other.
    let g : List ℕ = h ++ session_row y in
    let c : length g ≡ m + 32 = past_length t n y ys h m long in
    let later : _ = remove_later h t m k n key y ys long f.0 some other in
    rw (e, later, past_first t n y ys h m, past_first t n y (without key_of key ys) h m)
    (remove_from_lem g t (m + 32) k (n - 32) (key_of y) key ys c (omega arith) (omega arith) p.1 f.1 (le_of_suc-le-suc few)))

removed_found : (row : ℕ) (b : List ℕ)
    → row_removed (row_found row) b ≡ cond (eqb row 0) b (splice 2016 (zeros 32) (moved_down 32 (row + 32) 2048 b))
unfolding row_removed
removed_found row b = by_eq row 0 (λ e none. simp e) (λ e some. simp e)

-- Behind a head of 1,536 octets.
pub removed_table : (h t : List ℕ) (key : ℕ) (xs : List Session) → length h ≡ 1536 → Tabled xs
    → session_removed key (h ++ table_then t 512 xs) ≡ h ++ table_then t 512 (without key_of key xs)
unfolding session_removed session_at remove_from
removed_table h t key xs long k =
    rw removed_found (remove_from_lem h t 1536 16 512 0 key xs long (omega arith) (omega arith) k.order k.fit k.few)

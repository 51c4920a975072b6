-- A session put in a table behind a head: it stands where its key belongs.
use mathlib.Core.Path.{◌≡◌}
use mathlib.Core.Bool.{true, cond}
use mathlib.Core.List.{List, [], ◌∷◌, ◌++◌}
use Prim.Native.Nat.{ℕ, suc, zero, ◌+◌, ◌-◌, ◌*◌, ◌<◌, ◌≤◌}
use native.Mathlib.Omega.{arith}
use lib.Dec.{eqb, ltb}
use lib.ListN.{length, drop, length-append}
use lib.Seq.{drop_at}
use borrow.Author.Tests.{eq-eqb, ne_eqb, le-ltb, lt-ltb}
use Rattle.octets.specs.Octets.{low_number, moved_up}
use Rattle.octets.specs.Lists.{ascends, put}
use Rattle.octets.proofs.Cases.{by_eq, by_lt}
use Rattle.octets.proofs.Ordered.{next_key}
use Rattle.machine.specs.declared.Session.{Session}
use Rattle.machine.specs.Machine.{key_of}
use Rattle.state.specs.Image.{session_row}
use Rattle.state.specs.Rows.{session_at}
use Rattle.state.proofs.RowLaws.{SessionFits}
use Rattle.state.proofs.TableLaws.{Each}
use Rattle.state_store.specs.StoredRows.{place_row, place_of, row_put, row_inserted, session_inserted, session_put}
use Rattle.state_store.proofs.Shift.{put_behind, inserted_behind, shorter}
use Rattle.state_store.proofs.Tables.{Tabled, table_then, table_long, empty_key, first_row, first_key, behind_first}
use Rattle.state_store.proofs.Tables.{past_first, past_length, past_drop}
use Rattle.state_store.proofs.Seeks.{seek, seek_none, seek_low, seek_first, seek_later}

-- b with a session put in among the k rows from `start` on, and with one put there whether its key has a row or not
unfoldable insert_from : ℕ → ℕ → Session → List ℕ → List ℕ
insert_from start k x b =
    let at = place_row k (key_of x) start (drop start b) in
    cond (ltb at (start + k * 32)) (row_put at x (moved_up 32 at (start + k * 32 - 32) b)) b

unfoldable put_from : ℕ → ℕ → Session → List ℕ → List ℕ
put_from start k x b =
    let row = seek k (key_of x) start (drop start b) in cond (eqb row 0) (insert_from start k x b) (row_put row x b)

module _ (h t : List ℕ) (m k n : ℕ) (x : Session) (long : length h ≡ m) (fit : k * 32 + 32 ≤ n) where
  abbrev behind : List Session → List ℕ
  behind xs = h ++ table_then t n xs

  bound : m + suc k * 32 - 32 ≡ m + k * 32
  bound = omega arith

  -- its key has no row, and its place is the first
  put_first : (xs : List Session) → place_row (suc k) (key_of x) m (table_then t n xs) ≡ m
      → seek (suc k) (key_of x) m (drop m (behind xs)) ≡ 0 → length xs ≤ k → put_from m (suc k) x (behind xs) ≡ behind (x ∷ xs)
  unfolding put_from insert_from
  put_first xs here none few =
      let l : List ℕ = table_then t n xs in
      rw (
        none,
        drop_at h l m long,
        here,
        lt-ltb m (m + suc k * 32) (omega arith),
        bound,
        inserted_behind h l m x long (k * 32) (rw length-append (omega (arith, table_long n xs (omega arith)))),
        shorter t k n xs few fit,
        first_row t n x xs,
      )

  module _ (y : Session) (ys : List Session) (f : SessionFits y) (some : 1 ≤ key_of y) where
    -- its row is the first
    put_over : 1 ≤ m → key_of y ≡ key_of x → put_from m (suc k) x (behind (y ∷ ys)) ≡ behind (x ∷ ys)
    unfolding put_from
    put_over start same =
        let l : List ℕ = table_then t n (y ∷ ys) in
        rw (
          seek_first h t m k n (key_of x) y ys long f some same,
          ne_eqb m 0 (λ z. omega arith),
          put_behind h l m x long,
          behind_first t n y ys,
          first_row t n x ys,
        )

    -- its place is further on
    put_later : key_of y < key_of x
        → put_from m (suc k) x (behind (y ∷ ys)) ≡ put_from (m + 32) k x (behind (y ∷ ys))
    unfolding put_from insert_from place_row
    put_later less =
        let l : List ℕ = table_then t n (y ∷ ys) in
        let w : m + suc k * 32 ≡ m + 32 + k * 32 = omega arith in
        let p : place_row (suc k) (key_of x) m (drop m (h ++ l)) ≡ place_row k (key_of x) (m + 32) (drop (m + 32) (h ++ l))
        = rw (
          drop_at h l m long,
          past_drop t n y ys h m long,
          first_key t n y ys f,
          ne_eqb (key_of y) 0 (λ z. omega arith),
          lt-ltb (key_of y) (key_of x) less,
          behind_first t n y ys,
        ) in
        rw (seek_later h t m k n (key_of x) y ys long f some (λ z. omega arith), p, w)

place_empty : (t : List ℕ) (k n m key : ℕ) → 8 ≤ n → place_row (suc k) key m (table_then t n []) ≡ m
unfolding place_row
place_empty t k n m key h = rw (eq-eqb (low_number 8 (table_then t n [])) 0 (empty_key t n h))

place_first : (t : List ℕ) (k n m key : ℕ) (y : Session) (ys : List Session) → SessionFits y → 1 ≤ key_of y → key ≤ key_of y
    → place_row (suc k) key m (table_then t n (y ∷ ys)) ≡ m
unfolding place_row
place_first t k n m key y ys f some more =
    let e : key_of y ≡ 0 → ⊥ = λ z. omega arith in
    simp (first_key t n y ys f, ne_eqb (key_of y) 0 e, le-ltb (key_of y) key more)

some_put : (x : Session) (xs : List Session) → 1 ≤ length (put key_of x xs)
unfolding put
some_put x [] = omega arith
some_put x (y ∷ ys) =
    by_lt (key_of y) (key_of x)
    (λ l less. rw l (omega arith))
    (λ l more. by_eq (key_of y) (key_of x) (λ e same. rw (l, e) (omega arith)) (λ e other. rw (l, e) (omega arith)))

put_from_lem : (h t : List ℕ) (m k n last : ℕ) (x : Session) (xs : List Session) → length h ≡ m → 1 ≤ m → k * 32 ≤ n
    → ascends key_of last xs ≡ true → Each SessionFits xs → length (put key_of x xs) ≤ k
    → put_from m k x (h ++ table_then t n xs) ≡ h ++ table_then t n (put key_of x xs)
unfolding put
put_from_lem h t m zero n last x xs long start fit a f few = absurd (omega (arith, some_put x xs))
put_from_lem h t m (suc k) n last x [] long start fit a f few =
    let l : List ℕ = table_then t n [] in
    let none : seek (suc k) (key_of x) m (drop m (h ++ l)) ≡ 0
    = rw (drop_at h l m long) (seek_none (suc k) (key_of x) m l (empty_key t n (omega arith))) in
    put_first h t m k n x long (omega arith) [] (place_empty t k n m (key_of x) (omega arith)) none (omega arith)
put_from_lem h t m (suc k) n last x (y ∷ ys) long start fit a f few =
    let p : _ = next_key key_of last y ys a in
    let more : 1 ≤ key_of y = omega arith in
    by_lt (key_of y) (key_of x)
    (λ l less.
    let g : suc (length (put key_of x ys)) ≤ suc k = simp l at few in
    let c : length (h ++ session_row y) ≡ m + 32 = past_length t n y ys h m long in
    let later : _ = put_later h t m k n x long (omega arith) y ys f.0 more less in
    rw (l, later, past_first t n y ys h m, past_first t n y (put key_of x ys) h m)
    (put_from_lem (h ++ session_row y) t (m + 32) k (n - 32) (key_of y) x ys c (omega arith) (omega arith) p.1 f.1 (omega arith)))
    (λ l high.
    by_eq (key_of y) (key_of x)
    (λ e same. rw (l, e) (put_over h t m k n x long (omega arith) y ys f.0 more start same))
    (λ e other.
    let g : suc (suc (length ys)) ≤ suc k = simp (l, e) at few in
    let here : _ = place_first t k n m (key_of x) y ys f.0 more high in
    let none : seek (suc k) (key_of x) m (drop m (h ++ table_then t n (y ∷ ys))) ≡ 0
    = rw (seek_later h t m k n (key_of x) y ys long f.0 more other, past_drop t n y ys h m long)
    (seek_low t k (n - 32) (key_of x) (m + 32) (key_of y) ys (omega arith) p.1 f.1 high) in
    rw (l, e) (put_first h t m k n x long (omega arith) (y ∷ ys) here none (omega arith))))

-- Behind a head of 1,536 octets.
pub put_table : (h t : List ℕ) (x : Session) (xs : List Session) → length h ≡ 1536 → Tabled xs
    → length (put key_of x xs) ≤ 16 → session_put x (h ++ table_then t 512 xs) ≡ h ++ table_then t 512 (put key_of x xs)
unfolding session_put session_inserted session_at place_of row_inserted put_from insert_from
put_table h t x xs long k few = put_from_lem h t 1536 16 512 0 x xs long (omega arith) (omega arith) k.order k.fit few

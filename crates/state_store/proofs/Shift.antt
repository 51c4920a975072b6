-- A row put in, or taken out, right behind a head of m octets, and what that makes of the table that stood there.
use mathlib.Core.Path.{◌≡◌, refl, ap}
use mathlib.Core.List.{List, ◌++◌, append_assoc}
use Prim.Native.Nat.{ℕ, ◌+◌, ◌-◌, ◌*◌, ◌≤◌}
use native.Mathlib.Omega.{arith}
use lib.ListN.{length, take, drop, length-append, replicate-append-replicate}
use lib.Seq.{take_at, drop_at, drop-drop, length-take-le}
use Rattle.octets.specs.Octets.{splice, moved_up, moved_down}
use Rattle.machine.specs.declared.Session.{Session}
use Rattle.state.specs.Image.{zeros, session_row, rows, table}
use Rattle.state.proofs.BaseParts.{zeros_length}
use Rattle.state.proofs.Runs.{take_past, drop_past, zeros_join}
use Rattle.state.proofs.RowLaws.{session_length}
use Rattle.state_store.specs.StoredRows.{row_put}
use Rattle.state_store.proofs.Tables.{table_then, table_long}

-- ---- a row at the end of a head of m octets

module _ (h l : List ℕ) (m : ℕ) (x : Session) (long : length h ≡ m) where
  pub put_behind : row_put m x (h ++ l) ≡ h ++ (session_row x ++ drop 32 l)
  unfolding row_put
  put_behind = rw (take_at h l m long, drop_at h l m long, session_length x)

  -- the row put in, and those behind it one place further
  pub inserted_behind : (q : ℕ) → 32 ≤ length l
      → row_put m x (moved_up 32 m (m + q) (h ++ l)) ≡ h ++ (session_row x ++ (take q l ++ drop (q + 32) l))
  unfolding row_put moved_up
  inserted_behind q fit =
      let r : List ℕ = take q l ++ drop (q + 32) l in
      let w : m + q - m ≡ q = omega arith in
      let v : m + q + 32 ≡ m + (q + 32) = omega arith in
      rw (
        w,
        v,
        take_past h l m 32 long,
        drop_at h l m long,
        drop_past h l m (q + 32) long,
        append_assoc h (take 32 l) r,
        take_at h (take 32 l ++ r) m long,
        drop_at h (take 32 l ++ r) m long,
        session_length x,
        drop_at (take 32 l) r 32 (length-take-le 32 l fit),
      )

-- the row r taken out, and those behind it one place nearer
pub removed_behind : (h r l : List ℕ) (m q : ℕ) → length h ≡ m → length r ≡ 32 → q ≤ length l
    → splice (m + q) (zeros 32) (moved_down 32 (m + 32) (m + (32 + q)) (h ++ (r ++ l)))
    ≡ h ++ (take q l ++ (zeros 32 ++ drop q l))
unfolding moved_down zeros
removed_behind h r l m q long row fit =
    let b : List ℕ = r ++ l in
    let p : List ℕ = h ++ take q l in
    let n : length p ≡ m + q = rw (length-append, length-take-le q l fit) (ap (λ (k : ℕ). k + q) long) in
    let u : m + 32 - 32 ≡ m = omega arith in
    let v : m + (32 + q) - (m + 32) ≡ q = omega arith in
    let w : m + (32 + q) - 32 ≡ m + q = omega arith in
    let y : q + 32 ≡ 32 + q = omega arith in
    rw (
      u,
      v,
      w,
      take_at h b m long,
      drop_past h b m 32 long,
      drop_at r l 32 row,
      drop_past h b m q long,
      ← append_assoc h (take q l) (drop q b),
      take_at p (drop q b) (m + q) n,
      drop_at p (drop q b) (m + q) n,
      drop-drop,
      y,
      drop_past r l 32 q row,
    )
    (append_assoc h (take q l) (zeros 32 ++ drop q l))

-- ---- a table in fewer octets, and in more

-- a table whose rows leave room behind them
more_room : (n m : ℕ) (xs : List Session) → length (table n session_row xs) ≡ n
    → table (n + m) session_row xs ≡ table n session_row xs ++ zeros m
unfolding table zeros
more_room n m xs e =
    let k : ℕ = length (rows session_row xs) in
    let fit : k ≤ n = omega (arith, rw length-append at e) in
    let d : n + m - k ≡ n - k + m = omega arith in
    rw (append_assoc, replicate-append-replicate, d)

-- room for k rows in front, and for one more behind them
module _ (t : List ℕ) (k n : ℕ) (xs : List Session) (h : length xs ≤ k) (fit : k * 32 + 32 ≤ n) where
  abbrev front : List ℕ
  front = table (k * 32) session_row xs

  front_long : length front ≡ k * 32
  front_long = table_long (k * 32) xs (omega arith)

  abbrev back : List ℕ
  back = zeros (n - 32 - k * 32) ++ t

  cut : (m p : ℕ) → k * 32 + p ≡ m → table_then t m xs ≡ front ++ (zeros p ++ t)
  cut m p e = rw (← e, more_room (k * 32) p xs front_long) (append_assoc front (zeros p) t)

  wide : table_then t n xs ≡ front ++ (zeros 32 ++ back)
  wide =
      let q : ℕ = n - 32 - k * 32 in
      rw (← append_assoc (zeros 32) (zeros q) t, zeros_join 32 q (32 + q) refl) (cut n (32 + q) (omega arith))

  narrow : table_then t (n - 32) xs ≡ front ++ back
  narrow = cut (n - 32) (n - 32 - k * 32) (omega arith)

  pub shorter : take (k * 32) (table_then t n xs) ++ drop (k * 32 + 32) (table_then t n xs) ≡ table_then t (n - 32) xs
  shorter =
      let r : List ℕ = zeros 32 ++ back in
      rw (
        wide,
        narrow,
        take_at front r (k * 32) front_long,
        drop_past front r (k * 32) 32 front_long,
        drop_at (zeros 32) back 32 (zeros_length 32),
      )

  pub longer : take (k * 32) (table_then t (n - 32) xs) ++ (zeros 32 ++ drop (k * 32) (table_then t (n - 32) xs)) ≡ table_then t n xs
  longer = rw (wide, narrow, take_at front back (k * 32) front_long, drop_at front back (k * 32) front_long)

-- A session's row written; one session put in its place, or taken out: what each way through the code makes.
use mathlib.Core.Path.{◌≡◌, refl, sym, ap, ◌∙◌}
use mathlib.Core.List.{List, ◌++◌}
use Prim.Native.Nat.{ℕ, ◌+◌, ◌<◌, ◌≤◌}
use native.Mathlib.Omega.{arith}
use lib.ListN.{length, take, drop, replicate, length-drop, take-append-drop}
use lib.Seq.{length-take-le}
use borrow.Author.Tests.{eq-eqb, ne_eqb, le-ltb, lt-ltb}
use Rattle.std.specs.Prelude.{Some}
use Rattle.octets.specs.Octets.{low_number, low_octets, splice, moved_up, moved_down}
use Rattle.octets.proofs.Laws.{Octets}
use Rattle.octets.proofs.LowLaws.{low_octets_length, octets_low_at}
use Rattle.octets.proofs.Over.{then_splice}
use Rattle.machine.specs.declared.Session.{Session}
use Rattle.machine.specs.Machine.{key_of}
use Rattle.state.specs.Image.{zeros, session_row}
use Rattle.state.specs.Rows.{session_at}
use Rattle.state.proofs.Inside.{session_fits_lem, session_keyed}
use Rattle.state_store.specs.StoredRows.{place_of, row_put, row_inserted, session_inserted, session_put, row_removed}
use Rattle.state_store.proofs.PlaceLaws.{place_room}

-- ---- a row is written: its key, then what stands behind that

row_parts : (x : Session) → low_octets 8 (key_of x) ++ drop 8 (session_row x) ≡ session_row x
unfolding session_row low_octets
row_parts x = refl

pub row_written : (at : ℕ) (x : Session) (b : List ℕ) {c d : List ℕ} → at + 32 ≤ length b
    → c ≡ splice at (low_octets 8 (key_of x)) b → d ≡ splice (at + 8) (drop 8 (session_row x)) c → d ≡ row_put at x b
unfolding row_put
row_written at x b fits ec ed =
    let k : List ℕ = low_octets 8 (key_of x) in
    let e : at + 8 ≡ at + length k = rw low_octets_length in
    then_splice at (at + 8) k (drop 8 (session_row x)) b ec ed e (omega arith)
    ∙ ap (λ (w : List ℕ). splice at w b) (row_parts x)

-- the key of the row stays
module _ (at : ℕ) (x : Session) (b : List ℕ) (octets : Octets b) (fits : at + 32 ≤ length b)
    (mine : low_number 8 (drop at b) ≡ key_of x) where
  key_there : b ≡ splice at (low_octets 8 (key_of x)) b
  key_there =
      let r : List ℕ = drop at b in
      let some : 8 ≤ length r = omega (arith, length-drop at b, fits) in
      let k : low_octets 8 (key_of x) ≡ take 8 r = rw (← mine) (octets_low_at at 8 b octets (omega (arith, fits))) in
      rw (k, length-take-le 8 r some, take-append-drop 8 r, take-append-drop at b)

  pub rest_written : {c : List ℕ} → c ≡ splice (at + 8) (drop 8 (session_row x)) b → c ≡ row_put at x b
  rest_written ec = row_written at x b fits key_there ec

-- ---- a session is put; `row` is that of its key, or 0

module _ (row : ℕ) (x : Session) (b : List ℕ) (er : row ≡ session_at (key_of x) b) where
  pub put_new : {c : List ℕ} → row ≡ 0 → c ≡ session_inserted x b → c ≡ session_put x b
  unfolding session_put
  put_new e put = rw (← er, eq-eqb row 0 e) put

  pub put_there : {c : List ℕ} → Octets b → length b ≡ 4096 → (row ≡ 0 → ⊥) → c ≡ splice (row + 8) (drop 8 (session_row x)) b
      → c ≡ session_put x b
  unfolding session_put
  put_there octets long more ec =
      let fits : row + 32 ≤ length b = omega (arith, session_fits_lem b (key_of x) er) in
      rw (← er, ne_eqb row 0 more) (rest_written row x b octets fits (session_keyed b (key_of x) er more) ec)

-- ---- a session is put in; `at` is the place of its key

module _ (x : Session) (b : List ℕ) (at key : ℕ) (ek : key ≡ key_of x) (ea : at ≡ place_of key b) where
  place : place_of (key_of x) b ≡ at
  place = rw (← ek) (sym ea)

  pub inserted_none : 2048 ≤ at → b ≡ session_inserted x b
  unfolding session_inserted
  inserted_none h = rw (place, le-ltb at 2048 h)

  module _ (h : at < 2048) where
    pub inserted_fits : at ≤ 2016
    unfolding place_of
    inserted_fits = omega (arith, place_room 16 key 1536 (drop 1536 b) (rw (← ea) h), ea)

    pub inserted_there : {c d : List ℕ} → c ≡ moved_up 32 at 2016 b → d ≡ row_put at x c → d ≡ session_inserted x b
    unfolding session_inserted row_inserted
    inserted_there ec ed = rw (place, lt-ltb at 2048 h, ← ec) ed

-- ---- the session of a row is taken out

pub removed_there : (row : ℕ) (b : List ℕ) {c d : List ℕ} → c ≡ moved_down 32 (row + 32) 2048 b
    → d ≡ splice 2016 (replicate 32 0) c → d ≡ row_removed (Some row) b
unfolding row_removed zeros
removed_there row b ec ed = rw (ed, ec)

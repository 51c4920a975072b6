-- A loop that puts each session through a step, row by row, whatever the step says: what a turn of it does.
use mathlib.Core.Path.{◌≡◌, refl, sym, ◌∙◌}
use mathlib.Core.List.{List, [], ◌∷◌, ◌++◌, append_assoc}
use Prim.Native.Nat.{ℕ, zero, suc, ◌+◌, ◌-◌, ◌*◌, ◌<◌, ◌≤◌}
use native.Mathlib.Omega.{arith}
use lib.ListN.{length, take, drop, length-drop, take-append-drop}
use lib.Seq.{drop-drop, take-add}
use borrow.Author.Tests.{eq-eqb, ne_eqb}
use Rattle.octets.specs.Octets.{low_number, splice}
use Rattle.machine.specs.declared.Session.{Session}
use Rattle.state.specs.Image.{session_row, session_in, rows_in, state_of}
use Rattle.state.proofs.RowLaws.{session_length}
use Rattle.state_store.specs.StoredRows.{InTypes, Stepped, rests_written, Swept}
use Rattle.state_store.proofs.MapLaws.{splice_take, splice_drop}

-- what stands behind the key of the row at `at`, written: the octets before the row's end, and behind it
module _ (at : ℕ) (x : Session) (b : List ℕ) (fit : at + 32 ≤ length b) where
  abbrev rest : List ℕ
  rest = drop 8 (session_row x)

  rest_length : length rest ≡ 24
  rest_length = omega (arith, length-drop 8 (session_row x), session_length x)

  row_end : at + 32 ≡ at + 8 + length rest
  row_end = omega (arith, rest_length)

  rest_take : take (at + 32) (splice (at + 8) rest b) ≡ take at b ++ (take 8 (drop at b) ++ rest)
  rest_take = rw (splice_take (at + 8) (at + 32) rest b row_end fit, take-add at 8 b, append_assoc)

  rest_drop : drop (at + 32) (splice (at + 8) rest b) ≡ drop (at + 32) b
  rest_drop = splice_drop (at + 8) (at + 32) rest b row_end fit

no_rows : (n : ℕ) (l : List ℕ) → low_number 8 l ≡ 0 → rows_in n 32 session_in l ≡ []
unfolding rows_in
no_rows zero l z = refl
no_rows (suc n) l z = simp (eq-eqb (low_number 8 l) 0 z)

module _ (says : Session → Session → Type 0) where
  -- b with the rows from `at` on, at most n, put through the step
  pub record SweptFrom (at n : ℕ) (before after : List ℕ) : Type 0 where
    pub answers : List Session
    pub stepped : Stepped says (rows_in n 32 session_in (drop at before)) answers
    pub written : after ≡ take at before ++ rests_written answers (drop at before)

  pub swept_all : {before after : List ℕ} → SweptFrom 1536 16 before after → Swept says before after
  unfolding state_of
  swept_all r = record { answers = r.answers; stepped = r.stepped; written = r.written }

  -- no row is left
  module _ (at n : ℕ) (b : List ℕ) where
    none : rows_in n 32 session_in (drop at b) ≡ [] → SweptFrom at n b b
    unfolding rests_written
    none e = record { answers = []; stepped = rw e tt; written = sym (take-append-drop at b) }

    pub swept_stop : (k : ℕ) → k ≡ low_number 8 (drop at b) → k ≡ 0 → SweptFrom at n b b
    swept_stop k read e = none (no_rows n (drop at b) (sym read ∙ e))

    pub swept_done : n ≡ 0 → SweptFrom at n b b
    unfolding rows_in
    swept_done e = none (rw e)

  -- row i is not empty, and holds x, of which the step says y
  pub swept_turn : (b : List ℕ) (i : ℕ) {after c : List ℕ} {x y : Session} {k : ℕ} → i < 16 → length b ≡ 4096
      → k ≡ low_number 8 (drop (1536 + i * 32) b) → (k ≡ 0 → ⊥) → x ≡ session_in (drop (1536 + i * 32) b) → InTypes y → says x y
      → c ≡ splice (1536 + i * 32 + 8) (drop 8 (session_row y)) b
      → SweptFrom (1536 + (i + 1) * 32) (16 - (i + 1)) c after → SweptFrom (1536 + i * 32) (16 - i) b after
  unfolding rows_in rests_written
  swept_turn b i {after = after} {c = c} {x = x} {y = y} h long read more was typed said put r =
      let at : ℕ = 1536 + i * 32 in
      let next : 1536 + (i + 1) * 32 ≡ at + 32 = omega arith in
      let one : 16 - i ≡ suc (16 - (i + 1)) = omega arith in
      let fit : at + 32 ≤ length b = omega (arith, long, h) in
      let behind : drop (1536 + (i + 1) * 32) c ≡ drop 32 (drop at b) = rw (next, put, rest_drop at y b fit, drop-drop) in
      let before : take (1536 + (i + 1) * 32) c ≡ take at b ++ (take 8 (drop at b) ++ drop 8 (session_row y))
      = rw (next, put) (rest_take at y b fit) in
      let rows : rows_in (16 - i) 32 session_in (drop at b) ≡ x ∷ rows_in (16 - (i + 1)) 32 session_in (drop 32 (drop at b))
      = rw one (simp (ne_eqb (low_number 8 (drop at b)) 0 (λ z. more (read ∙ z)), was)) in
      record {
        answers = y ∷ r.answers;
        stepped = rw rows ((typed, said), rw behind at r.stepped);
        written = r.written ∙ rw (before, behind, append_assoc);
      }

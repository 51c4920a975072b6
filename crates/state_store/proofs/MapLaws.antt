-- A loop that puts each session through a step f, row by row: what a turn of it does.
use mathlib.Core.Path.{◌≡◌, refl, sym, ◌∙◌}
use mathlib.Core.List.{List, ◌++◌, append_assoc}
use Prim.Native.Nat.{ℕ, zero, suc, ◌+◌, ◌-◌, ◌*◌, ◌<◌, ◌≤◌}
use native.Mathlib.Omega.{arith}
use lib.ListN.{length, take, drop, length-append, take-append-drop}
use lib.Seq.{length-take-le, take_at, drop_at, drop-drop}
use borrow.Author.Tests.{eq-eqb, ne_eqb}
use Rattle.octets.specs.Octets.{low_number, splice}
use Rattle.octets.proofs.Over.{length_splice}
use Rattle.machine.specs.declared.Session.{Session}
use Rattle.state.specs.Image.{session_row, session_in}
use Rattle.state.proofs.RowLaws.{session_length}
use Rattle.state_store.specs.StoredRows.{map_rows, row_put}

-- octets w written at `at`: what stands before their end, and behind it
module _ (at end : ℕ) (w b : List ℕ) (e : end ≡ at + length w) (fit : end ≤ length b) where
  front_length : length (take at b ++ w) ≡ end
  front_length = simp length-append (omega (arith, length-take-le at b (omega arith)))

  parts : splice at w b ≡ (take at b ++ w) ++ drop end b
  parts = rw (e, drop-drop, append_assoc)

  pub splice_take : take end (splice at w b) ≡ take at b ++ w
  splice_take = rw parts (take_at (take at b ++ w) (drop end b) end front_length)

  pub splice_drop : drop end (splice at w b) ≡ drop end b
  splice_drop = rw parts (drop_at (take at b ++ w) (drop end b) end front_length)

-- a row put at `at`
module _ (at : ℕ) (x : Session) (b : List ℕ) (fit : at + 32 ≤ length b) where
  row_end : at + 32 ≡ at + length (session_row x)
  row_end = rw (session_length x)

  put_take : take (at + 32) (row_put at x b) ≡ take at b ++ session_row x
  unfolding row_put
  put_take = splice_take at (at + 32) (session_row x) b row_end fit

  put_drop : drop (at + 32) (row_put at x b) ≡ drop (at + 32) b
  unfolding row_put
  put_drop = splice_drop at (at + 32) (session_row x) b row_end fit

  pub put_length : length (row_put at x b) ≡ length b
  unfolding row_put
  put_length = length_splice at (session_row x) b (omega (arith, row_end))

module _ (f : Session → Session) where
  -- b with the rows from `at` on, at most n, put through f
  unfoldable pub mapped_from : ℕ → ℕ → List ℕ → List ℕ
  mapped_from at n b = take at b ++ map_rows f n (drop at b)

  map_none : (n : ℕ) (l : List ℕ) → low_number 8 l ≡ 0 → map_rows f n l ≡ l
  unfolding map_rows
  map_none zero l z = refl
  map_none (suc n) l z = simp (eq-eqb (low_number 8 l) 0 z)

  module _ (b X : List ℕ) (at n : ℕ) (inv : mapped_from at n b ≡ X) where
    pub mapped_stop : (k : ℕ) → k ≡ low_number 8 (drop at b) → k ≡ 0 → b ≡ X
    unfolding mapped_from
    mapped_stop k read e = sym (take-append-drop at b) ∙ (rw (map_none n (drop at b) (sym read ∙ e)) at inv)

    pub mapped_done : n ≡ 0 → b ≡ X
    unfolding mapped_from map_rows
    mapped_done e = sym (take-append-drop at b) ∙ (rw e at inv)

  -- row i is not empty, and holds x, which f makes y
  pub mapped_turn : (b : List ℕ) (i : ℕ) {X c : List ℕ} {x y : Session} {k : ℕ} → i < 16 → length b ≡ 4096
      → mapped_from (1536 + i * 32) (16 - i) b ≡ X → k ≡ low_number 8 (drop (1536 + i * 32) b) → (k ≡ 0 → ⊥)
      → x ≡ session_in (drop (1536 + i * 32) b) → y ≡ f x → c ≡ row_put (1536 + i * 32) y b
      → mapped_from (1536 + (i + 1) * 32) (16 - (i + 1)) c ≡ X
  unfolding mapped_from map_rows
  mapped_turn b i {y = y} h long inv read more was out put =
      let at : ℕ = 1536 + i * 32 in
      let next : 1536 + (i + 1) * 32 ≡ at + 32 = omega arith in
      let one : 16 - i ≡ suc (16 - (i + 1)) = omega arith in
      let fit : at + 32 ≤ length b = omega arith in
      rw (next, put, put_take at y b fit, put_drop at y b fit, out, was, append_assoc)
      (simp (one, ne_eqb (low_number 8 (drop at b)) 0 (λ z. more (read ∙ z)), drop-drop) at inv)

-- The search for the place of a key: what a turn of its loop does, and where what is found can stand.
use mathlib.Core.Path.{◌≡◌, sym, ◌∙◌}
use mathlib.Core.List.{List}
use Prim.Native.Nat.{ℕ, zero, suc, ◌+◌, ◌-◌, ◌*◌, ◌<◌, ◌≤◌}
use native.Mathlib.Omega.{arith}
use lib.ListN.{drop}
use lib.Seq.{drop-drop}
use borrow.Author.Tests.{eq-eqb, ne_eqb, le-ltb, lt-ltb}
use Rattle.octets.specs.Octets.{low_number}
use Rattle.octets.proofs.Cases.{by_eq, by_lt}
use Rattle.state_store.specs.StoredRows.{place_row}

-- before row i of n, the first of which stands at `start`, what is left of the search gives X, and k is the row's key
module _ (b : List ℕ) (n start i key k X : ℕ) (h : i < n)
    (inv : place_row (n - i) key (start + i * 32) (drop (start + i * 32) b) ≡ X)
    (read : k ≡ low_number 8 (drop (start + i * 32) b)) where
  abbrev rest : List ℕ
  rest = drop (start + i * 32) b

  one : n - i ≡ suc (n - (i + 1))
  one = omega arith

  pub place_end : k ≡ 0 → start + i * 32 ≡ X
  unfolding place_row
  place_end e = simp (one, eq-eqb (low_number 8 rest) 0 (sym read ∙ e)) at inv

  module _ (more : k ≡ 0 → ⊥) where
    pub place_here : key ≤ k → start + i * 32 ≡ X
    unfolding place_row
    place_here e =
        simp (one, ne_eqb (low_number 8 rest) 0 (λ z. more (read ∙ z)), le-ltb (low_number 8 rest) key (rw (← read) e)) at inv

    pub place_next : k < key → place_row (n - (i + 1)) key (start + (i + 1) * 32) (drop (start + (i + 1) * 32) b) ≡ X
    unfolding place_row
    place_next e =
        let next : start + (i + 1) * 32 ≡ start + i * 32 + 32 = omega arith in
        rw (next, ← drop-drop)
        (simp (one, ne_eqb (low_number 8 rest) 0 (λ z. more (read ∙ z)), lt-ltb (low_number 8 rest) key (rw (← read) e)) at inv)

pub place_done : (l : List ℕ) (n i key at end X : ℕ) → n ≤ i → end ≡ at → place_row (n - i) key at l ≡ X → end ≡ X
unfolding place_row
place_done l n i key at end X h e inv = let z : n - i ≡ 0 = omega arith in e ∙ (rw z at inv)

-- a place before the end of n rows has room for a row
pub place_room : (n key at : ℕ) (l : List ℕ) → place_row n key at l < at + n * 32 → place_row n key at l + 32 ≤ at + n * 32
unfolding place_row
place_room zero key at l h = absurd (omega arith)
place_room (suc n) key at l h =
    by_eq (low_number 8 l) 0
    (λ e same. simp e (omega arith))
    (λ e other.
    by_lt (low_number 8 l) key
    (λ u less.
    let w : at + 32 + n * 32 ≡ at + suc n * 32 = omega arith in
    let g : place_row n key (at + 32) (drop 32 l) < at + 32 + n * 32 = rw w (simp (e, u) at h) in
    simp (e, u) (rw w at (place_room n key (at + 32) (drop 32 l) g)))
    (λ u more. simp (e, u) (omega arith)))

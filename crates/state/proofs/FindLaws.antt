-- A search through rows, over how many there are, their width, the test and the start: what a turn of its loop does.
use mathlib.Core.Path.{◌≡◌, sym, ◌∙◌}
use mathlib.Core.Bool.{Bool, true, false}
use mathlib.Core.List.{List}
use Prim.Native.Nat.{ℕ, suc, ◌+◌, ◌-◌, ◌*◌, ◌<◌, ◌≤◌}
use native.Mathlib.Nat.{add-zero, zero-mul, add-mul, add_assoc, one-mul, sub-zero}
use native.Mathlib.Omega.{arith}
use lib.ListN.{drop}
use lib.Seq.{drop-drop}
use borrow.Author.Tests.{eq-eqb, ne_eqb}
use Rattle.octets.specs.Octets.{low_number}
use Rattle.state.specs.Rows.{find_row}

-- where the row after row i stands
pub next_row : (start width i : ℕ) → start + (i + 1) * width ≡ start + i * width + width
next_row start width i = rw (add-mul, one-mul, add_assoc)

-- before row i, what is left of the search finds what the whole search finds
pub record Search (n width : ℕ) (test : List ℕ → Bool) (start : ℕ) (b : List ℕ) (i : ℕ) : Type 0 where
  pub left : find_row (n - i) width test (start + i * width) (drop (start + i * width) b) ≡
      find_row n width test start (drop start b)

pub find_start : (n width : ℕ) (test : List ℕ → Bool) (start : ℕ) (b : List ℕ) → Search n width test start b 0
find_start n width test start b = record { left = rw (zero-mul, add-zero, sub-zero) }

module _ {n width start i : ℕ} {test : List ℕ → Bool} {b : List ℕ} (s : Search n width test start b i) where
  pub find_done : n ≤ i → 0 ≡ find_row n width test start (drop start b)
  unfolding find_row
  find_done h = let z : n - i ≡ 0 = omega arith in rw z at s.left

  -- k is the number that the first octets of row i spell
  module _ {k : ℕ} (h : i < n) (read : k ≡ low_number 8 (drop (start + i * width) b)) where
    one : n - i ≡ suc (n - (i + 1))
    one = omega arith

    pub find_end : k ≡ 0 → 0 ≡ find_row n width test start (drop start b)
    unfolding find_row
    find_end e = simp (one, eq-eqb (low_number 8 (drop (start + i * width) b)) 0 (sym read ∙ e)) at s.left

    module _ (more : k ≡ 0 → ⊥) where
      pub find_hit : test (drop (start + i * width) b) ≡ true → start + i * width ≡ find_row n width test start (drop start b)
      unfolding find_row
      find_hit e = simp (one, ne_eqb (low_number 8 (drop (start + i * width) b)) 0 (λ z. more (read ∙ z)), e) at s.left

      pub find_next : test (drop (start + i * width) b) ≡ false → Search n width test start b (i + 1)
      unfolding find_row
      find_next e = record {
        left = rw (next_row, ← drop-drop)
            (simp (one, ne_eqb (low_number 8 (drop (start + i * width) b)) 0 (λ z. more (read ∙ z)), e) at s.left);
      }

-- Rows that are counted: what a turn of the loop does, over how many there may be, their width, the reader and the test.
use mathlib.Core.Path.{◌≡◌, sym, ◌∙◌}
use mathlib.Core.Bool.{Bool, true, false, cond}
use mathlib.Core.List.{List}
use Prim.Native.Nat.{ℕ, suc, ◌+◌, ◌-◌, ◌*◌, ◌<◌, ◌≤◌}
use native.Mathlib.Nat.{add-zero, zero-add, zero-mul, add_assoc, sub-zero}
use native.Mathlib.Omega.{arith}
use lib.ListN.{drop}
use lib.Seq.{drop-drop}
use borrow.Author.Tests.{eq-eqb, ne_eqb}
use Rattle.std.specs.Int.{from_bool}
use Rattle.octets.specs.Octets.{low_number}
use Rattle.octets.specs.Lists.{count}
use Rattle.state.specs.Image.{rows_in}
use Rattle.state.proofs.FindLaws.{next_row}

-- what an answer counts
pub counts : (b : Bool) {m : ℕ} → m ≡ from_bool b → (m ≡ cond b 1 0) × (m ≤ 1)
counts true e = (e, omega arith)
counts false e = (e, omega arith)

-- before row i, n and the rows that are left to count make the whole
module _ {A : Type 0} (limit width : ℕ) (read : List ℕ → A) (passes : A → Bool) (start : ℕ) (b : List ℕ) where
  pub record Counting (n i : ℕ) : Type 0 where
    pub few : n ≤ i
    pub left : n + count passes (rows_in (limit - i) width read (drop (start + i * width) b)) ≡
        count passes (rows_in limit width read (drop start b))

  pub count_start : Counting 0 0
  count_start = record { few = omega arith; left = rw (zero-mul, add-zero, sub-zero, zero-add) }

module _ {A : Type 0} {limit width start n i : ℕ} {read : List ℕ → A} {passes : A → Bool} {b : List ℕ}
    (s : Counting limit width read passes start b n i) where
  pub count_done : limit ≤ i → n ≡ count passes (rows_in limit width read (drop start b))
  unfolding rows_in count
  count_done h = let z : limit - i ≡ 0 = omega arith in sym (add-zero n) ∙ (rw z at s.left)

  -- k is the number that the first octets of row i spell
  module _ {k : ℕ} (h : i < limit) (spelt : k ≡ low_number 8 (drop (start + i * width) b)) where
    one : limit - i ≡ suc (limit - (i + 1))
    one = omega arith

    pub count_end : k ≡ 0 → n ≡ count passes (rows_in limit width read (drop start b))
    unfolding rows_in count
    count_end e = simp (one, eq-eqb (low_number 8 (drop (start + i * width) b)) 0 (sym spelt ∙ e), add-zero) at s.left

    pub count_next : {m : ℕ} → (k ≡ 0 → ⊥) → m ≡ cond (passes (read (drop (start + i * width) b))) 1 0 → m ≤ 1
        → Counting limit width read passes start b (n + m) (i + 1)
    unfolding rows_in count
    count_next more e f = record {
      few = omega (arith, s.few);
      left = rw (next_row, ← drop-drop, e, add_assoc)
          (simp (one, ne_eqb (low_number 8 (drop (start + i * width) b)) 0 (λ z. more (spelt ∙ z))) at s.left);
    }

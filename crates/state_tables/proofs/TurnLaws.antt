-- A pass over rows, over how many there are, their width, the test, what is known of those before and what must be right at the
-- end: what a turn of its loop does.
use mathlib.Core.Path.{◌≡◌, sym, ◌∙◌}
use mathlib.Core.Bool.{Bool, true, false, ◌&&◌}
use mathlib.Core.List.{List}
use Prim.Native.Nat.{ℕ, suc, ◌+◌, ◌-◌, ◌*◌, ◌<◌, ◌≤◌}
use native.Mathlib.Nat.{zero-mul, add-mul, one-mul, sub-zero}
use native.Mathlib.Omega.{arith}
use lib.ListN.{length, drop, drop_of_length-le}
use lib.Seq.{drop-drop}
use borrow.Author.Tests.{eq-eqb, ne_eqb}
use Rattle.octets.specs.Octets.{low_number, all_zero}
use Rattle.state_tables.specs.Pass.{ok_rows}

-- where the row after row i stands
pub next_row : (width i : ℕ) (t : List ℕ) → drop ((i + 1) * width) t ≡ drop width (drop (i * width) t)
next_row width i t = rw (add-mul, one-mul, drop-drop)

-- before row i, where s is known, what is left of the pass gives what the whole pass gives
module _ {S : Type 0} where
  pub record Passing (fits : S → List ℕ → Bool) (next : S → List ℕ → S) (right : S → Bool) (width n i : ℕ) (s first : S)
      (t : List ℕ) : Type 0 where
    pub bound : i ≤ n
    pub left : ok_rows fits next right width (n - i) s (drop (i * width) t) ≡ ok_rows fits next right width n first t

  pub ok_start : (fits : S → List ℕ → Bool) (next : S → List ℕ → S) (right : S → Bool) (width n : ℕ) (s : S) (t : List ℕ)
      → Passing fits next right width n 0 s s t
  ok_start fits next right width n s t = record { bound = omega arith; left = rw (zero-mul, sub-zero) }

  module _ {fits : S → List ℕ → Bool} {next : S → List ℕ → S} {right : S → Bool} {width n i : ℕ} {s first : S} {t : List ℕ}
      (p : Passing fits next right width n i s first t) where
    pub ok_done : n ≤ i → (right s && all_zero (drop (n * width) t)) ≡ ok_rows fits next right width n first t
    unfolding ok_rows
    ok_done h =
        let none : n - i ≡ 0 = omega (arith, p.bound) in
        let all : i ≡ n = omega (arith, p.bound) in
        rw (none, all) at p.left

    -- k is the number that the first octets of row i spell
    module _ {k : ℕ} (h : i < n) (read : k ≡ low_number 8 (drop (i * width) t)) where
      one : n - i ≡ suc (n - (i + 1))
      one = omega arith

      abbrev row : List ℕ
      row = drop (i * width) t

      pub ok_end : k ≡ 0 → (right s && all_zero row) ≡ ok_rows fits next right width n first t
      unfolding ok_rows
      ok_end e = simp (one, eq-eqb (low_number 8 row) 0 (sym read ∙ e)) at p.left

      module _ (more : k ≡ 0 → ⊥) where
        pub ok_bad : fits s row ≡ false → false ≡ ok_rows fits next right width n first t
        unfolding ok_rows
        ok_bad e = simp (one, ne_eqb (low_number 8 row) 0 (λ z. more (read ∙ z)), e) at p.left

        pub ok_next : {known : S} → fits s row ≡ true → next s row ≡ known
            → Passing fits next right width n (i + 1) known first t
        unfolding ok_rows
        ok_next e f = record {
          bound = omega arith;
          left = rw (next_row, ← f) (simp (one, ne_eqb (low_number 8 row) 0 (λ z. more (read ∙ z)), e) at p.left);
        }

-- nothing stands behind the table
pub none_behind : (t : List ℕ) (at : ℕ) → length t ≤ at → all_zero (drop at t) ≡ true
unfolding all_zero
none_behind t at h = rw (drop_of_length-le t h)

-- A run of octets, or the number that it spells, and what follows it: all are zero when both are.
use mathlib.Core.Path.{◌≡◌, sym, ◌∙◌}
use mathlib.Core.Bool.{Bool, true, false, ◌&&◌}
use mathlib.Core.List.{List}
use Prim.Native.Nat.{ℕ, ◌+◌, ◌-◌, ◌≤◌}
use native.Mathlib.Omega.{arith}
use lib.ListN.{length, take, drop, length-drop}
use lib.Seq.{take_all}
use lib.Dec.{eqb}
use Rattle.octets.specs.Octets.{low_number, all_zero}
use Rattle.octets.proofs.LowLaws.{low_zero}
use Rattle.octets.proofs.Zero.{zero_parts, run_rest}
use Rattle.octets.proofs.Cases.{by_le}
use Rattle.octets.proofs.Same.{both_true}
use Rattle.state.proofs.Cuts.{take_on}

pub zero_cut : (at m n : ℕ) (l : List ℕ)
    → all_zero (take (m + n) (drop at l)) ≡ (all_zero (take m (drop at l)) && all_zero (take n (drop (at + m) l)))
zero_cut at m n l = rw (take_on, zero_parts)

-- the number that n octets at a place spell, and the m octets behind it
pub word_cut : (at n m : ℕ) (l : List ℕ)
    → all_zero (take (n + m) (drop at l)) ≡ (eqb (low_number n (drop at l)) 0 && all_zero (take m (drop (at + n) l)))
word_cut at n m l = rw (zero_cut, ← low_zero)

-- from each place from `at` to `i` on, all octets are zero when those from `at` on are
abbrev pub SameFrom : (at i : ℕ) (t : List ℕ) → Type 0
SameFrom at i t = (j : ℕ) → at ≤ j → j ≤ i → all_zero (drop j t) ≡ all_zero (drop at t)

pub same_start : (at : ℕ) (t : List ℕ) → SameFrom at at t
same_start at t j f g = let e : j ≡ at = omega arith in rw e

-- r: are the n octets from place i on zero?
module _ (t : List ℕ) (at i n : ℕ) {r : Bool} (h : at ≤ i) (same : SameFrom at i t)
    (run : r ≡ all_zero (take (i + n - i) (drop i t))) where
  known : r ≡ all_zero (take n (drop i t))
  known =
      let e : i + n - i ≡ n = omega arith in
      rw e at run

  -- of a run of zeros the first m are zeros
  front : r ≡ true → (m : ℕ) → m ≤ n → all_zero (take m (drop i t)) ≡ true
  front e m f =
      let cut : m + (n - m) ≡ n = omega arith in
      let all : all_zero (take (m + (n - m)) (drop i t)) ≡ true = rw cut (sym known ∙ e) in
      (both_true (all_zero (take m (drop i t))) (all_zero (take (n - m) (drop (i + m) t))) (rw zero_cut at all)).0

  behind : r ≡ true → (j : ℕ) → i ≤ j → j ≤ i + n → all_zero (drop j t) ≡ all_zero (drop at t)
  behind e j f g =
      let cut : i + (j - i) ≡ j = omega arith in
      let both : _ = run_rest i (j - i) t in
      sym (rw (cut, front e (j - i) (omega arith)) at both) ∙ same i h (omega arith)

  pub run_next : r ≡ true → SameFrom at (i + n) t
  run_next e j f g =
      by_le j i (λ _ le. same j f le) (λ _ lt. behind e j (omega arith) g)

  pub run_bad : r ≡ false → false ≡ all_zero (drop at t)
  run_bad e =
      let none : _ = run_rest i n t in
      sym (rw (← known, e) at none) ∙ same i h (omega arith)

-- a part up to the end of the table, and none behind it
pub rest_zero : (t : List ℕ) (at : ℕ) {r : Bool} → r ≡ all_zero (take (length t - at) (drop at t)) → r ≡ all_zero (drop at t)
rest_zero t at e = rw (take_all (length t - at) (drop at t) (omega (arith, length-drop at t))) at e

-- A table and the zeros behind it, compared at once.
use mathlib.Core.Path.{◌≡◌}
use mathlib.Core.Bool.{◌&&◌}
use mathlib.Core.List.{List, ◌++◌, append_assoc}
use Prim.Native.Nat.{ℕ, ◌+◌, ◌-◌, ◌≤◌}
use native.Mathlib.Omega.{arith}
use lib.ListN.{length, take, drop, length-append, length-drop, length-replicate, replicate-append-replicate}
use lib.Seq.{drop-drop, take-take, length-take-le}
use Rattle.octets.specs.Octets.{all_zero, same}
use Rattle.state.specs.Image.{zeros, rows, table}
use Rattle.state.proofs.Cuts.{drop_take, same_zeros}
use Rattle.state_tables.proofs.RowsLaw.{same_parts}

module _ {A : Type 0} (row : A → List ℕ) (n m : ℕ) (xs : List A) (full : length (table n row xs) ≡ n) where
  table_on : table (n + m) row xs ≡ table n row xs ++ zeros m
  unfolding table zeros
  table_on =
      let k : ℕ = length (rows row xs) in
      let few : k + (n - k) ≡ n = rw (length-append, length-replicate) at full in
      let e : n + m - k ≡ n - k + m = omega arith in
      rw (e, append_assoc, replicate-append-replicate)

  pub table_end : (at : ℕ) (l : List ℕ) → at + n + m ≤ length l
      → same (table (n + m) row xs) (take (n + m) (drop at l))
      ≡ (same (table n row xs) (take n (drop at l)) && all_zero (take m (drop (at + n) l)))
  unfolding zeros
  table_end at l long =
      let few : n + m - n ≡ m = omega arith in
      let size : length (take m (drop (at + n) l)) ≡ m
      = length-take-le m (drop (at + n) l) (omega (arith, length-drop (at + n) l)) in
      rw (
        table_on,
        same_parts,
        full,
        take-take n (n + m) (drop at l) (omega arith),
        drop_take n (n + m) (drop at l) (omega arith),
        few,
        drop-drop,
        same_zeros m (take m (drop (at + n) l)) size,
      )

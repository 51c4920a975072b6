-- A table of rows that are read from octets, each as wide as it is written, has its length.
use mathlib.Core.Path.{◌≡◌}
use mathlib.Core.List.{List}
use Prim.Native.Nat.{ℕ, zero, suc, ◌+◌, ◌*◌, ◌≤◌}
use native.Mathlib.Omega.{arith}
use native.Mathlib.Nat.{suc-mul, le_trans, mul-le-mul_right}
use lib.ListN.{length, drop, length-drop}
use lib.Seq.{length-take-le}
use Rattle.octets.specs.Octets.{low_number}
use Rattle.octets.proofs.Cases.{by_eq}
use Rattle.state.specs.Image.{port_row, flow_row, session_row, table, rows_in, port_in, flow_in, session_in}
use Rattle.state.proofs.RowLaws.{port_length, flow_length, session_length}
use Rattle.state.proofs.TableLaws.{Each, rows_few, table_length}

module _ {A : Type 0} (row : A → List ℕ) (read : List ℕ → A) (width : ℕ)
    (wide : (l : List ℕ) → width ≤ length l → length (row (read l)) ≡ width) where
  each_wide : (k : ℕ) (l : List ℕ) → k * width ≤ length l → Each (λ x. length (row x) ≡ width) (rows_in k width read l)
  unfolding rows_in
  each_wide zero l h = tt
  each_wide (suc k) l h =
      let g : k * width + width ≤ length l = rw suc-mul at h in
      let more : _ = each_wide k (drop width l) (rw length-drop (omega arith)) in
      by_eq (low_number 8 l) 0 (λ e none. simp e tt) (λ e some. simp e ((wide l (omega arith), more)))

  pub read_size : (k n : ℕ) (l : List ℕ) → k * width ≤ length l → k * width ≤ n → length (table n row (rows_in k width read l)) ≡ n
  read_size k n l h fit =
      table_length row width n (rows_in k width read l) (each_wide k l h)
      (le_trans (mul-le-mul_right width (rows_few k width read l)) fit)

pub port_wide : (l : List ℕ) → 16 ≤ length l → length (port_row (port_in l)) ≡ 16
port_wide l h = port_length (port_in l)

pub session_wide : (l : List ℕ) → 32 ≤ length l → length (session_row (session_in l)) ≡ 32
session_wide l h = session_length (session_in l)

pub flow_wide : (l : List ℕ) → 32 ≤ length l → length (flow_row (flow_in l)) ≡ 32
unfolding flow_in
flow_wide l h = flow_length (flow_in l) (length-take-le 8 (drop 8 l) (rw length-drop (omega arith)))

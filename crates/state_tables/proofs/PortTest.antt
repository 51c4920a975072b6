-- A port's row, from what the code has read of it: its test.
use mathlib.Core.Path.{◌≡◌, sym, ◌∙◌}
use mathlib.Core.Bool.{Bool, true, false, not}
use mathlib.Core.List.{List}
use Prim.Native.Nat.{ℕ, ◌^◌, ◌<◌, ◌≤◌}
use native.Mathlib.Omega.{arith}
use lib.Dec.{eqb, leb}
use lib.ListN.{get_or, drop}
use borrow.Author.Tests.{le-ltb, lt-ltb, le-leb}
use Rattle.octets.specs.Octets.{low_number}
use Rattle.octets.proofs.Cases.{by_eq}
use Rattle.octets.proofs.Laws.{Octets}
use Rattle.octets.proofs.LowLaws.{low_zero, low_fits}
use Rattle.plan.specs.declared.Port.{Port}
use Rattle.plan.specs.Plan.{good_port}
use Rattle.state.specs.Image.{port_in}
use Rattle.state_tables.specs.Pass.{port_fits}

pub not_none : (n : ℕ) → not (eqb n 0) ≡ leb 1 n
not_none n = by_eq n 0 (λ e same. rw same) (λ e other. rw (e, le-leb 1 n (omega arith)))

-- p is the port that was read
module _ (last : ℕ) (l : List ℕ) {p : Port} (read : p ≡ port_in l) where
  pub port_low : p.number ≤ last → false ≡ port_fits last l
  unfolding port_fits port_in
  port_low h = rw (le-ltb last (get_or l 7 0) (rw read at h))

  pub port_address : Octets l → p.address < 2 ^ 48
  unfolding port_in
  port_address o = rw read (low_fits 6 l o)

  module _ {good : Bool} (h : last < p.number) (tested : good ≡ good_port p) where
    pub port_bad : good ≡ false → false ≡ port_fits last l
    unfolding port_fits port_in
    port_bad e = rw (lt-ltb last (get_or l 7 0) (rw read at h), (rw read at (sym tested ∙ e)))

    pub port_rest : {k : ℕ} → good ≡ true → k ≡ low_number 8 (drop 8 l) → eqb k 0 ≡ port_fits last l
    unfolding port_fits port_in
    port_rest e z = rw (lt-ltb last (get_or l 7 0) (rw read at h), (rw read at (sym tested ∙ e)), z, low_zero)

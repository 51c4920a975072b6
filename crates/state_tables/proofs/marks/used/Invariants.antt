use mathlib.Core.Path.{◌≡◌}
use Prim.Native.Nat.{◌+◌, ◌≤◌}
use lib.Dec.{leb}
use lib.ListN.{drop}
use Rattle.octets.specs.Lists.{count}
use Rattle.state_tables.proofs.marks.used.Given as goal

abbrev pub invariant-loop-place : goal.invariant-loop-place
invariant-loop-place l = (l.n ≤ l.place-index) × (l.n + count (leb 1) (drop l.place-index l.places) ≡ count (leb 1) l.places)

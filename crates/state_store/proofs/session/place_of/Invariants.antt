use mathlib.Core.Path.{◌≡◌}
use Prim.Native.Nat.{◌+◌, ◌-◌, ◌*◌}
use lib.ListN.{drop}
use Rattle.state_store.specs.StoredRows.{place_row, place_of}
use Rattle.state_store.proofs.session.place_of.Given as goal

abbrev pub invariant-loop-i : goal.invariant-loop-i
invariant-loop-i l = place_row (16 - l.i) l.key (1536 + l.i * 32) (drop (1536 + l.i * 32) l.b) ≡ place_of l.key l.b

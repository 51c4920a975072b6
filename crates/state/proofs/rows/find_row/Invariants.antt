use mathlib.Core.Path.{◌≡◌}
use mathlib.Core.Bool.{Bool}
use mathlib.Core.List.{List}
use Prim.Native.Nat.{ℕ, ◌+◌, ◌≤◌}
use lib.ListN.{length, drop}
use Rattle.state.proofs.FindLaws.{Search}
use Rattle.state.proofs.rows.find_row.Given as goal

abbrev pub invariant-loop-i : goal.invariant-loop-i
invariant-loop-i g turn =
    (test : List ℕ → Bool)
    → ((at : ℕ) (said : Bool) → at + turn.table.width ≤ length turn.b → goal.F-post g turn.passes at said → said ≡ test (drop at turn.b))
    → Search turn.table.rows turn.table.width test turn.table.start turn.b turn.i

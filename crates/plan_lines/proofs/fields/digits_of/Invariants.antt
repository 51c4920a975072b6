use mathlib.Core.Path.{◌≡◌}
use Prim.Native.Nat.{◌≤◌}
use lib.ListN.{drop}
use Rattle.plan_lines.specs.Fields.{digits_on}
use Rattle.plan_lines.proofs.fields.digits_of.Given as goal

abbrev pub invariant-loop-x : goal.invariant-loop-x
invariant-loop-x l = (l.so ≤ l.most) × (digits_on l.most l.so (drop l.x-index l.f) ≡ digits_on l.most 0 l.f)

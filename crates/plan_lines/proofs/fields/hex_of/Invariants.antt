use mathlib.Core.Path.{◌≡◌}
use Prim.Native.Nat.{◌<◌, ◌^◌}
use lib.ListN.{drop}
use Rattle.plan_lines.specs.Fields.{hex_on}
use Rattle.plan_lines.proofs.fields.hex_of.Given as goal

abbrev pub invariant-loop-x : goal.invariant-loop-x
invariant-loop-x l = (l.so < 16 ^ l.x-index) × (hex_on l.so (drop l.x-index l.f) ≡ hex_on 0 l.f)

use mathlib.Core.Path.{◌≡◌}
use mathlib.Core.Bool.{◌&&◌}
use lib.ListN.{drop}
use Rattle.octets.specs.Lists.{every}
use Rattle.plan_lines.specs.Fields.{is_hex}
use Rattle.events.proofs.digits.all_digits.Given as goal

abbrev pub invariant-loop-x : goal.invariant-loop-x
invariant-loop-x l = (l.all && every is_hex (drop l.x-index l.f)) ≡ every is_hex l.f

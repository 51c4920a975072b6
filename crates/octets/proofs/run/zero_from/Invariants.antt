use mathlib.Core.Path.{◌≡◌}
use mathlib.Core.Bool.{◌&&◌}
use lib.Dec.{eqb}
use lib.ListN.{drop}
use Rattle.octets.specs.Octets.{all_zero}
use Rattle.octets.proofs.run.zero_from.Given as goal

abbrev pub invariant-loop-i : goal.invariant-loop-i
invariant-loop-i l = (eqb l.acc 0 && all_zero (drop l.i l.s)) ≡ all_zero (drop l.at l.s)

use mathlib.Core.Path.{◌≡◌}
use mathlib.Core.Bool.{◌&&◌}
use lib.Dec.{eqb}
use lib.ListN.{drop}
use Rattle.state_tables.specs.Pass.{ok_allowed}
use Rattle.state_tables.proofs.marks.allowed_fits.Given as goal

abbrev pub invariant-loop-i : goal.invariant-loop-i
invariant-loop-i l = (eqb l.bad 0 && ok_allowed (drop l.i l.allowed) (drop l.i l.places)) ≡ ok_allowed l.allowed l.places

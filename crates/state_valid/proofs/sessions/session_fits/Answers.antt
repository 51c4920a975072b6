use mathlib.Core.Path.{◌≡◌}
use native.Mathlib.Omega.{arith}
use lib.Dec.{eqb}
use lib.ListN.{take, drop}
use lib.Seq.{drop-drop}
use Rattle.std.proofs.lemmas.Grind.{common_steps}
use Rattle.octets.specs.Octets.{all_zero}
use Rattle.octets.proofs.LowLaws.{low_zero}
use Rattle.state_valid.specs.Sessions.{session_fits}
use Rattle.state_valid.proofs.sessions.session_fits.Goals as goal

pub returns-then-good_in : goal.returns-then-good_in
unfolding session_fits
returns-then-good_in c =
    let a : _ = c.args in
    let free : eqb c.low8-then-good_in.result 0 ≡ all_zero (take 8 (drop 24 (drop a.at a.t.now))) = rw (c.low8-then-good_in.ensures, ← drop-drop) (low_zero 8 (drop 24 (drop a.at a.t.now))) in
    grind (arith, common_steps)

pub returns-else-good_in : goal.returns-else-good_in
unfolding session_fits
returns-else-good_in c = grind (arith, common_steps)

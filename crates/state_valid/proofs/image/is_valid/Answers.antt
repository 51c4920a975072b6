use native.Mathlib.Omega.{arith}
use Rattle.std.proofs.lemmas.Grind.{common_steps}
use Rattle.state_valid.proofs.TestLaw.{test_law}
use Rattle.state_valid.proofs.image.is_valid.Goals as goal

pub returns-then-allowed_fits : goal.returns-then-allowed_fits
returns-then-allowed_fits c =
    let law : _ = test_law c.args.b.now c.fits-b c.told-b in
    grind (arith, common_steps)

pub returns-else-allowed_fits : goal.returns-else-allowed_fits
returns-else-allowed_fits c =
    let law : _ = test_law c.args.b.now c.fits-b c.told-b in
    grind (arith, common_steps)

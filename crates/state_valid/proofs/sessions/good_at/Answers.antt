use mathlib.Core.Path.{refl}
use native.Mathlib.Omega.{arith}
use Rattle.std.proofs.lemmas.Grind.{common_steps}
use Rattle.state_valid.proofs.SessionTest.{row_tag}
use Rattle.state_valid.proofs.sessions.good_at.Goals as goal

pub returns-then-faces : goal.returns-then-faces
returns-then-faces c =
    let a : _ = c.args in
    let tagged : _ = row_tag a.b.now a.row a.x.taglen a.x.tag c.low2-vid.ensures refl in
    grind (arith, common_steps)

pub returns-else-faces : goal.returns-else-faces
returns-else-faces c =
    let a : _ = c.args in
    let tagged : _ = row_tag a.b.now a.row a.x.taglen a.x.tag c.low2-vid.ensures refl in
    grind (arith, common_steps)

use native.Mathlib.Omega.{arith}
use Rattle.plan.specs.Records.{plan_of}
use Rattle.plan_reader.proofs.AddLaws.{level_fits, mp_added}
use Rattle.plan_reader.proofs.additions.with_mp.Goals as goal

pub mps_put-requires : goal.mps_put-requires
mps_put-requires c =
    let a : _ = c.args in
    omega (arith, level_fits (plan_of a.r.now) a.flow a.level c.requires.1)

pub returns : goal.returns
returns c =
    let a : _ = c.args in
    mp_added a.r.now c.requires.0 a.flow a.kind a.level c.requires.1 c.mps_put.ensures

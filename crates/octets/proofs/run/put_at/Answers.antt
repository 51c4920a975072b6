use native.Mathlib.Omega.{arith}
use Rattle.octets.proofs.Over.{part_splice}
use Rattle.octets.proofs.run.put_at.Goals as goal

pub returns : goal.returns
returns c =
    let a : _ = c.args in
    part_splice a.at a.src.now a.out.now (omega arith) c.copy_into.ensures

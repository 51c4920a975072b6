use Rattle.std.proofs.Common.{arith, refl}
use Rattle.plan_records.proofs.InsertLaws.{insert_on, insert_end}
use Rattle.plan_records.proofs.row.put.Goals as goal

pub loop-i-preserved : goal.loop-i-preserved
loop-i-preserved g c =
    record {
      end = refl;
      turn = rw c.index-rows-i.is (insert_on c.loop-i.invariant.turn c.index-rows-i.result (omega arith));
    }

pub returns : goal.returns
returns g c = insert_end c.loop-i.invariant.turn (omega arith)

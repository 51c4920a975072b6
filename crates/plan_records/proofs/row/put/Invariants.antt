use Rattle.std.proofs.Common.{◌≡◌, length}
use Rattle.plan.specs.Records.{held}
use Rattle.plan_records.specs.Insertion.{place_of}
use Rattle.plan_records.proofs.InsertLaws.{Inserting}
use Rattle.plan_records.proofs.row.put.Given as goal

abbrev pub invariant-loop-i : goal.invariant-loop-i
invariant-loop-i g l = record {
  end : l.i-end ≡ length l.fn.rows;
  turn : Inserting (length l.fn.rows) (place_of g.R.Row.key_of l.fn.key (held g.R.Row.number_of l.fn.rows)) l.fn.row l.fn.rows l.rows l.next l.i;
}

use Rattle.plan.specs.Records.{held}
use Rattle.state_maker.proofs.PlanRows.{Putting, rows_put}
use Rattle.state_maker.proofs.image.put_rows.Given as goal

abbrev pub invariant-loop-i : goal.invariant-loop-i
invariant-loop-i g l = Putting (rows_put g.R.Row.row_of l.at g.row.WIDTH) (held g.R.Row.number_of) l.list l.initial.b l.b l.i

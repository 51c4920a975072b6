use lib.Dec.{eqb}
use lib.ListN.{get_or}
use lib.Seq.{get_or-drop}
use Rattle.std.proofs.Common.{rules}
use Rattle.state.specs.Rows.{port_at}
use Rattle.state.proofs.rows.port_at.Goals as goal

pub returns : goal.returns
unfolding port_at
returns c = c.find_row.ensures (λ l. eqb (get_or l 7 0) c.args.number) (λ at said inside says. rw get_or-drop (search rules))

use mathlib.Core.Bool.{not}
use lib.Dec.{eqb}
use lib.ListN.{get_or}
use lib.Seq.{get_or-drop}
use Rattle.std.proofs.Common.{rules}
use Rattle.state.specs.Rows.{owed_at}
use Rattle.state.proofs.rows.owed_at.Goals as goal

pub returns : goal.returns
unfolding owed_at
returns c = c.find_row.ensures (λ l. not (eqb (get_or l 12 0) 0)) (λ at said inside says. rw get_or-drop (search rules))

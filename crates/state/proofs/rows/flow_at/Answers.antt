use lib.Dec.{eqb}
use lib.ListN.{drop}
use lib.Seq.{drop-drop}
use Rattle.octets.specs.Octets.{low_number}
use Rattle.plan.specs.Plan.{set_key}
use Rattle.std.proofs.Common.{rules}
use Rattle.state.specs.Rows.{flow_at}
use Rattle.state.proofs.rows.flow_at.Goals as goal

pub returns : goal.returns
unfolding flow_at
returns c =
    c.find_row.ensures (λ l. eqb (low_number 4 (drop 4 l)) (set_key c.args.port c.args.set.kind c.args.set.vid))
    (λ at said inside says. rw drop-drop (search rules))

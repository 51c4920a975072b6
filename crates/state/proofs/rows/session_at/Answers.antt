use lib.Dec.{eqb}
use Rattle.octets.specs.Octets.{low_number}
use Rattle.std.proofs.Common.{rules}
use Rattle.state.specs.Rows.{session_at}
use Rattle.state.proofs.rows.session_at.Goals as goal

pub returns : goal.returns
unfolding session_at
returns c = c.find_row.ensures (λ l. eqb (low_number 8 l) c.args.key) (λ at said inside says. search rules)

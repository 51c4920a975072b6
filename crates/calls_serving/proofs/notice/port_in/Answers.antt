use lib.Seq.{get_or-drop}
use Rattle.std.proofs.Common.{rules}
use Rattle.plan.specs.Plan.{no_flow}
use Rattle.state.specs.Image.{flow_in}
use Rattle.state.specs.Rows.{flow_of_row}
use Rattle.calls_serving.proofs.notice.port_in.Goals as goal

pub returns : goal.returns
unfolding flow_of_row flow_in no_flow
returns c = search (rules, get_or-drop)

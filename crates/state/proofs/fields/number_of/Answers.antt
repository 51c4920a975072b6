use lib.Seq.{get_or-drop}
use Rattle.std.proofs.Common.{rules}
use Rattle.state.specs.Image.{flow_in}
use Rattle.state.proofs.fields.number_of.Goals as goal

pub returns : goal.returns
unfolding flow_in
returns c = search (rules, get_or-drop)

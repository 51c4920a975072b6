use mathlib.Core.Path.{◌∙◌}
use Rattle.state.proofs.Answers.{machine_found}
use Rattle.state.proofs.Inside.{session_inside}
use Rattle.state.proofs.fields.machine_of.Goals as goal

pub machine_at-requires : goal.machine_at-requires
machine_at-requires c = session_inside _ c.told-b _ c.session_at.ensures

pub returns : goal.returns
returns c = c.machine_at.ensures ∙ machine_found _ _ c.session_at.ensures

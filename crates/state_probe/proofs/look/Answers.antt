use mathlib.Core.Path.{◌∙◌}
use Rattle.state.proofs.Inside.{flow_inside}
use Rattle.state.proofs.RowAnswers.{number_or_none}
use Rattle.state_probe.proofs.LookLaws.{look_found}
use Rattle.state_probe.proofs.look.Goals as goal

pub number_of-requires : goal.number_of-requires
number_of-requires c = flow_inside _ c.told-image _ _ c.flow_at-row.ensures

pub mp_of-requires : goal.mp_of-requires
mp_of-requires c = flow_inside _ c.told-image _ _ c.flow_at-row.ensures

pub returns : goal.returns
returns c =
    let n : _ = c.unwrap_or-number.ensures ∙ rw c.number_of.ensures (number_or_none c.args.image.now c.flow_at-row.result) in
    look_found _ _ _ _ _ _ c.requires c.flow_at-row.ensures n c.machine_at-m.ensures c.mp_of.ensures
    c.low_part.ensures.0 c.session_part.ensures.0

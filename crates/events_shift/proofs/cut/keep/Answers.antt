use Rattle.events_shift.proofs.KeptLaws.{kept_moved}
use Rattle.events_shift.proofs.cut.keep.Goals as goal

pub returns : goal.returns
returns c =
    kept_moved c.args.from c.args.upto _ c.args.buffer.now c.min-n.ensures
    c.requires.0 c.requires.1 c.move_down.ensures

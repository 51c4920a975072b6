use mathlib.Core.Path.{refl, sym}
use borrow.Author.Rules.{rules}
use Rattle.events.specs.declared.Logged.TheVariants.{Frame}
use Rattle.events_shift.specs.Step.{entered}
use Rattle.events_shift.specs.Held.{event_in, lent_to}
use Rattle.events_shift.proofs.StepLaws.{take_least, made_lent}
use Rattle.events_shift.proofs.steps.hand_in.Goals as goal

pub returns : goal.returns
unfolding entered event_in lent_to
returns c =
    let a : _ = c.args in
    rw (sym (take_least a.n _ a.frame.now c.min-end.ensures))
    (made_lent (Frame a.port a.side a.n) refl c.tmavolice_frame.ensures (search rules))

use mathlib.Core.Path.{refl}
use borrow.Author.Rules.{rules}
use Rattle.events.specs.declared.Logged.TheVariants.{Tick, Allow, Prohibit, Notice, Restart}
use Rattle.events_shift.specs.Step.{entered}
use Rattle.events_shift.specs.Held.{event_in, lent_to}
use Rattle.events_shift.proofs.StepLaws.{made_lent, made_silent}
use Rattle.events_shift.proofs.steps.make_call.Goals as goal

pub returns-in-Frame : goal.returns-in-Frame
returns-in-Frame c = rw c.in-Frame.is c.hand_in.ensures

pub returns-in-Tick : goal.returns-in-Tick
unfolding entered event_in lent_to
returns-in-Tick c =
    rw c.in-Tick.is
    (made_silent (Tick _) c.args.sent.now refl c.tmavolice_tick.ensures)

pub returns-in-Allow : goal.returns-in-Allow
unfolding entered event_in lent_to
returns-in-Allow c =
    rw c.in-Allow.is
    (made_silent (Allow _) c.args.sent.now refl c.tmavolice_allow.ensures)

pub returns-in-Prohibit : goal.returns-in-Prohibit
unfolding entered event_in lent_to
returns-in-Prohibit c =
    rw c.in-Prohibit.is
    (made_silent (Prohibit _) c.args.sent.now refl c.tmavolice_prohibit.ensures)

pub returns-in-Notice : goal.returns-in-Notice
unfolding entered event_in lent_to
returns-in-Notice c =
    rw c.in-Notice.is
    (made_lent Notice refl c.tmavolice_notice.ensures (search rules))

pub returns-in-Restart : goal.returns-in-Restart
unfolding entered event_in lent_to
returns-in-Restart c =
    rw c.in-Restart.is
    (made_silent (Restart _) c.args.sent.now refl c.tmavolice_restart.ensures)

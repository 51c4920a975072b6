use Rattle.plan_lines.proofs.Cuts.{cuts_one, cuts_two, cut_second}
use Rattle.events.proofs.LogFrames.{not_three}
use Rattle.events.proofs.lines.frame_of.Goals as goal

pub returns-then-one-rest : goal.returns-then-one-rest
returns-then-one-rest c = not_three _ _ (cuts_one _ c.end_of-one.ensures c.if-one-rest.true)

pub returns-then-two-rest : goal.returns-then-two-rest
returns-then-two-rest c =
    not_three _ _ (cuts_two _ c.end_of-one.ensures c.if-one-rest.false c.end_of-two.ensures c.if-two-rest.true)

pub returns : goal.returns
returns c =
    rw (cut_second _ c.end_of-one.ensures c.if-one-rest.false c.end_of-two.ensures c.if-two-rest.false)
    c.framed.ensures

use Rattle.plan_lines.proofs.Cuts.{cuts_one, cuts_two, cuts_three, cuts_more}
use Rattle.plan_lines.proofs.lines.three_of.Goals as goal

pub returns-then-one-s : goal.returns-then-one-s
returns-then-one-s c = cuts_one _ c.end_of-one.ensures c.if-one-s.true

pub returns-then-two-s : goal.returns-then-two-s
returns-then-two-s c =
    cuts_two _ c.end_of-one.ensures c.if-one-s.false c.end_of-two.ensures c.if-two-s.true

pub returns-then-end_of-s : goal.returns-then-end_of-s
returns-then-end_of-s c =
    cuts_more _ c.end_of-one.ensures c.if-one-s.false c.end_of-two.ensures c.if-two-s.false
    c.end_of.ensures c.if-end_of-s.true

pub returns : goal.returns
returns c =
    cuts_three _ c.end_of-one.ensures c.if-one-s.false c.end_of-two.ensures c.if-two-s.false
    c.end_of.ensures c.if-end_of-s.false

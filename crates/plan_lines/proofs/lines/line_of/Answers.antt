use Rattle.plan.specs.Line.{line_of}
use Rattle.plan_lines.proofs.Cuts.{cut_none, cut_first}
use Rattle.plan_lines.proofs.Words.{alone}
use Rattle.plan_lines.proofs.lines.line_of.Goals as goal

pub returns-then-end-line : goal.returns-then-end-line
unfolding line_of
returns-then-end-line c = rw (cut_none _ c.end_of-end.ensures c.if-end-line.true) (alone _)

pub returns : goal.returns
unfolding line_of
returns c =
    rw (cut_first _ c.end_of-end.ensures c.if-end-line.false) c.worded.ensures

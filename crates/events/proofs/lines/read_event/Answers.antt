use Rattle.plan_lines.proofs.Cuts.{cut_none, cut_first}
use Rattle.events.proofs.LogFrames.{not_read}
use Rattle.events.proofs.LogWords.{held, too_long, alone_octets}
use Rattle.events.proofs.lines.read_event.Goals as goal

pub returns-then-line-gt-LINE_ROOM : goal.returns-then-line-gt-LINE_ROOM
returns-then-line-gt-LINE_ROOM c = not_read (too_long _ c.if-line-gt-LINE_ROOM.true) _

pub returns-then-end-line : goal.returns-then-end-line
returns-then-end-line c =
    let line : _ = c.args.line.now in
    rw (held line c.if-line-gt-LINE_ROOM.false, cut_none line c.end_of-end.ensures c.if-end-line.true)
    (record { event = c.alone.ensures; octets = rw (alone_octets line) })

pub returns : goal.returns
returns c =
    rw (held _ c.if-line-gt-LINE_ROOM.false, cut_first _ c.end_of-end.ensures c.if-end-line.false)
    c.worded.ensures

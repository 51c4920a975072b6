use Rattle.state.proofs.ImageLaws.{ok_length}
use Rattle.tmavolice.proofs.FrameChecks.{frame_portless, frame_sideless, frame_short, frame_long, frame_roomless}
use Rattle.tmavolice.proofs.FrameChecks.{frame_notice, frame_passes}
use Rattle.tmavolice.proofs.refusals.frame_refusal.Goals as goal

pub returns-then-arrival-eq0 : goal.returns-then-arrival-eq0
returns-then-arrival-eq0 c =
    λ port found. frame_portless c.requires found c.if-arrival-eq0.true

pub returns-then-side : goal.returns-then-side
returns-then-side c =
    λ port found. frame_sideless c.requires found c.if-arrival-eq0.false c.if-side.true

pub returns-then-frame-lt-SHORTEST_FRAME : goal.returns-then-frame-lt-SHORTEST_FRAME
returns-then-frame-lt-SHORTEST_FRAME c =
    λ port found. frame_short c.requires found c.if-arrival-eq0.false c.if-side.false c.if-frame-lt-SHORTEST_FRAME.true

pub returns-then-frame-gt-LONGEST_FRAME : goal.returns-then-frame-gt-LONGEST_FRAME
returns-then-frame-gt-LONGEST_FRAME c =
    λ port found. frame_long c.requires found c.if-arrival-eq0.false c.if-side.false c.if-frame-lt-SHORTEST_FRAME.false c.if-frame-gt-LONGEST_FRAME.true

pub returns-then-out-lt-LEAST_OUTPUT : goal.returns-then-out-lt-LEAST_OUTPUT
returns-then-out-lt-LEAST_OUTPUT c =
    λ port found. frame_roomless c.requires found c.if-arrival-eq0.false c.if-side.false c.if-frame-lt-SHORTEST_FRAME.false c.if-frame-gt-LONGEST_FRAME.false c.if-out-lt-LEAST_OUTPUT.true

pub whole-requires : goal.whole-requires
whole-requires c = ok_length _ c.requires

pub returns-then-notice_due : goal.returns-then-notice_due
returns-then-notice_due c =
    λ port found.
    frame_notice c.requires found c.if-arrival-eq0.false c.if-side.false c.if-frame-lt-SHORTEST_FRAME.false c.if-frame-gt-LONGEST_FRAME.false c.if-out-lt-LEAST_OUTPUT.false (rw c.whole.ensures at c.notice_due.ensures)
    c.if-notice_due.true

pub returns : goal.returns
returns c =
    λ port found.
    frame_passes c.requires found c.if-arrival-eq0.false c.if-side.false c.if-frame-lt-SHORTEST_FRAME.false c.if-frame-gt-LONGEST_FRAME.false c.if-out-lt-LEAST_OUTPUT.false (rw c.whole.ensures at c.notice_due.ensures)
    c.if-notice_due.false

use Rattle.calls_serving.proofs.FrameLaws.{no_request, no_mp, at_mp}
use Rattle.calls_serving.proofs.frame.for_mp.Goals as goal

pub returns-then-faces : goal.returns-then-faces
returns-then-faces c =
    λ b k.
    at_mp k c.if-h.true c.faces.ensures c.if-faces.true
    c.addressed_to.ensures

pub returns-else-faces : goal.returns-else-faces
returns-else-faces c = λ b k. no_mp k c.if-h.true c.faces.ensures c.if-faces.false

pub returns-else-h : goal.returns-else-h
returns-else-h c = λ b k. no_request k c.if-h.false

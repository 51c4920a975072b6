use mathlib.Core.Path.{sym, ◌∙◌}
use native.Mathlib.Omega.{arith}
use Rattle.codec.specs.Request.{is_request, heading_of}
use Rattle.codec.proofs.FrameParts.{pdu_part}
use Rattle.codec.proofs.pdu.heading_of.Goals as goal

pub returns-then-is_soam : goal.returns-then-is_soam
unfolding heading_of is_request
returns-then-is_soam c = (
  rw (
    c.type_of.ensures,
    c.level_of.ensures.0,
    c.is_request.ensures,
    c.destination_of-destination.ensures.0,
    sym c.is_soam.ensures ∙ c.if-is_soam.true,
    c.requires.1,
    pdu_part c.args.taglen c.args.frame.now,
  ),
  c.level_of.ensures.1,
)

pub returns : goal.returns
unfolding heading_of
returns c =
    (rw (c.destination_of-destination.ensures.0, sym c.is_soam.ensures ∙ c.if-is_soam.false, c.requires.1), omega arith)

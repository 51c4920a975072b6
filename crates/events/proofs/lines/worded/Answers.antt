use mathlib.Core.Path.{sym, ◌∙◌}
use Rattle.octets.specs.Text.{text}
use Rattle.events.proofs.LogWords.{as_frame_lem, number_octets}
use Rattle.events.proofs.lines.worded.Goals as goal

pub returns-then-same_octets : goal.returns-then-same_octets
unfolding text
returns-then-same_octets c =
    rw (as_frame_lem _ _ (sym c.same_octets.ensures ∙ c.if-same_octets.true)) c.frame_of.ensures

pub other_of-requires : goal.other_of-requires
unfolding text
other_of-requires c = sym c.same_octets.ensures ∙ c.if-same_octets.false

pub returns : goal.returns
unfolding text
returns c =
    let a : _ = c.args in
    let n : _ = number_octets a.word.now (sym c.same_octets.ensures ∙ c.if-same_octets.false) a.rest.now in
    record { event = c.other_of.ensures; octets = rw n }

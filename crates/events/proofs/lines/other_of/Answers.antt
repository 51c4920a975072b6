use mathlib.Core.Path.{sym, ◌∙◌}
use Rattle.events.specs.Read.{logged}
use Rattle.events.proofs.Counts.{a_count, no_count}
use Rattle.events.proofs.LogWords.{with_number}
use Rattle.events.proofs.lines.other_of.Goals as goal

pub returns-in_err-n : goal.returns-in_err-n
unfolding logged
returns-in_err-n c =
    let f : _ = c.args.rest.now in
    c.from_residual.ensures
    ∙ rw (with_number c.args.word.now c.requires f, no_count f (sym c.count_of.ensures ∙ c.in_err-n.was))

pub returns : goal.returns
unfolding logged
returns c =
    let f : _ = c.args.rest.now in
    let n : _ = a_count f (sym c.count_of.ensures ∙ c.in_ok-n.was) in
    rw (with_number c.args.word.now c.requires f, n.0) (c.by_number.ensures ∙ rw n.1)

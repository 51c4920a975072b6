use mathlib.Core.Path.{sym, ◌∙◌}
use Rattle.events.proofs.Counts.{no_number, low_number_lem, high_number}
use Rattle.events.proofs.fields.count_of.Goals as goal

pub returns-in_err-n : goal.returns-in_err-n
returns-in_err-n c = c.from_residual.ensures ∙ no_number c.args.f.now (sym c.amount_of.ensures ∙ c.in_err-n.was)

pub returns-then-n-lt-TOO_HIGH : goal.returns-then-n-lt-TOO_HIGH
returns-then-n-lt-TOO_HIGH c =
    low_number_lem c.args.f.now (sym c.amount_of.ensures ∙ c.in_ok-n.was) c.if-n-lt-TOO_HIGH.true

pub returns : goal.returns
returns c = high_number c.args.f.now (sym c.amount_of.ensures ∙ c.in_ok-n.was) c.if-n-lt-TOO_HIGH.false

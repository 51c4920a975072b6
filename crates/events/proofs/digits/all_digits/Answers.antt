use mathlib.Core.Path.{sym, ◌∙◌}
use native.Mathlib.Omega.{arith}
use Rattle.events.proofs.HexDigits.{digits_turn, digits_end}
use Rattle.events.proofs.digits.all_digits.Goals as goal

pub loop-x-preserved : goal.loop-x-preserved
loop-x-preserved c =
    let l : _ = c.loop-x in
    rw c.is_digit-all.ensures (digits_turn c.args.f.now l.x-index l.all c.loop-x-test.true ∙ l.invariant)

pub returns : goal.returns
returns c =
    let l : _ = c.loop-x in
    sym (digits_end c.args.f.now l.x-index l.all (omega arith)) ∙ l.invariant

use mathlib.Core.Path.{◌∙◌}
use native.Mathlib.Omega.{arith}
use Rattle.octets.proofs.Laws.{number_parts}
use Rattle.octets.proofs.number.number6.Goals as goal

pub returns : goal.returns
returns c =
    let a : _ = c.args in
    let low : _ = c.from.ensures ∙ c.number4.ensures in
    (number_parts 2 4 a.at a.s.now c.number2.ensures.0 low, omega arith)

use mathlib.Core.Path.{◌∙◌}
use native.Mathlib.Omega.{arith}
use Rattle.octets.proofs.LowLaws.{low_parts}
use Rattle.octets.proofs.low.low6.Goals as goal

pub returns : goal.returns
returns c =
    let a : _ = c.args in
    let one : _ = c.from.ensures ∙ c.low4.ensures in
    let two : _ = c.from-2.ensures ∙ c.low2.ensures in
    (low_parts 4 2 a.at a.s.now one two, omega arith)

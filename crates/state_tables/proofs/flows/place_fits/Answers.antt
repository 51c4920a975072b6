use borrow.Author.Tests.{le-leb}
use Rattle.std.proofs.lemmas.Grind.{common_steps}
use Rattle.octets.specs.Lists.{within}
use Rattle.state_tables.specs.Pass.{place_fits}
use Rattle.state_tables.proofs.flows.place_fits.Goals as goal
use native.Mathlib.Omega.{arith}

pub returns-then-number-le-LAST_FLOW : goal.returns-then-number-le-LAST_FLOW
unfolding place_fits within
returns-then-number-le-LAST_FLOW c =
    let h : _ = c.if-number-le-LAST_FLOW.true in
    rw (h.0, le-leb _ _ h.1, le-leb _ _ h.2, c.wide.ensures.0)

pub returns-else-number-le-LAST_FLOW : goal.returns-else-number-le-LAST_FLOW
unfolding place_fits within
returns-else-number-le-LAST_FLOW c = grind (arith, common_steps)

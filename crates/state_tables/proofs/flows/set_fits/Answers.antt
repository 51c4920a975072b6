use Prim.Native.Nat.{◌+◌, ◌*◌}
use native.Mathlib.Omega.{arith}
use borrow.Author.Tests.{le-leb, ne_eqb}
use Rattle.std.proofs.lemmas.Grind.{common_steps}
use Rattle.octets.specs.Lists.{within}
use Rattle.state_tables.specs.Pass.{set_fits}
use Rattle.state_tables.proofs.flows.set_fits.Goals as goal

pub returns-then-set-eq65536 : goal.returns-then-set-eq65536
unfolding set_fits
returns-then-set-eq65536 c = rw (ne_eqb _ _ c.if-kind-ne0.true, c.if-set-eq65536.true)

pub returns-then-base-set : goal.returns-then-base-set
unfolding set_fits within
returns-then-base-set c =
    let a : _ = c.args in
    simp (
      c.from.ensures,
      ne_eqb _ _ c.if-kind-ne0.true,
      ne_eqb _ _ c.if-set-eq65536.false,
      le-leb ((a.kind + 1) * 65536 + 1) a.set (omega arith),
    )

pub returns-else-base-set : goal.returns-else-base-set
unfolding set_fits within
returns-else-base-set c = grind (arith, common_steps)

pub returns-else-kind-ne0 : goal.returns-else-kind-ne0
unfolding set_fits
returns-else-kind-ne0 c = rw c.if-kind-ne0.false

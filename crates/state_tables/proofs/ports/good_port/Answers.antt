use mathlib.Core.Bool.{and-true}
use native.Mathlib.Omega.{arith}
use Prim.Native.Nat.{◌^◌}
use borrow.Author.Tests.{lt-ltb, le-leb}
use Rattle.std.proofs.lemmas.Grind.{common_steps}
use Rattle.octets.specs.Lists.{within}
use Rattle.plan.specs.Plan.{good_port}
use Rattle.state_tables.proofs.ports.good_port.Goals as goal

pub returns-then-p-le2 : goal.returns-then-p-le2
unfolding good_port within
returns-then-p-le2 c =
    let h : _ = c.if-p-le2.true in
    simp (
      c.good_address.ensures,
      le-leb _ _ h.0,
      le-leb _ _ h.1,
      le-leb _ _ h.2,
      le-leb _ _ h.3,
      lt-ltb c.args.p.address (2 ^ 48) c.requires,
      and-true,
    )

pub returns-else-p-le2 : goal.returns-else-p-le2
unfolding good_port within
returns-else-p-le2 c = grind (arith, common_steps)

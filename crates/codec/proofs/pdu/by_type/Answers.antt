use borrow.Author.Tests.{ne_eqb}
use Rattle.codec.specs.Request.{by_type}
use Rattle.codec.proofs.pdu.by_type.Goals as goal

pub returns-in-1 : goal.returns-in-1
unfolding by_type
returns-in-1 c = rw c.in-1.is

pub returns-in-2 : goal.returns-in-2
unfolding by_type
returns-in-2 c = rw c.in-2.is

pub returns-in-3 : goal.returns-in-3
unfolding by_type
returns-in-3 c = rw c.in-3.is

pub returns-in-0 : goal.returns-in-0
unfolding by_type
returns-in-0 c = rw c.in-0.in-0-own.keys4

pub returns-in-0-2 : goal.returns-in-0-2
unfolding by_type
returns-in-0-2 c =
    simp (
      ne_eqb _ _ c.in-0.in-0-own.rest.0.0.0.1,
      ne_eqb _ _ c.in-0.in-0-own.rest.0.0.1,
      ne_eqb _ _ c.in-0.in-0-own.rest.0.1,
    )

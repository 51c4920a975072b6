use mathlib.Core.Path.{◌≡◌, sym, ◌∙◌}
use lib.ListN.{drop}
use native.Mathlib.Omega.{arith}
use Rattle.std.specs.Prelude.{Some, None}
use Rattle.plan_lines.specs.CappedLine.{first_in}
use Rattle.plan_lines.proofs.Parts.{behind, end_found, end_none}
use Rattle.plan_lines.proofs.fields.end_of.Goals as goal

pub overflow_add-result : goal.overflow_add-result
overflow_add-result c =
    let a : _ = c.args in
    let e : first_in a.by (drop a.from a.s.now) ≡ Some c.in-Some.n = rw (behind a.from a.s.now) at (sym c.first_of.ensures ∙ c.in-Some.is) in
    omega (arith, (end_found a.by a.s.now a.from c.requires e).1.1)

pub returns-in-Some : goal.returns-in-Some
returns-in-Some c =
    let a : _ = c.args in
    let e : first_in a.by (drop a.from a.s.now) ≡ Some c.in-Some.n = rw (behind a.from a.s.now) at (sym c.first_of.ensures ∙ c.in-Some.is) in
    end_found a.by a.s.now a.from c.requires e

pub returns-in-None : goal.returns-in-None
returns-in-None c =
    let a : _ = c.args in
    let e : first_in a.by (drop a.from a.s.now) ≡ None = rw (behind a.from a.s.now) at (sym c.first_of.ensures ∙ c.in-None.is) in
    end_none a.by a.s.now a.from c.requires e

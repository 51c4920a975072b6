use mathlib.Core.Path.{refl, sym, ap, ◌∙◌}
use Prim.Native.Nat.{◌+◌, ◌*◌, ◌≤◌}
use native.Mathlib.Nat.{mul-le-mul_right}
use native.Mathlib.Omega.{arith}
use borrow.Author.Rules.{rules}
use lib.ListN.{length}
use Rattle.plan.proofs.HeldLaws.{held_rows}
use Rattle.state_maker.proofs.PlanRows.{from_start, no_row, row_next, put_stop, put_done}
use Rattle.state_maker.proofs.image.put_rows.Goals as goal

pub loop-i-init : goal.loop-i-init
loop-i-init g c = record { long = search rules; left = refl }

pub returns-then-number-eq0 : goal.returns-then-number-eq0
returns-then-number-eq0 g c =
    let k : _ = g.R.Row in
    put_stop (held_rows k.number_of) c.loop-i.invariant c.index-list-i.result (search rules)
    (no_row k.row_of c.args.at g.row.WIDTH) (ap k.number_of (sym c.index-list-i.is) ∙ sym c.number.ensures ∙ c.if-number-eq0.true)
    ∙ from_start k.row_of c.args.at g.row.WIDTH _ _

pub loop-i-preserved : goal.loop-i-preserved
loop-i-preserved g c =
    let k : _ = g.R.Row in
    let fit : (c.loop-i.i + 1) * g.row.WIDTH ≤ length c.args.list.now * g.row.WIDTH
    = mul-le-mul_right g.row.WIDTH (omega arith) in
    row_next k.row_of c.args.at g.row.WIDTH (held_rows k.number_of) c.loop-i.invariant c.index-list-i.result (search rules)
    (λ z. c.if-number-eq0.false (c.number.ensures ∙ ap k.number_of c.index-list-i.is ∙ z))
    (c.octets-w.ensures ∙ ap k.row_of c.index-list-i.is) (search rules) c.put_at.ensures
    (omega (arith, fit, c.requires.1))

pub returns : goal.returns
returns g c =
    put_done (held_rows g.R.Row.number_of) c.loop-i.invariant (no_row g.R.Row.row_of c.args.at g.row.WIDTH) (search rules)
    ∙ from_start g.R.Row.row_of c.args.at g.row.WIDTH _ _

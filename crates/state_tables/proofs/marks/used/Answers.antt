use mathlib.Core.Path.{sym, ◌∙◌}
use native.Mathlib.Nat.{zero-add, add_assoc}
use native.Mathlib.Omega.{arith}
use lib.Dec.{leb}
use Rattle.plan.proofs.HeldLaws.{count_turn}
use Rattle.state_tables.proofs.MarkTurns.{count_end}
use Rattle.state_tables.proofs.marks.used.Goals as goal

pub loop-place-init : goal.loop-place-init
loop-place-init c = (omega arith, rw zero-add)

pub loop-place-preserved : goal.loop-place-preserved
loop-place-preserved c =
    let p : _ = c.args.places.now in
    let l : _ = c.loop-place in
    (omega (arith, c.mark.ensures.1), rw (c.from-n.ensures, c.mark.ensures.0, add_assoc, ← count_turn (leb 1) p l.place-index 0 (omega arith)) l.invariant.1)

pub returns : goal.returns
returns c =
    let l : _ = c.loop-place in
    sym (count_end (leb 1) c.args.places.now l.place-index l.n (omega arith)) ∙ l.invariant.1

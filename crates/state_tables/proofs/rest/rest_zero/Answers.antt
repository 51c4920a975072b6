use mathlib.Core.Path.{sym, ◌∙◌}
use Prim.Native.Nat.{◌-◌}
use native.Mathlib.Omega.{arith}
use lib.ListN.{length}
use Rattle.state_tables.proofs.TurnLaws.{none_behind}
use Rattle.state_tables.proofs.ZeroLaws.{same_start, run_next, run_bad, rest_zero}
use Rattle.state_tables.proofs.rest.rest_zero.Goals as goal

pub loop-i-init : goal.loop-i-init
loop-i-init c = (omega arith, (omega arith, same_start c.args.at c.args.t.now))

pub loop-i-preserved : goal.loop-i-preserved
loop-i-preserved c =
    let l : _ = c.loop-i in
    let a : _ = c.args in (
      omega arith,
      (omega arith, run_next a.t.now a.at l.i a.run l.invariant.0 l.invariant.1.1 c.all_zero.ensures c.if-not-all_zero.false),
    )

pub returns-then-not-all_zero : goal.returns-then-not-all_zero
returns-then-not-all_zero c =
    let l : _ = c.loop-i in
    let a : _ = c.args in
    run_bad a.t.now a.at l.i a.run l.invariant.0 l.invariant.1.1 c.all_zero.ensures c.if-not-all_zero.true

pub returns-then-i-t : goal.returns-then-i-t
returns-then-i-t c =
    let l : _ = c.loop-i in
    sym (none_behind c.args.t.now l.i (omega arith)) ∙ l.invariant.1.1 l.i l.invariant.0 (omega arith)

pub returns-then-at-run : goal.returns-then-at-run
returns-then-at-run c =
    let l : _ = c.loop-i in
    let a : _ = c.args in
    let last : _ = length a.t.now - a.run in
    rest_zero a.t.now last c.all_zero-then-at-run.ensures ∙ l.invariant.1.1 last (omega arith) (omega arith)

pub returns : goal.returns
returns c =
    let a : _ = c.args in
    rest_zero a.t.now a.at c.all_zero-2.ensures

pub all_zero-requires : goal.all_zero-requires
all_zero-requires c = tt

pub all_zero-requires-then-at-run : goal.all_zero-requires-then-at-run
all_zero-requires-then-at-run c = tt

pub all_zero-requires-2 : goal.all_zero-requires-2
all_zero-requires-2 c = tt

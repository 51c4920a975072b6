use mathlib.Core.Path.{sym, ap, ◌∙◌}
use Prim.Native.Nat.{◌<◌}
use native.Mathlib.Omega.{arith}
use lib.ListN.{length}
use borrow.Author.Tests.{lt-ltb, le-ltb}
use Rattle.std.specs.Prelude.{Ok, Err}
use Rattle.plan.specs.PlanText.{finished, plan_in}
use Rattle.plan.specs.Records.{plan_of}
use Rattle.plan_reader.specs.ReadPlan.{read_as, reason_numbered}
use Rattle.plan_reader.proofs.ReadLaws.{none_read, all_read, cut_off, line_faulty, line_good}
use Rattle.plan_reader.proofs.text.read_plan.Goals as goal

pub returns-then-text-gt-LONGEST_TEXT : goal.returns-then-text-gt-LONGEST_TEXT
unfolding plan_in read_as reason_numbered
returns-then-text-gt-LONGEST_TEXT c = rw (lt-ltb _ _ c.if-text-gt-LONGEST_TEXT.true) (ap Err c.at.ensures)

pub loop-at-init : goal.loop-at-init
loop-at-init c = (omega arith, omega arith, none_read _ _ c.no_records-records.ensures)

pub returns-then-end-text : goal.returns-then-end-text
unfolding plan_in read_as reason_numbered
returns-then-end-text c =
    let l : _ = c.loop-at in
    let e : _ = c.end_of-end in
    rw (le-ltb _ _ c.if-text-gt-LONGEST_TEXT.false)
    (ap Err c.at-then-end-text.ensures
    ∙ ap read_as
    (cut_off c.args.text.now l.at e.result l.n l.records l.invariant.2 e.ensures.0
    e.ensures.1.0 c.loop-at-test.true c.if-end-text.true))

pub returns-in-Err : goal.returns-in-Err
unfolding plan_in
returns-in-Err c =
    let l : _ = c.loop-at in
    let e : _ = c.end_of-end in
    rw (le-ltb _ _ c.if-text-gt-LONGEST_TEXT.false)
    (ap Err c.at-in-Err.ensures
    ∙ line_faulty c.args.text.now l.at e.result l.n l.records l.invariant.2 e.ensures.0
    e.ensures.1.0 (omega (arith, e.ensures.1.1, c.if-end-text.false)) (sym c.in-Err.is ∙ c.read_line.ensures.reason))

pub loop-at-preserved : goal.loop-at-preserved
loop-at-preserved c =
    let l : _ = c.loop-at in
    let t : _ = c.args.text.now in
    let e : _ = c.end_of-end in
    let h : e.result < length t = omega (arith, e.ensures.1.1, c.if-end-text.false) in (
      omega arith,
      omega (arith, l.invariant.1, e.ensures.1.0),
      line_good t l.at e.result l.n l.records l.invariant.2 e.ensures.0 e.ensures.1.0 h
          (sym c.in_default.is ∙ c.read_line.ensures.reason) (rw c.in_default.is at c.read_line.ensures.records),
    )

pub returns-then-none_held : goal.returns-then-none_held
unfolding plan_in finished read_as reason_numbered plan_of
returns-then-none_held c =
    let f : _ = rw (sym c.none_held.ensures ∙ c.if-none_held.true) at (all_read c.loop-at.invariant.2 (omega arith)) in
    rw (le-ltb _ _ c.if-text-gt-LONGEST_TEXT.false) (ap Err c.at-then-none_held.ensures ∙ ap read_as f)

pub returns : goal.returns
unfolding plan_in finished read_as plan_of
returns c =
    let f : _ = rw (sym c.none_held.ensures ∙ c.if-none_held.false) at (all_read c.loop-at.invariant.2 (omega arith)) in
    rw (le-ltb _ _ c.if-text-gt-LONGEST_TEXT.false) (ap Ok c.loop-at.invariant.2.value ∙ ap read_as f)

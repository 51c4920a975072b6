use mathlib.Core.Path.{◌≡◌, sym, ap, ◌∙◌}
use Rattle.std.proofs.Common.{rules}
use Rattle.plan.specs.Line.{line_of}
use Rattle.plan.specs.PlanText.{reason_of}
use Rattle.plan.specs.Records.{plan_of, by_value}
use Rattle.plan_reader.specs.ReadPlan.{judged, reason_numbered}
use Rattle.plan_reader.proofs.CapLaws.{unsaid, said_reason_lem, said_added_lem}
use Rattle.plan_reader.proofs.ReasonLaws.{judged_good}
use Rattle.plan_reader.proofs.text.read_line.Goals as goal

pub returns-in_default-clause-reason : goal.returns-in_default-clause-reason
unfolding judged reason_numbered
returns-in_default-clause-reason c =
    let a : _ = c.args in
    rw (unsaid (plan_of a.r.now) (line_of a.line.now) (sym c.in_default.is ∙ c.line_of.ensures))

pub returns-in_err-reason_of-clause-reason : goal.returns-in_err-reason_of-clause-reason
returns-in_err-reason_of-clause-reason c =
    let a : _ = c.args in
    let e : c.from_residual.result ≡ c.reason_of.result = search rules in
    e ∙ c.reason_of.ensures
    ∙ ap judged (said_reason_lem (plan_of a.r.now) (line_of a.line.now) (sym c.in-Some.is ∙ c.line_of.ensures))

pub with_line-requires : goal.with_line-requires
with_line-requires c =
    (c.requires.0, c.requires.1, judged_good _ (sym c.in_ok-reason_of.was ∙ c.reason_of.ensures))

pub returns-clause-reason : goal.returns-clause-reason
returns-clause-reason c =
    let a : _ = c.args in
    sym c.in_ok-reason_of.was ∙ c.reason_of.ensures
    ∙ ap judged (said_reason_lem (plan_of a.r.now) (line_of a.line.now) (sym c.in-Some.is ∙ c.line_of.ensures))

pub returns-clause-records : goal.returns-clause-records
returns-clause-records c =
    let a : _ = c.args in
    let s : _ = sym c.in-Some.is ∙ c.line_of.ensures in
    let none : reason_of (plan_of a.r.now) (line_of a.line.now) ≡ 0
    = sym (said_reason_lem (plan_of a.r.now) (line_of a.line.now) s) ∙ judged_good _ (sym c.in_ok-reason_of.was ∙ c.reason_of.ensures) in
    c.with_line.ensures ∙ ap by_value (said_added_lem (plan_of a.r.now) (line_of a.line.now) s none)

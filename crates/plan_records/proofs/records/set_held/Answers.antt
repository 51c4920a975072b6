use Rattle.std.proofs.Common.{rules, Bool, eqb, ◌∙◌}
use borrow.Author.Tests.{tests}
use Rattle.std.proofs.lemmas.Iterator.{YieldsList-from_slice}
use Rattle.std.proofs.lemmas.Iterator.Search.{any_from_yields_List}
use Rattle.plan.specs.declared.Flow.{Flow}
use Rattle.plan.specs.Plan.{flow_key}
use Rattle.plan_records.proofs.SeekLaws.{there_any}
use Rattle.plan_records.proofs.records.set_held.Goals as goal

pub returns : goal.returns
returns c =
    let test : Flow → Bool = λ f. eqb (flow_key f) c.args.key in
    any_from_yields_List test _ _ _ c.any.ensures.ran (YieldsList-from_slice c.held.result.now cc) (λ x b q k. search (rules, tests))
    ∙ rw c.held.ensures (there_any test _)

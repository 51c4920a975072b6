use Rattle.std.proofs.Common.{rules, eqb, ◌∙◌, Bool}
use Rattle.plan.specs.declared.Port.{Port}
use borrow.Author.Tests.{tests}
use Rattle.std.proofs.lemmas.Iterator.{YieldsList-from_slice}
use Rattle.std.proofs.lemmas.Iterator.Search.{any_from_yields_List}
use Rattle.plan_records.proofs.SeekLaws.{some_any}
use Rattle.plan_records.proofs.records.address_held.Goals as goal

pub returns : goal.returns
returns c =
    let test : Port → Bool = λ p. eqb p.address c.args.address in
    any_from_yields_List test _ _ _ c.any.ensures.ran (YieldsList-from_slice c.held.result.now cc) (λ x b q k. search (rules, tests))
    ∙ rw c.held.ensures (some_any test _)

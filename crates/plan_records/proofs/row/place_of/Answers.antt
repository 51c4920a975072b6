use Rattle.std.proofs.Common.{rules, Bool, leb, ◌∙◌}
use borrow.Author.Tests.{tests}
use Rattle.std.proofs.lemmas.Iterator.{YieldsList-from_slice}
use Rattle.std.proofs.lemmas.Iterator.Search.{position_from_yields_List}
use Rattle.plan_records.proofs.SeekLaws.{first_place, place_front}
use Rattle.plan_records.proofs.row.place_of.Goals as goal

pub returns : goal.returns
returns g c =
    let l : _ = c.held-used.result.now in
    let test : _ → Bool = λ r. leb c.args.key (g.R.Row.key_of r) in
    let e : _ = position_from_yields_List test _ _ c.position.result c.position.ensures.ran (YieldsList-from_slice l cc) (λ x b q k. search (rules, tests)) in
    c.unwrap_or.ensures ∙ first_place test l e ∙ rw c.held-used.ensures (place_front g.R.Row.key_of c.args.key _)

use Rattle.std.proofs.Common.{rules, Bool, eqb}
use borrow.Author.Tests.{tests}
use Rattle.std.proofs.lemmas.Iterator.{YieldsList-from_slice}
use Rattle.std.proofs.lemmas.Iterator.Search.{position_from_yields_List}
use Rattle.plan_records.proofs.SeekLaws.{first_place, held_front}
use Rattle.plan_records.proofs.row.held.Goals as goal

pub returns : goal.returns
returns g c =
    let l : _ = c.args.rows.now in
    let test : _ → Bool = λ r. eqb (g.R.Row.number_of r) 0 in
    let e : _ = position_from_yields_List test _ _ c.position.result c.position.ensures.ran (YieldsList-from_slice l cc) (λ x b q k. search (rules, tests)) in
    rw (c.unwrap_or-end.ensures, first_place test l e) (held_front g.R.Row.number_of l)

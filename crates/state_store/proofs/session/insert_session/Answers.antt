use native.Mathlib.Omega.{arith}
use Rattle.state_store.proofs.Ways.{inserted_none, inserted_fits, inserted_there}
use borrow.Author.Rules.{rules}
use Rattle.state_store.proofs.session.insert_session.Goals as goal

pub returns-then-at-ge-SESSIONS_END : goal.returns-then-at-ge-SESSIONS_END
returns-then-at-ge-SESSIONS_END c = search (inserted_none, arith)

pub move_up-requires : goal.move_up-requires
move_up-requires c =
    (inserted_fits _ _ _ _ c.key_of.ensures c.place_of-at.ensures c.if-at-ge-SESSIONS_END.false, search rules)

pub returns : goal.returns
returns c =
    inserted_there _ _ _ _ c.key_of.ensures c.place_of-at.ensures c.if-at-ge-SESSIONS_END.false c.move_up.ensures
    c.write_session.ensures

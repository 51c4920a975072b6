use mathlib.Core.Path.{refl, sym, ◌∙◌}
use native.Mathlib.Omega.{arith}
use Rattle.state.proofs.Inside.{session_fits_lem}
use Rattle.state.proofs.RowFound.{found_none, found_some, found_there}
use Rattle.state_store.proofs.Ways.{put_new, put_there}
use Rattle.state_store.proofs.session.put_session.Goals as goal

pub returns-in-None : goal.returns-in-None
returns-in-None c =
    let e : _ = found_none (sym c.in-None.is ∙ c.requires.1) in
    put_new 0 _ _ e refl c.insert_session.ensures

pub write_rest-requires : goal.write_rest-requires
write_rest-requires c =
    let p : _ = c.requires in
    omega (arith, p.0, session_fits_lem _ _ (found_some (sym c.in-Some.is ∙ p.1)))

pub returns-in-Some : goal.returns-in-Some
returns-in-Some c =
    let e : _ = sym c.in-Some.is ∙ c.requires.1 in
    put_there _ _ _ (found_some e) c.fits-b c.told-b (found_there _ e)
    c.write_rest.ensures

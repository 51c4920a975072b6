use mathlib.Core.Path.{refl, sym, ap, ◌∙◌}
use Prim.Native.Nat.{◌≤◌}
use native.Mathlib.Omega.{arith}
use Rattle.state.specs.Rows.{row_found}
use Rattle.state.proofs.Inside.{owed_fits as row_fits}
use Rattle.state.proofs.RowFound.{found_some, found_there, if_found}
use Rattle.calls.proofs.Fits.{notice_length}
use Rattle.calls_serving.proofs.OwedLaws.{owed_some, owed_fits, owed_is, owed_at_lem}
use Rattle.calls_serving.proofs.NoticeLaws.{notice_taken}
use Rattle.calls_serving.proofs.notice.take_notice.Goals as goal

pub unwrap-at-requires : goal.unwrap-at-requires
unwrap-at-requires c = owed_some c.requires c.owed_at-row.ensures

pub read_session-x-requires : goal.read_session-x-requires
read_session-x-requires c =
    omega (arith, row_fits _ (found_some (sym c.unwrap-at.ensures ∙ c.owed_at-row.ensures)), c.requires.long)

pub put_notice-n-requires : goal.put_notice-n-requires
put_notice-n-requires c =
    let k : _ = c.requires in
    let e : _ = sym c.unwrap-at.ensures ∙ c.owed_at-row.ensures in
    let f : _ = owed_fits k (owed_is k (found_some e) (found_there _ e) c.read_session-x.ensures.0) in
    (f.level_fits, (f.count_fits, (f.tag_fits, k.room)))

pub remove_session-requires : goal.remove_session-requires
remove_session-requires c =
    if_found (λ at. at ≤ 2016) c.owed_at-row.ensures (omega (arith, row_fits c.args.b.now refl))

pub overflow_cast-result : goal.overflow_cast-result
overflow_cast-result c =
    let k : _ = c.requires in
    let e : _ = sym c.unwrap-at.ensures ∙ c.owed_at-row.ensures in
    let f : _ = owed_fits k (owed_is k (found_some e) (found_there _ e) c.read_session-x.ensures.0) in
    omega (arith, c.put_notice-n.ensures.0, notice_length c.port_of-port.result c.read_session-x.result, f.count_fits)

pub returns : goal.returns
returns c =
    let k : _ = c.requires in
    let e : _ = sym c.unwrap-at.ensures ∙ c.owed_at-row.ensures in
    let x : _ = c.read_session-x.ensures.0 in
    let same : _ = sym (found_some e) ∙ owed_at_lem k (found_some e) (found_there _ e) x in
    notice_taken _ k.ok (owed_is k (found_some e) (found_there _ e) x) c.port_of-port.ensures c.put_notice-n.ensures
    (c.owed_at-row.ensures ∙ ap row_found same) c.remove_session.ensures

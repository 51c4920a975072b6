use mathlib.Core.Path.{◌∙◌}
use Rattle.codec.specs.declared.Read.{Read}
use Rattle.codec.specs.FrameSet.{pdu_of}
use Rattle.codec.specs.Request.{copied}
use Rattle.codec.proofs.Said.{count_right}
use Rattle.state.proofs.Answers.{machine_found}
use Rattle.state.proofs.Inside.{session_inside}
use Rattle.calls_requests.proofs.Arrivals.{kind_is, key_is, read_is}
use Rattle.calls_requests.proofs.Decisions.{own_right, change_placed, decision_replied}
use Rattle.calls_requests.proofs.Ways.{reply_room, answers_served}
use borrow.Author.Rules.{rules}
use Rattle.calls_requests.proofs.request.answers.Goals as goal

pub read_behind-read-requires : goal.read_behind-read-requires
read_behind-read-requires c =
    (c.requires.allowed.1.0, kind_is c.requires.known.0 c.requires.allowed.1.1)

pub key-own-requires : goal.key-own-requires
key-own-requires c = c.requires.known.0.source_fits

pub machine_at-m-requires : goal.machine_at-m-requires
machine_at-m-requires c =
    session_inside _ c.requires.known.0.long _ c.session_at-row.ensures

pub decides-d-requires : goal.decides-d-requires
decides-d-requires c =
    let k = c.requires.known.0 in
    record {
      known = k;
      allowed = (
        c.requires.allowed.0,
        (
          own_right _ _ (c.key-own.ensures ∙ key_is k) (c.machine_at-m.ensures ∙ machine_found _ _ c.session_at-row.ensures),
          c.requires.allowed.1.1,
        ),
      );
    }

pub change_session-requires : goal.change_session-requires
change_session-requires c =
    let k = c.requires.known.0 in
    record {
      valid = (k.ok, c.session_at-row.ensures);
      placed =
          change_placed k c.requires.allowed.1.1 c.read_behind-read.result.request c.decides-d.ensures
          (c.key-own.ensures ∙ key_is k) c.session_at-row.ensures;
    }

pub reply-requires : goal.reply-requires
reply-requires c =
    let k : _ = c.requires.known.0 in
    let read : _ = read_is k _ c.read_behind-read.ensures in
    record {
      taglen_bound = (k.tag_few, (k.tag_whole, k.level_fits));
      in_bounds = (
        search rules,
        (reply_room c.args.b.now c.args.a _ _ read k.tag_few k.tag_whole k.frame_fits, count_right _ _ _ read),
      );
    }

pub returns : goal.returns
returns c =
    let a : _ = c.args in
    let k : _ = c.requires.known.0 in
    let read : Read = c.read_behind-read.result in
    answers_served a.b.now a.a a.frame.now a.whom (read_is k _ c.read_behind-read.ensures) c.decides-d.ensures
    (decision_replied k c.requires.allowed.1.1 read.request c.decides-d.ensures a.whom c.goes_on.result c.status_after.result
    (copied read.copies (pdu_of a.a.taglen a.frame.now)) c.goes_on.ensures (c.key-own.ensures ∙ key_is k)
    (c.machine_at-m.ensures ∙ machine_found _ _ c.session_at-row.ensures) c.change_session.ensures c.status_after.ensures
    c.reply.ensures)

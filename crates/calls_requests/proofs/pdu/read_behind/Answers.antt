use borrow.Author.Rules.{rules}
use Rattle.codec.proofs.FrameParts.{pdu_part}
use Rattle.calls_requests.proofs.pdu.read_behind.Goals as goal

pub read_request-requires : goal.read_request-requires
read_request-requires c =
    (search rules, rw (pdu_part c.args.taglen c.args.frame.now) c.requires.1)

pub returns : goal.returns
returns c =
    let a : _ = c.args in
    rw (← pdu_part a.taglen a.frame.now) c.read_request.ensures

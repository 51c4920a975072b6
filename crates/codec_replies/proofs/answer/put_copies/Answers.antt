use Rattle.codec_replies.proofs.Parts.{none_copied, some_copied}
use Rattle.codec_replies.proofs.answer.put_copies.Goals as goal

pub returns-then-count-eq0 : goal.returns-then-count-eq0
returns-then-count-eq0 c =
    let a : _ = c.args in
    none_copied a.count a.request.now a.out.now c.if-count-eq0.true

pub copy_unknown-requires : goal.copy_unknown-requires
copy_unknown-requires c =
    let a : _ = c.args in
    rw (← some_copied a.count a.request.now c.if-count-eq0.false c.first_tlv.ensures.0) c.requires

pub returns : goal.returns
returns c =
    let a : _ = c.args in
    rw (some_copied a.count a.request.now c.if-count-eq0.false c.first_tlv.ensures.0) c.copy_unknown.ensures

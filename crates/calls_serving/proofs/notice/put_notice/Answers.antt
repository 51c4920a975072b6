use Rattle.calls_serving.proofs.NoticeLaws.{notice_written}
use Rattle.calls_serving.proofs.notice.put_notice.Goals as goal

pub returns : goal.returns
returns c =
    let a : _ = c.args in
    notice_written a.port a.x a.out.now c.requires c.octets4-tag.ensures c.wide-start.ensures.0
    c.put_head-n.ensures c.put_bare.ensures

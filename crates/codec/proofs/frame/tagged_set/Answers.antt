use Rattle.std.proofs.Common.{◌≤◌, ◌%◌, arith}
use borrow.Author.Tests.{le-ltb, le-leb, lt-leb}
use Rattle.octets.specs.Lists.{within}
use Rattle.codec.specs.FrameSet.{tagged, sets_in, vid_of, set_of}
use Rattle.codec.proofs.frame.tagged_set.Goals as goal

pub returns-in-1-to-4094 : goal.returns-in-1-to-4094
unfolding tagged sets_in vid_of set_of within
returns-in-1-to-4094 c =
    let low : 1 ≤ c.args.tag % 4096 = omega arith in
    let high : c.args.tag % 4096 ≤ 4094 = omega arith in
    simp (le-leb _ _ low, le-leb _ _ high)

pub returns-in_default : goal.returns-in_default
unfolding tagged sets_in vid_of set_of within
returns-in_default c = search (lt-leb, le-leb, le-ltb)

pub returns-in_default-2 : goal.returns-in_default-2
unfolding tagged sets_in vid_of set_of within
returns-in_default-2 c = search (lt-leb, le-leb, le-ltb)

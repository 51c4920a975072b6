use borrow.Author.Tests.{ne_eqb}
use Rattle.codec.specs.FrameSet.{by_tag, sets_in}
use Rattle.codec.proofs.frame.set_of_tag.Goals as goal

pub returns-in-1-eq33024 : goal.returns-in-1-eq33024
unfolding by_tag
returns-in-1-eq33024 c = rw (c.in-1-eq33024.is-0, c.in-1-eq33024.is-1) c.tagged_set.ensures

pub returns-in-2-eq34984 : goal.returns-in-2-eq34984
unfolding by_tag
returns-in-2-eq34984 c = rw (c.in-2-eq34984.is-0, c.in-2-eq34984.is-1) c.tagged_set-in-2-eq34984.ensures

pub returns-in_default : goal.returns-in_default
unfolding by_tag sets_in
returns-in_default c = rw c.in_default.is-0 (simp (ne_eqb _ _ c.in_default.is-1.1))

pub returns-in_default-2 : goal.returns-in_default-2
unfolding by_tag sets_in
returns-in_default-2 c = rw c.in_default.is-0 (simp (ne_eqb _ _ c.in_default.is-1.1))

pub returns-in_default-3 : goal.returns-in_default-3
unfolding by_tag sets_in
returns-in_default-3 c = simp (ne_eqb _ _ c.in_default.is-0.0.1, ne_eqb _ _ c.in_default.is-0.1)

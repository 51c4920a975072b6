use mathlib.Core.Path.{◌≡◌, sym, ap, ◌∙◌}
use borrow.Author.Tests.{le-ltb, lt-ltb}
use Rattle.codec.specs.FrameSet.{sets_of, sets_in, group, source, type_behind, set_of}
use Rattle.codec.proofs.frame.set_of.Goals as goal

pub returns-then-is_group : goal.returns-then-is_group
unfolding sets_of sets_in
returns-then-is_group c =
    let grouped : c.is_group.result ≡ group (source c.args.frame.now) = c.is_group.ensures ∙ ap group c.requires.1 in
    simp (sym grouped ∙ c.if-is_group.true)

pub returns-then-frame-lt-TAGGED_FRAME : goal.returns-then-frame-lt-TAGGED_FRAME
unfolding sets_of sets_in type_behind
returns-then-frame-lt-TAGGED_FRAME c =
    let grouped : c.is_group.result ≡ group (source c.args.frame.now) = c.is_group.ensures ∙ ap group c.requires.1 in
    let first : c.number2-first.result ≡ type_behind 0 c.args.frame.now = c.number2-first.ensures.0 in
    let t : _ = rw first at c.is_tag.ensures in
    simp (sym grouped ∙ c.if-is_group.false, sym t ∙ c.if-is_tag.true, lt-ltb _ _ c.if-frame-lt-TAGGED_FRAME.true)

pub returns-then-is_tag : goal.returns-then-is_tag
unfolding sets_of type_behind
returns-then-is_tag c =
    let grouped : c.is_group.result ≡ group (source c.args.frame.now) = c.is_group.ensures ∙ ap group c.requires.1 in
    let first : c.number2-first.result ≡ type_behind 0 c.args.frame.now = c.number2-first.ensures.0 in
    let e : _ = first in
    let t : _ = rw e at c.is_tag.ensures in
    simp (sym grouped ∙ c.if-is_group.false, sym t ∙ c.if-is_tag.true, le-ltb _ _ c.if-frame-lt-TAGGED_FRAME.false)
    (c.set_of_tag.ensures ∙ rw (e, c.number2.ensures.0))

pub returns : goal.returns
unfolding sets_of sets_in set_of type_behind
returns c =
    let grouped : c.is_group.result ≡ group (source c.args.frame.now) = c.is_group.ensures ∙ ap group c.requires.1 in
    let first : c.number2-first.result ≡ type_behind 0 c.args.frame.now = c.number2-first.ensures.0 in
    let t : _ = rw first at c.is_tag.ensures in
    simp (sym grouped ∙ c.if-is_group.false, sym t ∙ c.if-is_tag.false)

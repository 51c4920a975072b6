use Rattle.std.proofs.Common.{◌≡◌, refl, arith}
use Rattle.std.proofs.lemmas.Bool.{cond_both}
use borrow.Author.Tests.{lt-leb, le-leb, eq-eqb, ne_eqb}
use Rattle.octets.specs.Lists.{within}
use Rattle.codec_replies.specs.Reply.{active_flags}
use Rattle.codec_replies.proofs.reply.active_flags.Goals as goal

pub returns-then-side-eq-EXTERNAL : goal.returns-then-side-eq-EXTERNAL
unfolding active_flags within
returns-then-side-eq-EXTERNAL c =
    (rw c.in-Some.is (simp (le-leb _ _ c.if-kind-ge-ACTIVATE.true, le-leb _ _ c.if-kind-le-STATE.true, eq-eqb _ _ c.if-side-eq-EXTERNAL.true)), omega arith)

pub returns-else-side-eq-EXTERNAL : goal.returns-else-side-eq-EXTERNAL
unfolding active_flags within
returns-else-side-eq-EXTERNAL c =
    (rw c.in-Some.is (simp (le-leb _ _ c.if-kind-ge-ACTIVATE.true, le-leb _ _ c.if-kind-le-STATE.true, ne_eqb _ _ c.if-side-eq-EXTERNAL.false)), omega arith)

pub returns-in_default : goal.returns-in_default
unfolding active_flags within
returns-in_default c =
    (rw c.in-Some.is (simp (le-leb _ _ c.if-kind-ge-ACTIVATE.true, lt-leb _ _ c.if-kind-le-STATE.false)), omega arith)

pub returns-in_default-2 : goal.returns-in_default-2
unfolding active_flags within
returns-in_default-2 c = (rw c.in-Some.is (simp (lt-leb _ _ c.if-kind-ge-ACTIVATE.false)), omega arith)

pub returns-in_default-3 : goal.returns-in_default-3
unfolding active_flags
returns-in_default-3 c =
    (rw c.in_default.is (cond_both (within 1 3 c.args.kind) 0 0 (λ n. 0 ≡ n) (λ t. refl) (λ f. refl)), omega arith)

use mathlib.Core.Path.{◌≡◌}
use Prim.Native.Nat.{◌+◌, ◌<◌, ◌≤◌}
use native.Mathlib.Omega.{arith}
use lib.ListN.{length, drop}
use borrow.Author.Tests.{eq-eqb, ne_eqb, lt-ltb, le-ltb, le-leb, lt-leb}
use Rattle.octets.specs.Octets.{number}
use Rattle.codec_tlvs.specs.Walk.{step_at}
use Rattle.codec_tlvs.proofs.steps.tlv_at.Goals as goal

pub returns-then-pdu-at : goal.returns-then-pdu-at
unfolding step_at
returns-then-pdu-at c = simp (le-ltb _ _ c.if-pdu-at.true)

pub returns-then-kind-eq0 : goal.returns-then-kind-eq0
unfolding step_at
returns-then-kind-eq0 c = simp (lt-ltb _ _ c.if-pdu-at.false, eq-eqb _ _ c.if-kind-eq0.true)

pub returns-then-left-lt3 : goal.returns-then-left-lt3
unfolding step_at
returns-then-left-lt3 c =
    let a : _ = c.args in
    let h : length a.pdu.now < a.at + 3 + number 2 (drop (a.at + 1) a.pdu.now) = omega arith in
    simp (lt-ltb _ _ c.if-pdu-at.false, ne_eqb _ _ c.if-kind-eq0.false, lt-leb _ _ h)

pub returns-then-left-len : goal.returns-then-left-len
unfolding step_at
returns-then-left-len c =
    let a : _ = c.args in
    let h : length a.pdu.now < a.at + 3 + number 2 (drop (a.at + 1) a.pdu.now) = omega arith in
    simp (
      lt-ltb _ _ c.if-pdu-at.false,
      ne_eqb _ _ c.if-kind-eq0.false,
      lt-leb _ _ h,
    )

pub returns : goal.returns
unfolding step_at
returns c =
    let a : _ = c.args in
    let e : c.number2-len.result ≡ number 2 (drop (a.at + 1) a.pdu.now) = c.number2-len.ensures.0 in
    let h : a.at + 3 + number 2 (drop (a.at + 1) a.pdu.now) ≤ length a.pdu.now = omega arith in
    let here : _ = lt-ltb _ _ c.if-pdu-at.false in
    let typed : _ = ne_eqb _ _ c.if-kind-eq0.false in
    rw e (simp (here, typed, le-leb _ _ h))

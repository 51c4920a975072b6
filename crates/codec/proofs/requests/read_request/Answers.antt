use Rattle.std.proofs.Common.{◌≡◌, true, false, not, ◌&&◌, eqb, is_some, sym, ◌∙◌}
use borrow.Author.Tests.{eq-eqb, ne_eqb}
use Rattle.codec.proofs.Said.{bad_mac, bad_offset, bad_list_lem, says_bad, says_good, says_untimed, bad_untimed, good}
use Rattle.codec.proofs.requests.read_request.Goals as goal
use Rattle.codec.proofs.requests.read_request.Goals.{then-wrong_mac-via-then-wrong_mac, then-wrong_mac-via-else-wrong_mac+then-wrong_offset}
use Rattle.codec.proofs.requests.read_request.Goals.{else-kind-eq-ACTIVATE-via-then-kind-eq-ACTIVATE+else-is_none, else-kind-eq-ACTIVATE-via-else-kind-eq-ACTIVATE}

pub returns-then-wrong_mac : goal.returns-then-wrong_mac
returns-then-wrong_mac c =
    let a : _ = c.args in
    let pdu : _ = a.pdu.now in
    let mac : _ = sym c.wrong_mac.ensures in
    c.bare.ensures
    ∙ elim c.then-wrong_mac.branch [
      | then-wrong_mac-via-then-wrong_mac w ↦ bad_mac a.whom a.to pdu (mac ∙ w.if-wrong_mac.true)
      | then-wrong_mac-via-else-wrong_mac+then-wrong_offset w ↦
          bad_offset a.whom a.to pdu (mac ∙ w.if-wrong_mac.false) (sym w.wrong_offset.ensures ∙ w.if-wrong_offset.true)
    ]

pub returns-in_default : goal.returns-in_default
returns-in_default c =
    let a : _ = c.args in
    let pdu : _ = a.pdu.now in
    let bad : _ = says_bad a.whom a.to pdu _ c.first_tlv.ensures.0 (sym c.in_default.is ∙ c.summary_of.ensures) in
    let mac : _ = sym c.wrong_mac.ensures ∙ c.if-wrong_mac.false in
    let offset : _ = sym c.wrong_offset.ensures ∙ c.if-wrong_offset.false in
    c.bare-in_default.ensures ∙ bad_list_lem a.whom a.to pdu mac offset bad

pub returns-then-is_none : goal.returns-then-is_none
returns-then-is_none c =
    let a : _ = c.args in
    let pdu : _ = a.pdu.now in
    let says : _ = says_good a.whom a.to pdu _ c.first_tlv.ensures.0 c.in-Ok.ensures in
    let none : is_some c.in-Ok.s.seconds ≡ false = rw c.if-is_none.true at c.is_none.ensures in
    let untimed : (eqb a.kind 1 && not (is_some c.in-Ok.s.seconds)) ≡ true = simp (eq-eqb _ _ c.if-kind-eq-ACTIVATE.true, none) in
    let mac : _ = sym c.wrong_mac.ensures ∙ c.if-wrong_mac.false in
    let offset : _ = sym c.wrong_offset.ensures ∙ c.if-wrong_offset.false in
    c.bare-then-is_none.ensures
    ∙ bad_untimed a.whom a.to pdu says c.requires.1 mac offset (sym (says_untimed a.whom a.to pdu says c.requires.1) ∙ untimed)

pub returns : goal.returns
returns c =
    let a : _ = c.args in
    let pdu : _ = a.pdu.now in
    let says : _ = says_good a.whom a.to pdu _ c.first_tlv.ensures.0 c.in-Ok.ensures in
    let timed : (eqb a.kind 1 && not (is_some c.in-Ok.s.seconds)) ≡ false =
    elim c.else-kind-eq-ACTIVATE.branch [
      | else-kind-eq-ACTIVATE-via-then-kind-eq-ACTIVATE+else-is_none w ↦
          (let some : is_some c.in-Ok.s.seconds ≡ true = rw w.if-is_none.false at w.is_none.ensures in
          simp (eq-eqb _ _ w.if-kind-eq-ACTIVATE.true, some))
      | else-kind-eq-ACTIVATE-via-else-kind-eq-ACTIVATE w ↦ simp (ne_eqb _ _ w.if-kind-eq-ACTIVATE.false)
    ] in
    let mac : _ = sym c.wrong_mac.ensures ∙ c.if-wrong_mac.false in
    let offset : _ = sym c.wrong_offset.ensures ∙ c.if-wrong_offset.false in
    good a.whom a.to pdu says c.requires.1 mac offset (sym (says_untimed a.whom a.to pdu says c.requires.1) ∙ timed) _
    (rw c.unwrap_or-seconds.ensures at c.by_type.ensures)

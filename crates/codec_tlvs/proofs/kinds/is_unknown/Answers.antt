use Rattle.std.proofs.Common.{◌≡◌, length, get_or, arith}
use borrow.Author.Tests.{eq-eqb, ne_eqb}
use Rattle.codec_tlvs.specs.Tlv.{is_unknown, subtype}
use Rattle.codec_tlvs.proofs.kinds.is_unknown.Goals as goal

pub returns-in-0 : goal.returns-in-0
unfolding is_unknown
returns-in-0 c = rw c.in-0.is

pub returns-in-empty : goal.returns-in-empty
unfolding is_unknown
returns-in-empty c =
    let none : length c.args.value.now ≡ 0 = omega arith in
    rw c.in-37.is (simp (eq-eqb _ _ none))

pub returns-in-1 : goal.returns-in-1
unfolding is_unknown subtype
returns-in-1 c =
    let some : length c.args.value.now ≡ 0 → ⊥ = λ z. absurd (omega arith) in
    let first : get_or c.args.value.now 0 0 ≡ 1 = omega arith in
    rw c.in-37.is (simp (ne_eqb _ _ some, eq-eqb _ _ first))

pub returns-in-len1-up : goal.returns-in-len1-up
unfolding is_unknown subtype
returns-in-len1-up c =
    let some : length c.args.value.now ≡ 0 → ⊥ = λ z. absurd (omega arith) in
    let first : get_or c.args.value.now 0 0 ≡ 1 → ⊥ = λ z. absurd (omega arith) in
    rw c.in-37.is (simp (ne_eqb _ _ some, ne_eqb _ _ first))

pub returns-in_default : goal.returns-in_default
unfolding is_unknown
returns-in_default c =
    let no_end : c.args.kind ≡ 0 → ⊥ = λ z. absurd (omega arith) in
    let other : c.args.kind ≡ 37 → ⊥ = λ z. absurd (omega arith) in
    simp (ne_eqb _ _ no_end, ne_eqb _ _ other)

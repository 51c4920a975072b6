use mathlib.Core.Path.{◌≡◌, refl, sym, ap, ◌∙◌}
use mathlib.Core.List.{List, [], ◌∷◌, ◌++◌}
use Prim.Native.Nat.{ℕ, ◌+◌}
use native.Mathlib.Omega.{arith}
use lib.ListN.{length, get_or}
use Rattle.octets.proofs.Over.{then_splice, splice_none}
use Rattle.codec_tlvs.specs.Walk.{kept}
use Rattle.codec_tlvs.proofs.Copy.{kept_none, kept_all}
use Rattle.codec_tlvs.proofs.copies.copy_one.Goals as goal

pub returns-then-not-is_unknown : goal.returns-then-not-is_unknown
returns-then-not-is_unknown c =
    let a : _ = c.args in
    let e : _ = kept_none a.kind a.value.now (sym c.is_unknown.ensures ∙ c.if-not-is_unknown.true) in
    (omega (arith, ap length e), rw e (sym (splice_none a.n a.out.now)))

-- the three octets that go before the value
abbrev head : ℕ → List ℕ → List ℕ
head kind size = kind ∷ get_or size 0 0 ∷ get_or size 1 0 ∷ []

pub put_at-requires : goal.put_at-requires
put_at-requires c = omega (arith, ap length (kept_all c.args.kind c.args.value.now (sym c.is_unknown.ensures ∙ c.if-not-is_unknown.false) c.octets2-size.ensures))

pub put_at-requires-2 : goal.put_at-requires-2
put_at-requires-2 c = omega (arith, ap length (kept_all c.args.kind c.args.value.now (sym c.is_unknown.ensures ∙ c.if-not-is_unknown.false) c.octets2-size.ensures))

pub overflow_add-result-2 : goal.overflow_add-result-2
overflow_add-result-2 c = omega (arith, ap length (kept_all c.args.kind c.args.value.now (sym c.is_unknown.ensures ∙ c.if-not-is_unknown.false) c.octets2-size.ensures))

pub returns : goal.returns
returns c =
    let a : _ = c.args in
    let whole : kept a.kind a.value.now ≡ head a.kind c.octets2-size.result ++ a.value.now = kept_all c.args.kind c.args.value.now (sym c.is_unknown.ensures ∙ c.if-not-is_unknown.false) c.octets2-size.ensures in
    let long : _ = ap length whole in
    let put : _ = c.put_at.ensures in
    let put2 : _ = c.put_at-2.ensures in
    (omega arith, rw whole (then_splice a.n (a.n + 3) (head a.kind c.octets2-size.result) a.value.now a.out.now put put2 refl (omega arith)))

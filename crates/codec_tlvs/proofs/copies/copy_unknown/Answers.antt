use Rattle.std.proofs.Common.{◌≡◌, ◌+◌, List, ℕ, length, take, drop, ap, ◌∙◌, arith, Ok, Some, None}
use Rattle.octets.specs.Octets.{splice}
use Rattle.codec_tlvs.specs.Walk.{step_at, kept}
use Rattle.codec_tlvs.proofs.Walk.{nearer, in_list}
use Rattle.codec_tlvs.proofs.Copy.{start, room, turn, end, none_at_end, none_at_bad}
use Rattle.codec_tlvs.proofs.copies.copy_unknown.Goals as goal

pub loop-tlv-init : goal.loop-tlv-init
loop-tlv-init c =
    (ap (λ p. p.now) c.new-r.ensures.0, rw c.new-r.ensures.1 (start c.args.pdu.now c.args.out.now c.args.from c.requires))

pub value-requires : goal.value-requires
value-requires c = in_list c.loop-tlv.r.pdu.now c.loop-tlv.r.at (rw c.in-Ok-Some.field-0-is at c.in-Ok-Some.ensures)

pub copy_one-n-requires : goal.copy_one-n-requires
copy_one-n-requires c =
    let l = c.args.pdu.now in
    let t = c.in-Ok-Some.tlv in
    let same = c.loop-tlv.invariant.0 in
    let e : Ok (Some t) ≡ step_at l c.loop-tlv.r.at = rw (same, c.in-Ok-Some.field-0-is) at c.in-Ok-Some.ensures in
    let v : c.value.result.now ≡ take t.len (drop t.start l) = rw same at c.value.ensures.octets in
    rw v (room c.loop-tlv.invariant.1 e)

pub loop-tlv-smaller : goal.loop-tlv-smaller
loop-tlv-smaller c =
    let near = nearer c.loop-tlv.r.pdu.now c.loop-tlv.r.at (rw c.in-Ok-Some.field-0-is at c.in-Ok-Some.ensures) in
    let same = ap length c.loop-tlv.invariant.0 in
    omega arith

pub loop-tlv-preserved : goal.loop-tlv-preserved
loop-tlv-preserved c =
    let l = c.args.pdu.now in
    let t = c.in-Ok-Some.tlv in
    let n = c.loop-tlv.n in
    let same = c.loop-tlv.invariant.0 in
    let e : Ok (Some t) ≡ step_at l c.loop-tlv.r.at = rw (same, c.in-Ok-Some.field-0-is) at c.in-Ok-Some.ensures in
    let v : c.value.result.now ≡ take t.len (drop t.start l) = rw same at c.value.ensures.octets in (
      ap (λ p. p.now) c.moved-r.ensures.0 ∙ same,
      rw c.moved-r.ensures.1
          (turn c.loop-tlv.invariant.1 e
          (c.copy_one-n.ensures.0 ∙ ap (λ (w : List ℕ). n + length (kept t.kind w)) v)
          (c.copy_one-n.ensures.1 ∙ ap (λ (w : List ℕ). splice n (kept t.kind w) c.loop-tlv.out) v)),
    )

pub returns-in_default : goal.returns-in_default
returns-in_default c =
    let e : Ok None ≡ step_at c.args.pdu.now c.loop-tlv.r.at = cc in
    end c.loop-tlv.invariant.1 (none_at_end c.args.pdu.now c.loop-tlv.r.at e)

pub returns-in_default-2 : goal.returns-in_default-2
returns-in_default-2 c =
    end c.loop-tlv.invariant.1
    (none_at_bad c.args.pdu.now c.loop-tlv.r.at (rw c.loop-tlv.invariant.0 at (rw c.in_default.is at c.next.ensures)))

use Rattle.std.proofs.Common.{◌≡◌, length, take, drop, sym, ap, ◌∙◌, arith, length-take, Ok, Err, Some, None}
use Rattle.std.proofs.lemmas.Result.{err_from_is_err_and}
use Rattle.codec_tlvs.specs.Tlv.{parse}
use Rattle.codec_tlvs.specs.Walk.{bad, step_at, count}
use Rattle.codec_tlvs.proofs.Walk.{stood, nearer, in_list}
use Rattle.codec_tlvs.proofs.Sum.{sum_all}
use Rattle.codec_tlvs.proofs.Turn.{turn, spoils, ends, breaks, grown}
use Rattle.codec_tlvs.proofs.summaries.summary_of.Goals as goal

pub loop-tlv-init : goal.loop-tlv-init
loop-tlv-init c =
    (ap (λ p. p.now) c.new-r.ensures.0, omega arith, rw c.new-r.ensures.1 (sum_all (parse (drop c.args.from c.args.pdu.now))))

pub returns-in_err-tlv : goal.returns-in_err-tlv
returns-in_err-tlv c =
    let p = err_from_is_err_and c.from_residual.result c.from_residual.ensures.1 in
    let e : Err bad ≡ step_at c.args.pdu.now c.loop-tlv.r.at = rw c.loop-tlv.invariant.0 at (sym c.in_err-tlv.was ∙ c.next.ensures) in
    rw p.1 (breaks c.args.pdu.now c.loop-tlv.r.at c.loop-tlv.s e ∙ c.loop-tlv.invariant.2)

pub value-requires : goal.value-requires
value-requires c =
    in_list c.loop-tlv.r.pdu.now c.loop-tlv.r.at (rw c.in-Some.is at (sym c.in_ok-tlv.was ∙ c.next.ensures))

pub counted-requires : goal.counted-requires
counted-requires c =
    let s = stood c.loop-tlv.r.pdu.now c.loop-tlv.r.at (rw c.in-Some.is at (sym c.in_ok-tlv.was ∙ c.next.ensures)) in
    let long = length-take c.in-Some.tlv.len (drop c.in-Some.tlv.start c.loop-tlv.r.pdu.now) in
    let v = ap length c.value.ensures.octets in
    omega arith

pub returns-in_err-s : goal.returns-in_err-s
returns-in_err-s c =
    let l = c.args.pdu.now in
    let t = c.in-Some.tlv in
    let same = c.loop-tlv.invariant.0 in
    let p = err_from_is_err_and c.from_residual-in_err-s.result c.from_residual-in_err-s.ensures.1 in
    let e : Ok (Some t) ≡ step_at l c.loop-tlv.r.at = rw (same, c.in-Some.is) at (sym c.in_ok-tlv.was ∙ c.next.ensures) in
    let v : c.value.result.now ≡ take t.len (drop t.start l) = rw same at c.value.ensures.octets in
    let one : Err bad ≡ count c.loop-tlv.s t.kind (take t.len (drop t.start l)) = rw v at (sym c.in_err-s.was ∙ c.counted.ensures) in
    rw p.1 (spoils l c.loop-tlv.r.at c.loop-tlv.s e one ∙ c.loop-tlv.invariant.2)

pub loop-tlv-smaller : goal.loop-tlv-smaller
loop-tlv-smaller c =
    let near = nearer c.loop-tlv.r.pdu.now c.loop-tlv.r.at (rw c.in-Some.is at (sym c.in_ok-tlv.was ∙ c.next.ensures)) in
    let same = ap length c.loop-tlv.invariant.0 in
    omega arith

pub loop-tlv-preserved : goal.loop-tlv-preserved
loop-tlv-preserved c =
    let l = c.args.pdu.now in
    let t = c.in-Some.tlv in
    let at = c.loop-tlv.r.at in
    let same = c.loop-tlv.invariant.0 in
    let e : Ok (Some t) ≡ step_at l at = rw (same, c.in-Some.is) at (sym c.in_ok-tlv.was ∙ c.next.ensures) in
    let v : c.value.result.now ≡ take t.len (drop t.start l) = rw same at c.value.ensures.octets in
    let one : Ok c.in_ok-s.s ≡ count c.loop-tlv.s t.kind (take t.len (drop t.start l)) =
    rw v at (sym c.in_ok-s.was ∙ c.counted.ensures) in
    let more = grown c.loop-tlv.s l at e one c.loop-tlv.invariant.1 in (
      ap (λ p. p.now) c.moved-r.ensures.0 ∙ same,
      omega arith,
      rw c.moved-r.ensures.1 (turn l at c.loop-tlv.s e one ∙ c.loop-tlv.invariant.2),
    )

pub returns : goal.returns
returns c =
    let e : Ok None ≡ step_at c.args.pdu.now c.loop-tlv.r.at =
    rw (c.loop-tlv.invariant.0, c.in_default.is) at (sym c.in_ok-tlv.was ∙ c.next.ensures) in
    ends c.args.pdu.now c.loop-tlv.r.at c.loop-tlv.s e ∙ c.loop-tlv.invariant.2

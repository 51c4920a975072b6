use Rattle.std.proofs.Common.{◌≡◌, ◌-◌, ◌≤◌, length, drop, Ok}
use Rattle.codec_tlvs.specs.Tlv.{parse}
use Rattle.codec_tlvs.specs.Walk.{summary_of}
use Rattle.codec_tlvs.proofs.Sum.{sum_up}
use Rattle.codec_tlvs.proofs.summaries.summary_of.Given as goal

abbrev pub invariant-loop-tlv : goal.invariant-loop-tlv
invariant-loop-tlv l =
    (l.r.pdu.now ≡ l.pdu) × (l.s.unknown ≤ l.r.at)
    × (sum_up (Ok l.s) (parse (drop l.r.at l.pdu)) ≡ summary_of (parse (drop l.from l.pdu)))

abbrev pub decreases-loop-tlv : goal.decreases-loop-tlv
decreases-loop-tlv l = length l.pdu - l.r.at

use Rattle.std.proofs.Common.{◌≡◌, ◌-◌, length}
use Rattle.codec_tlvs.proofs.Copy.{Copying, rest}
use Rattle.codec_tlvs.proofs.copies.copy_unknown.Given as goal

abbrev pub invariant-loop-tlv : goal.invariant-loop-tlv
invariant-loop-tlv l = (l.r.pdu.now ≡ l.pdu) × Copying l.pdu (rest l.pdu l.from) l.initial.out l.r.at l.n l.out

abbrev pub decreases-loop-tlv : goal.decreases-loop-tlv
decreases-loop-tlv l = length l.pdu - l.r.at

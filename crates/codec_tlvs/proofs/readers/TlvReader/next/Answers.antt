use Rattle.codec_tlvs.proofs.readers.TlvReader.next.Goals as goal

pub returns : goal.returns
returns c = c.tlv_at.ensures

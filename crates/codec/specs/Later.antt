-- Later protocol versions (LATER): a request's PDU by its parts, and rewritten as a later version of the protocol would send it.
use Rattle.std.specs.Prelude.{◌≡◌, List, ◌∷◌, ◌++◌, ℕ, ◌+◌, ◌*◌, ◌%◌, ◌<◌, ◌≤◌, length}
use Rattle.codec_tlvs.specs.Tlv.{Tlv, tlv_list}
use Rattle.codec_tlvs.specs.Additions.{AllWhole, Added}

-- ---- a request by its parts

-- MP-1: level, version, flags and offset; message type, response code and Loopback Port MAC Address, eight octets; what stands ahead of the
-- first TLV; the TLVs; what stands after End.
pub record Parts : Type 0 where
  pub level : ℕ
  pub version : ℕ
  pub flags : ℕ
  pub offset : ℕ
  pub fixed : List ℕ
  pub ahead : List ℕ
  pub tlvs : List Tlv
  pub behind : List ℕ

-- MP-1: the PDU of these parts: level and version in octet 1, opcode 57 in octet 2, and so on.
unfoldable pub pdu_in : Parts → List ℕ
pdu_in r =
    ((r.level * 32 + r.version) ∷ 57 ∷ r.flags ∷ r.offset ∷ r.fixed)
    ++ r.ahead ++ tlv_list r.tlvs ++ (0 ∷ r.behind)

-- TLV-1, LATER-4: the offset, at most 255, counts those eight octets and what is ahead of the first TLV; each part fits.
pub record Laid (r : Parts) : Type 0 where
  pub level_small : r.level < 8
  pub version_small : r.version < 32
  pub flags_small : r.flags < 256
  pub offset_small : r.offset < 256
  pub eight : length r.fixed ≡ 8
  pub first : r.offset ≡ 8 + length r.ahead
  pub whole : AllWhole r.tlvs

-- ---- rewritten

-- LATER-3, LATER-4, LATER-5, LATER-6: version 1 to 31; octets put in right before the first TLV; any flag bits 4 to 8; unknown TLVs put
-- in; all else stays (LATER-7). (`Laid` bounds the version and raises the offset.)
pub record LaterParts (r q : Parts) : Type 0 where
  pub more : List ℕ
  pub level_same : q.level ≡ r.level
  pub later : 1 ≤ q.version
  pub flags_same : q.flags % 8 ≡ r.flags % 8
  pub fixed_same : q.fixed ≡ r.fixed
  pub ahead_more : q.ahead ≡ r.ahead ++ more
  pub tlvs_added : Added r.tlvs q.tlvs
  pub behind_same : q.behind ≡ r.behind

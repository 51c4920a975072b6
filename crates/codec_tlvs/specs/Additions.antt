-- Later protocol versions (LATER): TLVs that can be written, and lists that unknown TLVs were put into.
use Rattle.std.specs.Prelude.{◌≡◌, true, List, [], ◌∷◌, ◌<◌, ◌≤◌, ◌^◌, length}
use Rattle.codec_tlvs.specs.Tlv.{Tlv, is_unknown}

-- TLV-2: a TLV that can be written: its type, which is not End, has one octet and its length two.
pub record Whole (t : Tlv) : Type 0 where
  pub kind_some : 1 ≤ t.kind
  pub kind_small : t.kind < 256
  pub short : length t.value < 2 ^ 16

-- TLV-2: each TLV of a list can be written.
abbrev pub AllWhole : List Tlv → Type 0
AllWhole [] = Unit {0}
AllWhole (t ∷ ts) = Whole t × AllWhole ts

-- LATER-6: unknown TLVs, any number of them, are put in before any TLV or before End.
pub data Added : List Tlv → List Tlv → Type 0 where
  ended : Added [] []
  kept : {t : Tlv} {ts us : List Tlv} → Added ts us → Added (t ∷ ts) (t ∷ us)
  new : {t : Tlv} {ts us : List Tlv} → is_unknown t ≡ true → Added ts us → Added ts (t ∷ us)

-- Requests rewritten as a later version would send them, by computation.
use mathlib.Core.Path.{◌≡◌, refl}
use mathlib.Core.List.{List, [], ◌∷◌, map}
use Prim.Native.Nat.{ℕ, ◌+◌, ◌%◌, ◌<◌, ◌≤◌}
use native.Mathlib.Omega.{arith}
use lib.ListN.{length}
use Rattle.octets.specs.Octets.{octets}
use Rattle.octets.specs.Text.{hex}
use Rattle.codec_tlvs.specs.Tlv.{Tlv, subtype, is_unknown, tlv_octets, tlv_list}
use Rattle.codec_tlvs.specs.Additions.{Whole, AllWhole, Added, ended, kept, new}
use Rattle.codec.specs.Later.{Parts, Laid, LaterParts, pdu_in}

tlv : ℕ → List ℕ → Tlv
tlv kind value = record { kind = kind; value = value }

-- an Activate of 60 seconds at level 4, with these TLVs
activate : ℕ → ℕ → ℕ → List ℕ → List Tlv → Parts
activate version flags offset ahead tlvs = record {
  level = 4;
  version = version;
  flags = flags;
  offset = offset;
  fixed = hex "01 00 02 00 00 00 00 01";
  ahead = ahead;
  tlvs = tlvs;
  behind = [];
}

abbrev timer : Tlv
timer = tlv 37 (hex "01 00 00 00 3C")

abbrev b1 : Parts
b1 = activate 0 0 8 [] (timer ∷ [])

-- BENCH-2's request
abbrev b2 : Parts
b2 = activate 1 0 10 (0 ∷ 0 ∷ []) (tlv 9 (hex "FF") ∷ timer ∷ [])

-- the last version, all reserved flags set, an unknown TLV ahead of the End
abbrev last : Parts
last = activate 31 0xF8 9 (0xFF ∷ []) (timer ∷ tlv 37 (hex "02") ∷ [])

octets_of_the_parts :
    map pdu_in (b1 ∷ b2 ∷ last ∷ []) ≡
    hex "80 39 00 08 01 00 02 00 00 00 00 01 25 00 05 01 00 00 00 3C 00"
    ∷ hex "81 39 00 0A 01 00 02 00 00 00 00 01 00 00 09 00 01 FF 25 00 05 01 00 00 00 3C 00"
    ∷ hex "9F 39 F8 09 01 00 02 00 00 00 00 01 FF 25 00 05 01 00 00 00 3C 25 00 01 02 00"
    ∷ []
unfolding pdu_in tlv_list tlv_octets octets activate tlv hex
octets_of_the_parts = refl

laid : (version flags offset : ℕ) (ahead : List ℕ) (tlvs : List Tlv) → version < 32 → flags < 256 → offset < 256
    → offset ≡ 8 + length ahead → AllWhole tlvs → Laid (activate version flags offset ahead tlvs)
unfolding activate hex
laid version flags offset ahead tlvs v f o first whole = record {
  level_small = omega arith;
  version_small = v;
  flags_small = f;
  offset_small = o;
  eight = refl;
  first = first;
  whole = whole;
}

whole : Whole timer × Whole (tlv 9 (hex "FF")) × Whole (tlv 37 (hex "02"))
unfolding tlv hex
whole = (
  record { kind_some = omega arith; kind_small = omega arith; short = omega arith },
  record { kind_some = omega arith; kind_small = omega arith; short = omega arith },
  record { kind_some = omega arith; kind_small = omega arith; short = omega arith },
)

all_laid : Laid b1 × Laid b2 × Laid last
all_laid = (
  laid 0 0 8 [] _ (omega arith) (omega arith) (omega arith) refl (whole.0, tt),
  laid 1 0 10 (0 ∷ 0 ∷ []) _ (omega arith) (omega arith) (omega arith) refl (whole.1, (whole.0, tt)),
  laid 31 0xF8 9 (0xFF ∷ []) _ (omega arith) (omega arith) (omega arith) refl (whole.0, (whole.2, tt)),
)

later : (version flags offset : ℕ) (more : List ℕ) (tlvs : List Tlv) → 1 ≤ version → flags % 8 ≡ 0 → Added (timer ∷ []) tlvs
    → LaterParts b1 (activate version flags offset more tlvs)
unfolding activate
later version flags offset more tlvs v f added = record {
  more = more;
  level_same = refl;
  later = v;
  flags_same = f;
  fixed_same = refl;
  ahead_more = refl;
  tlvs_added = added;
  behind_same = refl;
}

all_later : LaterParts b1 b2 × LaterParts b1 last
unfolding is_unknown subtype tlv hex
all_later = (
  later 1 0 10 (0 ∷ 0 ∷ []) _ (omega arith) refl (new refl (kept ended)),
  later 31 0xF8 9 (0xFF ∷ []) _ (omega arith) refl (kept (new refl ended)),
)

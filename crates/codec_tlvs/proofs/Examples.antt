-- Which TLVs are unknown, by computation.
use mathlib.Core.Path.{◌≡◌, refl}
use mathlib.Core.Bool.{Bool, true, false}
use mathlib.Core.List.{List, [], ◌∷◌, map}
use Prim.Native.Nat.{ℕ}
use Rattle.octets.specs.Octets.{number, octets}
use Rattle.octets.specs.Text.{hex}
use Rattle.codec_tlvs.specs.Tlv.{walk, parse, followed, ended, subtype, is_unknown, unknowns, tlv_octets, tlv_list}
use Rattle.codec_tlvs.specs.Walk.{tlv_of}

-- types and values, and whether such a TLV is unknown to us
abbrev values : List (ℕ × List ℕ × Bool)
values =
    (9, hex "FF", true)
    ∷ (9, hex "", true)
    ∷ (31, hex "41", true)
    -- type 0 is End
    ∷ (0, hex "", false)
    ∷ (0, hex "02", false)
    -- type 37 with subtype 1, also of a wrong length, with another subtype, and with none
    ∷ (37, hex "01 00 00 00 3C", false)
    ∷ (37, hex "01", false)
    ∷ (37, hex "02 00 00 00 3C", true)
    ∷ (37, hex "00", true)
    ∷ (37, hex "", false)
    ∷ []

timer_types_are_known : map (λ row. (row.0, row.1, is_unknown (tlv_of row.0 row.1))) values ≡ values
unfolding is_unknown subtype hex
timer_types_are_known = refl

-- lists, and what is unknown of them
abbrev lists : List (List ℕ × List ℕ)
lists =
    (hex "25 00 00 00", [])
    ∷ (hex "00 09 00 01 FF 00", [])
    ∷ (hex "25 00 01 02 00", hex "25 00 01 02")
    ∷ (hex "25 00 05 01 00 00 00 3C 00", [])
    ∷ (hex "25 00 01 02 25 00 00 25 00 05 01 00 00 00 3C 1F 00 01 41 00", hex "25 00 01 02 1F 00 01 41")
    ∷ []

unknown_tlvs_of_lists : map (λ row. (row.0, tlv_list (unknowns (parse row.0).tlvs))) lists ≡ lists
unfolding is_unknown subtype hex parse walk followed ended number unknowns tlv_list tlv_octets octets
unknown_tlvs_of_lists = refl

-- TLVs (TLV): the TLV list of a PDU, when it is bad, and which TLVs are unknown.
use Rattle.std.specs.Prelude.{List, [], ◌∷◌, ◌++◌, Bool, true, false, cond, ◌&&◌, ◌||◌, not, ℕ, zero, suc, ◌+◌, length, take, drop, get_or, leb, eqb}
use Rattle.octets.specs.Octets.{number, octets}
use Rattle.octets.specs.Lists.{some}

-- TLV-2: a TLV is a type and a value. (Its length is that of the value.)
pub record Tlv : Type 0 where
  pub kind : ℕ
  pub value : List ℕ

-- the TLVs up to the End, or up to where the list goes bad, and whether it does
pub record Parsed : Type 0 where
  pub tlvs : List Tlv
  pub bad : Bool

-- TLV-3: at End the list is over; nothing after it is read.
unfoldable pub ended : Parsed
ended = record { tlvs = []; bad = false }

-- TLV-4, TLV-5: a list without End, or with a value that would reach past the end of the PDU, is bad.
unfoldable pub cut : Parsed
cut = record { tlvs = []; bad = true }

-- a TLV, and what the octets after it are read as
unfoldable pub followed : Tlv → Parsed → Parsed
followed t p = record { tlvs = t ∷ p.tlvs; bad = p.bad }

-- TLV-2, TLV-3, TLV-4, TLV-5: one octet of type, two of length, a value of that length, and the next TLV at once, up to End. The first
-- number says how many octets still belong to the TLV before.
unfoldable pub walk : ℕ → List ℕ → Parsed
walk skip [] = cut
walk (suc n) (x ∷ l) = walk n l
walk zero (kind ∷ l) =
    cond (eqb kind 0) ended
    (cond (leb (2 + number 2 l) (length l))
    (followed (record { kind = kind; value = take (number 2 l) (drop 2 l) }) (walk (2 + number 2 l) l))
    cut)

-- TLV-2: a list from its first octet on.
unfoldable pub parse : List ℕ → Parsed
parse l = walk 0 l

-- TLV-7: the first value octet is the subtype. (An empty value has none, and reads as 0.)
unfoldable pub subtype : Tlv → ℕ
subtype t = get_or t.value 0 0

-- TLV-7: type 37 with subtype 1 is the timer.
unfoldable pub is_timer : Tlv → Bool
is_timer t = eqb t.kind 37 && eqb (subtype t) 1

-- TLV-6, TLV-8: bad is type 37 with length 0, and a timer of any length but 5.
unfoldable pub bad_tlv : Tlv → Bool
bad_tlv t = (eqb t.kind 37 && eqb (length t.value) 0) || (is_timer t && not (eqb (length t.value) 5))

-- TLV-7: the seconds of each timer, in order: four octets after the subtype, the highest first.
unfoldable pub timers : List Tlv → List ℕ
timers [] = []
timers (t ∷ ts) = cond (is_timer t) (number 4 (drop 1 t.value) ∷ timers ts) (timers ts)

-- TLV-4, TLV-5, TLV-9: a list is bad without End, with a value past the PDU, with a bad TLV (TLV-6, TLV-8) or with a second timer.
unfoldable pub bad_list : Parsed → Bool
bad_list p = p.bad || some bad_tlv p.tlvs || leb 2 (length (timers p.tlvs))

-- TLV-10, TLV-11: unknown is each type but 0 and 37, and type 37 with another subtype than 1. A good timer is known.
unfoldable pub is_unknown : Tlv → Bool
is_unknown t = cond (eqb t.kind 37) (not (eqb (length t.value) 0) && not (eqb (subtype t) 1)) (not (eqb t.kind 0))

-- TLV-11, REPLY-14: the unknown TLVs, in the order received.
unfoldable pub unknowns : List Tlv → List Tlv
unknowns [] = []
unknowns (t ∷ ts) = cond (is_unknown t) (t ∷ unknowns ts) (unknowns ts)

-- TLV-2, REPLY-14: a TLV octet for octet: type, two octets of length, value.
unfoldable pub tlv_octets : Tlv → List ℕ
tlv_octets t = t.kind ∷ octets 2 (length t.value) ++ t.value

-- REPLY-14: the octets of a list of TLVs, without an End.
unfoldable pub tlv_list : List Tlv → List ℕ
tlv_list [] = []
tlv_list (t ∷ ts) = tlv_octets t ++ tlv_list ts

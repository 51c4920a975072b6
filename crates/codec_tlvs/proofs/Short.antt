-- What is copied of a good list, with the list's End, is no longer than the list.
use mathlib.Core.Path.{◌≡◌, refl, sym}
use mathlib.Core.Bool.{Bool, true, false, cond, ◌||◌, false≢true}
use mathlib.Core.List.{List, [], ◌∷◌}
use Prim.Native.Nat.{ℕ, zero, suc, ◌+◌, ◌≤◌}
use native.Mathlib.Omega.{arith}
use lib.Dec.{leb, eqb}
use lib.ListN.{length, take, drop, length-append, length-drop}
use lib.Seq.{length-take-le}
use borrow.Author.Tests.{leb-true}
use Rattle.octets.specs.Octets.{number, octets}
use Rattle.octets.specs.Lists.{some}
use Rattle.codec_tlvs.specs.Tlv.{Tlv, Parsed, ended, cut, followed, walk, parse}
use Rattle.codec_tlvs.specs.Tlv.{is_unknown, unknowns, bad_tlv, timers, bad_list, tlv_octets, tlv_list}

tlv_length : (t : Tlv) → length (tlv_octets t) ≡ 3 + length t.value
unfolding tlv_octets octets
tlv_length t = omega arith

pub list_length : (t : Tlv) (ts : List Tlv) → length (tlv_list (t ∷ ts)) ≡ 3 + length t.value + length (tlv_list ts)
unfolding tlv_list
list_length t ts = omega (arith, tlv_length t, length-append (tlv_octets t) (tlv_list ts))

unknown_length : (t : Tlv) (ts : List Tlv)
    → length (tlv_list (unknowns (t ∷ ts))) ≤ 3 + length t.value + length (tlv_list (unknowns ts))
unfolding unknowns
unknown_length t ts = go (is_unknown t)
  where
    go : (b : Bool)
        → length (tlv_list (cond b (t ∷ unknowns ts) (unknowns ts))) ≤ 3 + length t.value + length (tlv_list (unknowns ts))
    go true = omega (arith, list_length t (unknowns ts))
    go false = omega arith

-- what a TLV and the rest behind it are, once its two tests are known
one : ℕ → List ℕ → Parsed → Bool → Bool → Parsed
one kind l rest end whole =
    cond end ended (cond whole (followed (record { kind = kind; value = take (number 2 l) (drop 2 l) }) rest) cut)

-- it is short before a rest that is short enough
one_short : (kind : ℕ) (l : List ℕ) (rest : Parsed) (end whole : Bool) → leb (2 + number 2 l) (length l) ≡ whole
    → (rest.bad ≡ false → length (tlv_list (unknowns rest.tlvs)) + (2 + number 2 l + 1) ≤ length l)
    → (one kind l rest end whole).bad ≡ false
    → length (tlv_list (unknowns (one kind l rest end whole).tlvs)) + 1 ≤ suc (length l)
unfolding one ended cut followed unknowns tlv_list
one_short kind l rest true whole e short good = omega arith
one_short kind l rest false true e short good =
    let n : ℕ = number 2 l in
    let fits : n ≤ length (drop 2 l) = omega (arith, leb-true (2 + n) (length l) e, length-drop 2 l) in
    omega (
      arith,
      short good,
      length-take-le n (drop 2 l) fits,
      unknown_length (record { kind = kind; value = take n (drop 2 l) }) rest.tlvs,
    )
one_short kind l rest false false e short good = absurd (false≢true (sym good))

walk_short : (l : List ℕ) (n : ℕ) → (walk n l).bad ≡ false → length (tlv_list (unknowns (walk n l).tlvs)) + (n + 1) ≤ length l
unfolding walk cut one
walk_short [] n h = absurd (false≢true (sym h))
walk_short (x ∷ l) (suc n) h = omega (arith, walk_short l n h)
walk_short (kind ∷ l) zero h =
    one_short kind l (walk (2 + number 2 l) l) (eqb kind 0) (leb (2 + number 2 l) (length l)) refl
    (walk_short l (2 + number 2 l)) h

pub parse_short : (l : List ℕ) → (parse l).bad ≡ false → length (tlv_list (unknowns (parse l).tlvs)) + 1 ≤ length l
unfolding parse
parse_short l h = walk_short l 0 h

pub or_none : (a b : Bool) → (a || b) ≡ false → (a ≡ false) × (b ≡ false)
or_none false b e = (refl, e)
or_none true b e = absurd (false≢true (sym e))

pub good_list : (p : Parsed) → bad_list p ≡ false → p.bad ≡ false
unfolding bad_list
good_list p h =
    let few : Bool = leb 2 (length (timers p.tlvs)) in
    (or_none p.bad (some bad_tlv p.tlvs) (or_none (p.bad || some bad_tlv p.tlvs) few h).0).0

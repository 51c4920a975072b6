-- What callers use of a TLV list: octets behind its End change nothing, and a summary counts what is copied.
use mathlib.Core.Path.{◌≡◌, refl, sym}
use mathlib.Core.Bool.{Bool, true, false, cond, false≢true}
use mathlib.Core.List.{List, [], ◌∷◌, ◌++◌}
use Prim.Native.Nat.{ℕ, zero, suc, ◌+◌, ◌≤◌}
use native.Mathlib.Omega.{arith}
use lib.Dec.{leb, eqb}
use lib.ListN.{length, take, drop, length-append, length-drop}
use lib.Seq.{take-append-le, drop-append-le}
use borrow.Author.Tests.{le-leb, leb-true}
use Rattle.octets.specs.Octets.{number}
use Rattle.codec_tlvs.specs.Tlv.{Parsed, ended, cut, followed, walk, parse, timers, bad_list, unknowns, tlv_list}
use Rattle.codec_tlvs.specs.Walk.{bad, tlv_of, summary_of}
use Rattle.codec_tlvs.specs.declared.BadList.{BadList}
use Rattle.codec_tlvs.specs.declared.Summary.{Summary}
use Rattle.std.specs.Prelude.{slice_get, Ok, Err}

number_before : (l t : List ℕ) → 2 ≤ length l → number 2 (l ++ t) ≡ number 2 l
unfolding number
number_before [] t h = absurd (omega arith)
number_before (x ∷ []) t h = absurd (omega arith)
number_before (x ∷ y ∷ l) t h = refl

-- the first TLV of a list that goes on behind its End, and the rest behind that TLV
one_on : (kind : ℕ) (l t : List ℕ) (a b : Bool) → leb (2 + number 2 l) (length l) ≡ b
    → ((walk (2 + number 2 l) l).bad ≡ false → walk (2 + number 2 l) (l ++ t) ≡ walk (2 + number 2 l) l)
    → (cond a ended (cond b (followed (tlv_of kind (take (number 2 l) (drop 2 l))) (walk (2 + number 2 l) l)) cut)).bad ≡ false
    → cond a ended
    (cond (leb (2 + number 2 (l ++ t)) (length (l ++ t)))
    (followed (tlv_of kind (take (number 2 (l ++ t)) (drop 2 (l ++ t)))) (walk (2 + number 2 (l ++ t)) (l ++ t)))
    cut)
    ≡ cond a ended (cond b (followed (tlv_of kind (take (number 2 l) (drop 2 l))) (walk (2 + number 2 l) l)) cut)
unfolding followed cut
one_on kind l t true b e on good = refl
one_on kind l t false false e on good = absurd (false≢true (sym good))
one_on kind l t false true e on good =
    let n : ℕ = number 2 l in
    let fits : 2 + n ≤ length l = leb-true (2 + n) (length l) e in
    let whole : 2 + n ≤ length (l ++ t) = omega (arith, length-append l t) in
    let value : n ≤ length (drop 2 l) = omega (arith, length-drop 2 l) in
    rw (
      number_before l t (omega arith),
      le-leb (2 + n) (length (l ++ t)) whole,
      drop-append-le 2 l t (omega arith),
      take-append-le n (drop 2 l) t value,
      on good,
    )

walk_on : (l : List ℕ) (n : ℕ) (t : List ℕ) → (walk n l).bad ≡ false → walk n (l ++ t) ≡ walk n l
unfolding walk cut
walk_on [] n t h = absurd (false≢true (sym h))
walk_on (x ∷ l) (suc n) t h = walk_on l n t h
walk_on (kind ∷ l) zero t h =
    one_on kind l t (eqb kind 0) (leb (2 + number 2 l) (length l)) refl (walk_on l (2 + number 2 l) t) h

-- octets after the End are ignored
pub parse_on : (l t : List ℕ) → (parse l).bad ≡ false → parse (l ++ t) ≡ parse l
unfolding parse
parse_on l t h = walk_on l 0 t h

-- a list without a summary is bad
pub summary_bad : (p : Parsed) {e : BadList} → Err e ≡ summary_of p → bad_list p ≡ true
unfolding summary_of
summary_bad p {e} h = go (bad_list p) _ h
  where
    go : (b : Bool) (s : Summary) → Err e ≡ cond b (Err bad) (Ok s) → b ≡ true
    go true s h = refl
    go false s h = cc

-- what a summary says of its list: it is not bad, `seconds` are those of its first timer, if it has one, and `unknown` is the length of
-- what is copied
pub record Says (p : Parsed) (s : Summary) : Type 0 where
  pub fine : bad_list p ≡ false
  pub timer : s.seconds ≡ slice_get (timers p.tlvs) 0
  pub copies : s.unknown ≡ length (tlv_list (unknowns p.tlvs))

pub summary_says : (p : Parsed) {s : Summary} → Ok s ≡ summary_of p → Says p s
unfolding summary_of
summary_says p {s} h = go (bad_list p) refl h
  where
    whole : Summary
    whole = record { seconds = slice_get (timers p.tlvs) 0; unknown = length (tlv_list (unknowns p.tlvs)) }

    go : (b : Bool) → bad_list p ≡ b → Ok s ≡ cond b (Err bad) (Ok whole) → Says p s
    go true e h = cc
    go false e h =
        let same : whole ≡ s = cc in
        rw (← same) (record { fine = e; timer = refl; copies = refl })

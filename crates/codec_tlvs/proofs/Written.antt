-- A list that is written TLV by TLV, with its End and any octets behind it, is read as those TLVs; and every list that is read to
-- its End is written so.
use mathlib.Core.Path.{◌≡◌, refl, ap, sym, ◌∙◌}
use mathlib.Core.Bool.{Bool, true, false, cond, false≢true}
use mathlib.Core.List.{List, [], ◌∷◌, ◌++◌, append_assoc}
use Prim.Native.Nat.{ℕ, zero, suc, ◌+◌, ◌≤◌}
use native.Mathlib.Omega.{arith}
use lib.Dec.{eqb, leb}
use lib.ListN.{length, take, drop, length-append, length-drop, take-append-drop}
use lib.Seq.{take-append_seam, drop_at, length-take-le, take-add}
use borrow.Author.Tests.{ne_eqb, le-leb, eqb-true, eqb-false, leb-true}
use Rattle.octets.specs.Octets.{number, octets}
use Rattle.octets.proofs.Laws.{Octets}
use Rattle.octets.proofs.Round.{number_octets, number_fits, octets_number}
use Rattle.codec_tlvs.specs.Tlv.{Tlv, Parsed, ended, cut, followed, walk, parse, tlv_octets, tlv_list}
use Rattle.codec_tlvs.specs.Walk.{tlv_of}
use Rattle.codec_tlvs.specs.Additions.{Whole, AllWhole}
use Rattle.codec_tlvs.proofs.Walk.{walk_drop}

tlv_read : (t : Tlv) (l : List ℕ) → Whole t → parse (tlv_octets t ++ l) ≡ followed t (parse l)
unfolding parse walk tlv_octets octets
tlv_read t l w =
    let v : List ℕ = t.value in
    let n : ℕ = length v in
    let p : List ℕ = octets 2 n ++ v in
    let lp : length p ≡ 2 + n = omega arith in
    let en : number 2 (p ++ l) ≡ n = number_octets 2 n (v ++ l) (omega (arith, w.short)) in
    let ev : take n (v ++ l) ≡ v = take-append_seam v l in
    let fits : leb (2 + n) (length (p ++ l)) ≡ true = le-leb (2 + n) (length (p ++ l)) (omega (arith, length-append p l)) in
    let on : walk (2 + n) (p ++ l) ≡ walk 0 l = walk_drop (2 + n) (p ++ l) ∙ ap (walk 0) (drop_at p l (2 + n) lp) in
    rw (ne_eqb t.kind 0 (λ z. absurd (omega (arith, w.kind_some))), en, fits, ev, on)

pub parse_list : (ts : List Tlv) (behind : List ℕ) → AllWhole ts
    → parse (tlv_list ts ++ (0 ∷ behind)) ≡ record { tlvs = ts; bad = false }
unfolding parse walk tlv_list ended followed
parse_list [] behind w = refl
parse_list (t ∷ ts) behind w =
    rw (
      append_assoc (tlv_octets t) (tlv_list ts) (0 ∷ behind),
      tlv_read t (tlv_list ts ++ (0 ∷ behind)) w.0,
      parse_list ts behind w.1,
    )

-- ---- back

-- octets that are these TLVs, an End, and more
pub record Listed (l : List ℕ) (ts : List Tlv) : Type 0 where
  pub behind : List ℕ
  pub whole : AllWhole ts
  pub same : tlv_list ts ++ (0 ∷ behind) ≡ l

-- one TLV and the rest, once its two tests are known
one_listed : (kind : ℕ) (l : List ℕ) (rest : Parsed) (a b : Bool) → eqb kind 0 ≡ a → leb (2 + number 2 l) (length l) ≡ b
    → Octets (kind ∷ l) → (rest.bad ≡ false → Listed (drop (2 + number 2 l) l) rest.tlvs)
    → (cond a ended (cond b (followed (tlv_of kind (take (number 2 l) (drop 2 l))) rest) cut)).bad ≡ false
    → Listed (kind ∷ l) (cond a ended (cond b (followed (tlv_of kind (take (number 2 l) (drop 2 l))) rest) cut)).tlvs
unfolding ended cut followed tlv_list tlv_octets
one_listed kind l rest true b ea eb o more good =
    record { behind = l; whole = tt; same = ap (λ (k : ℕ). k ∷ l) (sym (eqb-true kind 0 ea)) }
one_listed kind l rest false false ea eb o more good = absurd (false≢true (sym good))
one_listed kind l rest false true ea eb o more good =
    let n : ℕ = number 2 l in
    let v : List ℕ = take n (drop 2 l) in
    let ol : Octets l = λ i. o (suc i) in
    let fits : 2 + n ≤ length l = leb-true (2 + n) (length l) eb in
    let lv : length v ≡ n = length-take-le n (drop 2 l) (omega (arith, length-drop 2 l)) in
    let m : Listed (drop (2 + n) l) rest.tlvs = more good in
    let end : List ℕ = 0 ∷ m.behind in
    let et : octets 2 (length v) ++ v ≡ take (2 + n) l =
    rw (lv, octets_number 2 l ol (omega arith)) (sym (take-add 2 n l)) in
    record {
      behind = m.behind;
      whole = (
        record { kind_some = omega (arith, eqb-false kind 0 ea); kind_small = o 0; short = omega (arith, lv, number_fits 2 l ol) },
        m.whole,
      );
      same =
          rw (append_assoc (kind ∷ octets 2 (length v) ++ v) (tlv_list rest.tlvs) end, m.same, et)
          (ap (λ (x : List ℕ). kind ∷ x) (take-append-drop (2 + n) l));
    }

walk_listed : (l : List ℕ) (n : ℕ) → Octets l → (walk n l).bad ≡ false → Listed (drop n l) (walk n l).tlvs
unfolding walk cut
walk_listed [] n o h = absurd (false≢true (sym h))
walk_listed (x ∷ l) (suc n) o h = walk_listed l n (λ i. o (suc i)) h
walk_listed (kind ∷ l) zero o h =
    one_listed kind l (walk (2 + number 2 l) l) (eqb kind 0) (leb (2 + number 2 l) (length l)) refl refl o
    (walk_listed l (2 + number 2 l) (λ i. o (suc i))) h

pub parse_listed : (l : List ℕ) → Octets l → (parse l).bad ≡ false → Listed l (parse l).tlvs
unfolding parse
parse_listed l o h = walk_listed l 0 o h

-- A frame that is a head and a PDU: addresses, tag, type and set are told by the head alone.
use mathlib.Core.Path.{◌≡◌, sym, ap, ◌∙◌}
use mathlib.Core.Bool.{Bool, true, false, cond, ◌||◌, ◌&&◌}
use mathlib.Core.List.{List, [], ◌++◌}
use Prim.Native.Nat.{ℕ, ◌+◌, ◌≤◌}
use native.Mathlib.Omega.{arith}
use lib.Dec.{eqb, ltb}
use lib.ListN.{length, take, drop, length-drop, length-append}
use lib.Seq.{take-append-le, drop-append-le, drop_at}
use borrow.Author.Tests.{le-ltb}
use Rattle.octets.specs.Octets.{number}
use Rattle.octets.specs.Lists.{within}
use Rattle.octets.proofs.Cases.{by_lt}
use Rattle.octets.proofs.Laws.{number_on}
use Rattle.codec.specs.declared.FrameSet.{FrameSet}
use Rattle.codec.specs.FrameSet.{uni, enni, untagged, c_tagged, s_tagged, c_tag, s_tag, vid_of, set_of}
use Rattle.codec.specs.FrameSet.{destination, source, group, type_behind, soam, pdu_of, Member, only, sets_of, by_tag, tagged}
use Rattle.codec_replies.specs.Reply.{tag_of}

module _ (head : List ℕ) (taglen : ℕ) (long : length head ≡ 14 + taglen) where
  -- a number that lies in the head
  number_in : (n at : ℕ) (p : List ℕ) → at + n ≤ length head → number n (drop at (head ++ p)) ≡ number n (drop at head)
  number_in n at p fits =
      ap (number n) (drop-append-le at head p (omega (arith, fits)))
      ∙ number_on n (drop at head) p (rw length-drop (omega (arith, fits)))

  module _ (p q : List ℕ) where
    pub destination_same : destination (head ++ q) ≡ destination (head ++ p)
    unfolding destination
    destination_same = number_in 6 0 q (omega (arith, long)) ∙ sym (number_in 6 0 p (omega (arith, long)))

    pub source_same : source (head ++ q) ≡ source (head ++ p)
    unfolding source
    source_same = number_in 6 6 q (omega (arith, long)) ∙ sym (number_in 6 6 p (omega (arith, long)))

    type_same : (k : ℕ) → k ≤ taglen → type_behind k (head ++ q) ≡ type_behind k (head ++ p)
    unfolding type_behind
    type_same k few =
        number_in 2 (12 + k) q (omega (arith, long, few)) ∙ sym (number_in 2 (12 + k) p (omega (arith, long, few)))

    pub soam_same : soam taglen (head ++ q) ≡ soam taglen (head ++ p)
    unfolding soam
    soam_same = rw (type_same taglen (omega arith))

    pub tag_same : tag_of taglen (head ++ q) ≡ tag_of taglen (head ++ p)
    unfolding tag_of
    tag_same =
        ap (take taglen) (drop-append-le 12 head q (omega (arith, long)))
        ∙ take-append-le taglen (drop 12 head) q (rw length-drop (omega (arith, long)))
        ∙ sym (ap (take taglen) (drop-append-le 12 head p (omega (arith, long)))
        ∙ take-append-le taglen (drop 12 head) p (rw length-drop (omega (arith, long))))

  pub pdu_is : (p : List ℕ) → pdu_of taglen (head ++ p) ≡ p
  unfolding pdu_of
  pdu_is p = drop_at head p (14 + taglen) long

-- ---- its sets

module _ {set : FrameSet} {taglen : ℕ} where
  nowhere : {A : Type 0} → [] ≡ only set taglen → A
  nowhere h = let z : ◌≡◌ {A = ℕ} 0 1 = cc in absurd (omega arith)

  -- a tag that has a set has four octets
  four : (kind type tag : ℕ) → by_tag kind type tag ≡ only set taglen → taglen ≡ 4
  unfolding by_tag tagged
  four kind type tag h =
      go (eqb kind uni && eqb type c_tag) (eqb kind enni && eqb type s_tag) (within 1 4094 (vid_of tag)) h
    where
      go : (c s w : Bool) → cond c (cond w (only (set_of c_tagged (vid_of tag)) 4) [])
          (cond s (cond w (only (set_of s_tagged (vid_of tag)) 4) []) []) ≡ only set taglen → taglen ≡ 4
      go true s true h = let e : 4 ≡ taglen = cc in sym e
      go true s false h = nowhere h
      go false true true h = let e : 4 ≡ taglen = cc in sym e
      go false true false h = nowhere h
      go false false w h = nowhere h

  module _ (head : List ℕ) (long : length head ≡ 14 + taglen) (kind : ℕ) (p q : List ℕ) where
    pub sets_same : sets_of kind (head ++ p) ≡ only set taglen → sets_of kind (head ++ q) ≡ only set taglen
    unfolding sets_of
    sets_same h =
        rw (source_same head taglen long p q, type_same head taglen long p q 0 (omega arith))
        (go (group (source (head ++ p))) (eqb t c_tag || eqb t s_tag) h)
      where
        t : ℕ
        t = type_behind 0 (head ++ p)

        behind : ℕ → ℕ → List Member
        behind length tag = cond (ltb length 18) [] (by_tag kind t tag)

        under : behind (length (head ++ p)) (number 2 (drop 14 (head ++ p))) ≡ only set taglen
            → behind (length (head ++ q)) (number 2 (drop 14 (head ++ q))) ≡ only set taglen
        under h =
            by_lt (length (head ++ p)) 18
            (λ l less. nowhere (rw l at h))
            (λ l more.
            let e : taglen ≡ 4 = four kind t (number 2 (drop 14 (head ++ p))) (rw l at h) in
            let tag : number 2 (drop 14 (head ++ q)) ≡ number 2 (drop 14 (head ++ p))
            = number_in head taglen long 2 14 q (omega (arith, long, e)) ∙ sym (number_in head taglen long 2 14 p (omega (arith, long, e))) in
            let far : ltb (length (head ++ q)) 18 ≡ false = le-ltb (length (head ++ q)) 18 (rw length-append (omega (arith, long, e))) in
            rw (far, tag) (rw l at h))

        go : (g b : Bool)
            → cond g [] (cond b (behind (length (head ++ p)) (number 2 (drop 14 (head ++ p)))) (only (set_of untagged 0) 0)) ≡ only set taglen
            → cond g [] (cond b (behind (length (head ++ q)) (number 2 (drop 14 (head ++ q)))) (only (set_of untagged 0) 0)) ≡ only set taglen
        go true b h = nowhere h
        go false true h = under h
        go false false h = h

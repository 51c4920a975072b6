-- A frame that lies in a set has its whole tag, and that tag is one of the set's.
use mathlib.Core.Path.{◌≡◌, refl, sym}
use mathlib.Core.Bool.{Bool, true, false, cond, ◌&&◌, ◌||◌, false≢true}
use mathlib.Core.List.{List, [], ◌∷◌}
use Prim.Native.Nat.{ℕ, ◌+◌, ◌*◌, ◌/◌, ◌≤◌, ◌<◌, ◌^◌}
use native.Mathlib.Omega.{arith}
use lib.Dec.{eqb, ltb}
use lib.ListN.{length, drop}
use lib.Seq.{get_or-drop, drop-drop}
use borrow.Author.Tests.{eqb-true, eq-eqb, ltb-false}
use Rattle.octets.specs.Octets.{number}
use Rattle.octets.specs.Lists.{within}
use Rattle.octets.proofs.Laws.{Octets, number_parts}
use Rattle.codec.specs.declared.FrameSet.{FrameSet}
use Rattle.codec.specs.FrameSet.{uni, enni, untagged, c_tagged, s_tagged, c_tag, s_tag}
use Rattle.codec.specs.FrameSet.{source, group, type_behind, vid_of, set_of, tagged, by_tag, tag_fits, Member, member, only, sets_of}

-- a whole tag: its count of octets, that no other set has it, and that it fits
record Fit (set : FrameSet) (tags : ℕ) (rest : List Member) (type tag : ℕ) : Type 0 where
  four : tags ≡ 4
  alone : rest ≡ []
  fits : tag < 65536 → tag_fits set tags (type * 65536 + tag) ≡ true

both : (a b : Bool) → (a && b) ≡ true → (a ≡ true) × (b ≡ true)
both true b e = (refl, e)
both false b e = absurd (false≢true e)

fit : (kind type tag : ℕ) → eqb kind untagged ≡ false → type ≡ cond (eqb kind c_tagged) c_tag s_tag → tag < 65536
    → tag_fits (set_of kind (vid_of tag)) 4 (type * 65536 + tag) ≡ true
unfolding tag_fits set_of vid_of
fit kind type tag other e small =
    let high : (type * 65536 + tag) / 2 ^ 16 ≡ cond (eqb kind c_tagged) c_tag s_tag = omega arith in
    let low : vid_of (type * 65536 + tag) ≡ vid_of tag = omega arith in
    simp (other, eq-eqb _ _ high, eq-eqb _ _ low)

module _ {set : FrameSet} {tags : ℕ} {rest : List Member} where
  nowhere : {A : Type 0} → [] ≡ member set tags ∷ rest → A
  nowhere h = let z : ◌≡◌ {A = ℕ} 0 1 = cc in absurd (omega arith)

  -- a tag of the kind's own type
  own : (kind type tag : ℕ) → eqb kind untagged ≡ false → type ≡ cond (eqb kind c_tagged) c_tag s_tag
      → tagged kind (vid_of tag) ≡ member set tags ∷ rest → Fit set tags rest type tag
  unfolding tagged
  own kind type tag other e h = go (within 1 4094 (vid_of tag)) h
    where
      go : (b : Bool) → cond b (only (set_of kind (vid_of tag)) 4) [] ≡ member set tags ∷ rest → Fit set tags rest type tag
      go true h =
          let es : set_of kind (vid_of tag) ≡ set = cc in
          let et : 4 ≡ tags = cc in
          let er : [] ≡ rest = cc in
          record { four = sym et; alone = sym er; fits = λ small. rw (← es, ← et) (fit kind type tag other e small) }
      go false h = nowhere h

  by_tag_lem : (portKind type tag : ℕ) → by_tag portKind type tag ≡ member set tags ∷ rest → Fit set tags rest type tag
  unfolding by_tag
  by_tag_lem portKind type tag h =
      go (eqb portKind uni && eqb type c_tag) (eqb portKind enni && eqb type s_tag) refl refl h
    where
      go : (c s : Bool) → (eqb portKind uni && eqb type c_tag) ≡ c → (eqb portKind enni && eqb type s_tag) ≡ s
          → cond c (tagged c_tagged (vid_of tag)) (cond s (tagged s_tagged (vid_of tag)) []) ≡ member set tags ∷ rest
          → Fit set tags rest type tag
      go true s ec es h = own c_tagged type tag refl (eqb-true type c_tag (both (eqb portKind uni) (eqb type c_tag) ec).1) h
      go false true ec es h = own s_tagged type tag refl (eqb-true type s_tag (both (eqb portKind enni) (eqb type s_tag) es).1) h
      go false false ec es h = nowhere h

-- what a frame in a set has
record Placed (f : List ℕ) (set : FrameSet) (tags : ℕ) (rest : List Member) : Type 0 where
  few : tags ≤ 4
  alone : rest ≡ []
  long : 14 + tags ≤ length f
  fits : Octets f → tag_fits set tags (number tags (drop 12 f)) ≡ true

small : (f : List ℕ) → Octets f → number 2 (drop 14 f) < 65536
unfolding number
small f o = simp (get_or-drop, drop-drop) (omega (arith, o 14, o 15))

module _ (f : List ℕ) {set : FrameSet} {tags : ℕ} {rest : List Member} where
  under : Fit set tags rest (type_behind 0 f) (number 2 (drop 14 f)) → 18 ≤ length f → Placed f set tags rest
  unfolding type_behind
  under fit long = record {
    few = omega (arith, fit.four);
    alone = fit.alone;
    long = omega (arith, fit.four);
    fits = λ o.
        let join : number 2 (drop 12 f) * 65536 + number 2 (drop 14 f) ≡ number 4 (drop 12 f) = number_parts 2 2 12 f refl refl in
        let e : tags ≡ 4 = fit.four in
        rw (e, ← join) (rw e at (fit.fits (small f o)));
  }

  bare : only (set_of untagged 0) 0 ≡ member set tags ∷ rest → 14 ≤ length f → Placed f set tags rest
  unfolding tag_fits set_of number
  bare h long =
      let es : set_of untagged 0 ≡ set = cc in
      let et : 0 ≡ tags = cc in
      let er : [] ≡ rest = cc in
      record { few = omega arith; alone = sym er; long = omega arith; fits = λ o. rw (← es, ← et) }

  placed : (portKind : ℕ) → sets_of portKind f ≡ member set tags ∷ rest → 14 ≤ length f → Placed f set tags rest
  unfolding sets_of
  placed portKind h long =
      go (group (source f)) (eqb (type_behind 0 f) c_tag || eqb (type_behind 0 f) s_tag) (ltb (length f) 18) refl h
    where
      go : (g t short : Bool) → ltb (length f) 18 ≡ short
          → cond g []
          (cond t (cond short [] (by_tag portKind (type_behind 0 f) (number 2 (drop 14 f)))) (only (set_of untagged 0) 0)) ≡
          member set tags ∷ rest
          → Placed f set tags rest
      go true t short e h = nowhere h
      go false true true e h = nowhere h
      go false true false e h = under (by_tag_lem portKind (type_behind 0 f) (number 2 (drop 14 f)) h) (ltb-false (length f) 18 e)
      go false false short e h = bare h long

  -- it has that set alone
  pub set_alone : (portKind : ℕ) → sets_of portKind f ≡ member set tags ∷ rest → 14 ≤ length f → rest ≡ []
  set_alone portKind h long = (placed portKind h long).alone

  -- a tag has at most four octets
  pub tag_few : (portKind : ℕ) → sets_of portKind f ≡ member set tags ∷ rest → 14 ≤ length f → tags ≤ 4
  tag_few portKind h long = (placed portKind h long).few

  -- a frame in a set has its whole tag and the type behind it
  pub tag_whole : (portKind : ℕ) → sets_of portKind f ≡ member set tags ∷ rest → 14 ≤ length f → 14 + tags ≤ length f
  tag_whole portKind h long = (placed portKind h long).long

  -- and the tag is one of the set's
  pub tag_fits_lem : (portKind : ℕ) → sets_of portKind f ≡ member set tags ∷ rest → 14 ≤ length f → Octets f
      → tag_fits set tags (number tags (drop 12 f)) ≡ true
  tag_fits_lem portKind h long o = (placed portKind h long).fits o

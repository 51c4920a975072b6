-- The parse of a list, by what stands at a place of it.
use mathlib.Core.Path.{◌≡◌, refl, ap, sym, ◌∙◌}
use mathlib.Core.Bool.{Bool, true, false, cond}
use mathlib.Core.List.{List, [], ◌∷◌}
use Prim.Native.Nat.{ℕ, zero, suc, ◌+◌, ◌-◌, ◌≤◌, ◌<◌}
use native.Mathlib.Numerals.{add-one}
use native.Mathlib.Decide.{dec_le, dec_lt}
use native.Mathlib.Omega.{arith}
use lib.Dec.{leb, ltb, eqb}
use lib.ListN.{length, take, drop, get_or, length-drop, drop_of_length-le}
use lib.Seq.{drop-cons, drop-drop}
use borrow.Author.Tests.{lt-ltb, le-ltb, le-leb, lt-leb, leb-true}
use Rattle.octets.specs.Octets.{number}
use Rattle.codec_tlvs.specs.Tlv.{Parsed, ended, cut, followed, walk, parse}
use Rattle.codec_tlvs.specs.Walk.{step_at, tlv_of, bad}
use Rattle.codec_tlvs.specs.declared.Tlv.{Tlv as Found}
use Rattle.codec_tlvs.specs.declared.BadList.{BadList}
use Rattle.std.specs.Prelude.{Option, Some, None, Result, Ok, Err}

pub walk_drop : (n : ℕ) (l : List ℕ) → walk n l ≡ walk 0 (drop n l)
unfolding walk
walk_drop zero l = refl
walk_drop (suc n) [] = refl
walk_drop (suc n) (x ∷ l) = walk_drop n l

-- the parse that follows from what stands at a place
abbrev pub by_step : List ℕ → Result (Option Found) BadList → Parsed
by_step l (Ok (Some t)) = followed (tlv_of t.kind (take t.len (drop t.start l))) (parse (drop t.next l))
by_step l (Ok None) = ended
by_step l (Err e) = cut

-- a drop in two steps, at a place that is known by an equation
pub drop_to : (m n k : ℕ) (l : List ℕ) → n + m ≡ k → drop m (drop n l) ≡ drop k l
drop_to m n k l e = drop-drop m n l ∙ ap (λ (j : ℕ). drop j l) e

same_leb : (a b c d : ℕ) → (a ≤ b → c ≤ d) → (c ≤ d → a ≤ b) → leb a b ≡ leb c d
same_leb a b c d f g = go (dec_le a b)
  where
    go : Dec (a ≤ b) → leb a b ≡ leb c d
    go (yes h) = le-leb a b h ∙ sym (le-leb c d (f h))
    go (no h) =
        let z : c ≤ d → ⊥ = λ e. h (g e) in
        lt-leb a b (omega arith) ∙ sym (lt-leb c d (omega arith))

by_cond : (l : List ℕ) (a b : Bool) (t : Result (Option Found) BadList)
    → by_step l (cond a (Ok None) (cond b t (Err bad))) ≡ cond a ended (cond b (by_step l t) cut)
by_cond l true b t = refl
by_cond l false true t = refl
by_cond l false false t = refl

pub parse_at : (l : List ℕ) (at : ℕ) → parse (drop at l) ≡ by_step l (step_at l at)
unfolding parse step_at walk
parse_at l at = go (dec_lt at (length l))
  where
    go : Dec (at < length l) → parse (drop at l) ≡ by_step l (step_at l at)
    go (no h) = rw (drop_of_length-le l {i = at} (omega arith), le-ltb at (length l) (omega arith))
    go (yes h) =
        let r : List ℕ = drop (at + 1) l in
        let n : ℕ = number 2 r in
        let lr : length r ≡ length l - (at + 1) = length-drop (at + 1) l in
        let e : drop at l ≡ get_or l at 0 ∷ r = drop-cons l at 0 h ∙ rw add-one in
        let b : leb (2 + n) (length r) ≡ leb (at + 3 + n) (length l) =
        same_leb (2 + n) (length r) (at + 3 + n) (length l) (λ p. omega arith) (λ p. omega arith) in
        let v : drop 2 r ≡ drop (at + 3) l = drop_to 2 (at + 1) (at + 3) l (omega arith) in
        let w : walk (2 + n) r ≡ parse (drop (at + 3 + n) l) =
        walk_drop (2 + n) r ∙ ap (λ (m : List ℕ). walk 0 m) (drop_to (2 + n) (at + 1) (at + 3 + n) l (omega arith)) in
        rw (e, lt-ltb at (length l) h, by_cond, b, v, w)

-- what is known of the places of a TLV that stands in the list
pub record Stood (l : List ℕ) (at : ℕ) (t : Found) : Type 0 where
  pub starts : t.start ≡ at + 3
  pub follows : t.next ≡ at + 3 + t.len
  pub inside : t.next ≤ length l

pub stood : (l : List ℕ) (at : ℕ) {t : Found} → Ok (Some t) ≡ step_at l at → Stood l at t
unfolding step_at
stood l at {t} e =
    go (ltb at (length l)) (eqb (get_or l at 0) 0) (leb (at + 3 + n) (length l)) refl e
  where
    n : ℕ
    n = number 2 (drop (at + 1) l)

    whole : Found
    whole = record { kind = get_or l at 0; start = at + 3; len = n; next = at + 3 + n }

    go : (a b d : Bool) → leb (at + 3 + n) (length l) ≡ d
        → Ok (Some t) ≡ cond a (cond b (Ok None) (cond d (Ok (Some whole)) (Err bad))) (Err bad)
        → Stood l at t
    go true false true f h =
        let same : whole ≡ t = cc in
        rw (← same) (record { starts = refl; follows = refl; inside = leb-true (at + 3 + n) (length l) f })
    go false b d f h = cc
    go true true d f h = cc
    go true false false f h = cc

module _ (l : List ℕ) (at : ℕ) {t : Found} (e : Ok (Some t) ≡ step_at l at) where
  met : Stood l at t
  met = stood l at e

  pub nearer : length l - t.next < length l - at
  nearer = omega (arith, met)

  pub in_list : t.start + t.len ≤ length l
  in_list = omega (arith, met)

-- Copying the unknown TLVs: the loop's invariant, with its start, its turn and its end.
use mathlib.Core.Path.{◌≡◌, refl, ap, sym, ◌∙◌}
use mathlib.Core.Bool.{Bool, true, false, cond}
use mathlib.Core.List.{List, [], ◌∷◌, ◌++◌}
use Prim.Native.Nat.{ℕ, ◌+◌, ◌≤◌}
use native.Mathlib.Omega.{arith}
use lib.ListN.{length, take, drop, get_or, length-append}
use Rattle.octets.specs.Octets.{octets, over, splice}
use Rattle.octets.proofs.Over.{splice_splice, splice_none, length_splice}
use Rattle.codec_tlvs.specs.Tlv.{Tlv, Parsed, ended, cut, followed, parse, is_unknown, unknowns, tlv_octets, tlv_list}
use Rattle.codec_tlvs.specs.Walk.{step_at, tlv_of, kept}
use Rattle.codec_tlvs.specs.declared.Tlv.{Tlv as Found}
use Rattle.codec_tlvs.specs.declared.BadList.{BadList}
use Rattle.std.specs.Prelude.{Some, None, Ok, Err}
use Rattle.codec_tlvs.proofs.Walk.{parse_at}

pub kept_none : (kind : ℕ) (v : List ℕ) → is_unknown (tlv_of kind v) ≡ false → kept kind v ≡ []
unfolding kept
kept_none kind v e = rw e

-- the octets that are written for an unknown TLV: its type, the octets of its length, and its value
pub kept_all : (kind : ℕ) (v : List ℕ) {size : List ℕ} → is_unknown (tlv_of kind v) ≡ true → size ≡ octets 2 (length v)
    → kept kind v ≡ (kind ∷ get_or size 0 0 ∷ get_or size 1 0 ∷ []) ++ v
unfolding kept tlv_octets octets
kept_all kind v e z = rw (e, z)

unknown_first : (t : Tlv) (p : Parsed)
    → tlv_list (unknowns (followed t p).tlvs) ≡ kept t.kind t.value ++ tlv_list (unknowns p.tlvs)
unfolding unknowns tlv_list kept followed
unknown_first t p = go (is_unknown t) (unknowns p.tlvs)
  where
    go : (b : Bool) (us : List Tlv) → tlv_list (cond b (t ∷ us) us) ≡ cond b (tlv_octets t) [] ++ tlv_list us
    go true us = refl
    go false us = refl

-- what is still to be copied at a place
abbrev pub rest : List ℕ → ℕ → List ℕ
rest l at = tlv_list (unknowns (parse (drop at l)).tlvs)

-- at `at`, with n octets copied, `out` needs only the rest to be u over what it was
pub record Copying (l u out₀ : List ℕ) (at n : ℕ) (out : List ℕ) : Type 0 where
  pub room : length u ≤ length out₀
  pub count : n + length (rest l at) ≡ length u
  pub list : splice n (rest l at) out ≡ over u out₀
  pub long : length out ≡ length out₀

pub start : (l out : List ℕ) (from : ℕ) → length (rest l from) ≤ length out → Copying l (rest l from) out from 0 out
start l out from h = record { room = h; count = omega arith; list = refl; long = refl }

module _ {l u out₀ : List ℕ} {at n : ℕ} {out : List ℕ} (c : Copying l u out₀ at n out) where
  module _ {t : Found} (e : Ok (Some t) ≡ step_at l at) where
    first : rest l at ≡ kept t.kind (take t.len (drop t.start l)) ++ rest l t.next
    first = rw (parse_at l at, ← e) (unknown_first (tlv_of t.kind (take t.len (drop t.start l))) (parse (drop t.next l)))

    pub room : n + length (kept t.kind (take t.len (drop t.start l))) ≤ length out
    room = omega (arith, c.room, c.count, c.long, simp length-append at (ap length first))

    pub turn : {n' : ℕ} {out' : List ℕ} → n' ≡ n + length (kept t.kind (take t.len (drop t.start l)))
        → out' ≡ splice n (kept t.kind (take t.len (drop t.start l))) out → Copying l u out₀ t.next n' out'
    turn {n'} {out'} en eo =
        let w : List ℕ = kept t.kind (take t.len (drop t.start l)) in
        let f : length (rest l at) ≡ length w + length (rest l t.next) = ap length first ∙ length-append w (rest l t.next) in
        record {
          room = c.room;
          count = omega (arith, c.count);
          list = rw (en, eo, splice_splice n w (rest l t.next) out room, ← first) c.list;
          long = rw eo (length_splice n w out room ∙ c.long);
        }

  pub end : rest l at ≡ [] → (n ≡ length u) × (out ≡ over u out₀)
  end z = (omega (arith, c.count, ap length z), sym (splice_none n out) ∙ rw z at c.list)

pub none_at_end : (l : List ℕ) (at : ℕ) → Ok None ≡ step_at l at → rest l at ≡ []
unfolding unknowns tlv_list ended
none_at_end l at e = rw (parse_at l at, ← e)

pub none_at_bad : (l : List ℕ) (at : ℕ) {d : BadList} → Err d ≡ step_at l at → rest l at ≡ []
unfolding unknowns tlv_list cut
none_at_bad l at e = rw (parse_at l at, ← e)

-- A frame that lies in a set has a unicast source, and the set's kind and VID are small.
use mathlib.Core.Path.{◌≡◌, refl, subst}
use mathlib.Core.Bool.{Bool, true, false, cond, ◌&&◌, ◌||◌}
use mathlib.Core.List.{List, [], ◌∷◌}
use Prim.Native.Nat.{ℕ, ◌<◌}
use native.Mathlib.Omega.{arith}
use lib.Dec.{eqb, ltb}
use lib.ListN.{length, drop}
use Rattle.octets.specs.Octets.{number}
use Rattle.octets.specs.Lists.{within}
use Rattle.octets.proofs.ListLaws.{within_high}
use Rattle.codec.specs.declared.FrameSet.{FrameSet}
use Rattle.codec.specs.FrameSet.{uni, enni, untagged, c_tagged, s_tagged, c_tag, s_tag}
use Rattle.codec.specs.FrameSet.{source, group, type_behind, vid_of, set_of, tagged, by_tag, Member, member, only, sets_of}

pub record InPlace (f : List ℕ) (set : FrameSet) : Type 0 where
  pub kind_small : set.kind < 256
  pub vid_small : set.vid < 65536
  pub unicast : group (source f) ≡ false

-- what its sets say of a frame
abbrev Placed : List ℕ → List Member → Type 0
Placed f [] = Unit {0}
Placed f (member set taglen ∷ more) = InPlace f set

module _ (f : List ℕ) where
  module _ (u : group (source f) ≡ false) where
    tagged_placed : (kind vid : ℕ) → kind < 256 → Placed f (tagged kind vid)
    unfolding tagged set_of
    tagged_placed kind vid k = go (within 1 4094 vid) refl
      where
        go : (b : Bool) → within 1 4094 vid ≡ b → Placed f (cond b (only (set_of kind vid) 4) [])
        go true e = record { kind_small = k; vid_small = omega (arith, within_high 1 4094 vid e); unicast = u }
        go false e = tt

    by_tag_placed : (portKind type tag : ℕ) → Placed f (by_tag portKind type tag)
    unfolding by_tag
    by_tag_placed portKind type tag = go (eqb portKind uni && eqb type c_tag) (eqb portKind enni && eqb type s_tag)
      where
        go : (c s : Bool) → Placed f (cond c (tagged c_tagged (vid_of tag)) (cond s (tagged s_tagged (vid_of tag)) []))
        go true s = tagged_placed c_tagged (vid_of tag) (omega arith)
        go false true = tagged_placed s_tagged (vid_of tag) (omega arith)
        go false false = tt

    bare_placed : Placed f (only (set_of untagged 0) 0)
    unfolding set_of
    bare_placed = record { kind_small = omega arith; vid_small = omega arith; unicast = u }

  placed : (portKind : ℕ) → Placed f (sets_of portKind f)
  unfolding sets_of
  placed portKind =
      go (group (source f)) (eqb (type_behind 0 f) c_tag || eqb (type_behind 0 f) s_tag) (ltb (length f) 18) refl
    where
      behind : List Member
      behind = by_tag portKind (type_behind 0 f) (number 2 (drop 14 f))

      go : (g t short : Bool) → group (source f) ≡ g
          → Placed f (cond g [] (cond t (cond short [] behind) (only (set_of untagged 0) 0)))
      go true t short u = tt
      go false true true u = tt
      go false true false u = by_tag_placed u portKind (type_behind 0 f) (number 2 (drop 14 f))
      go false false short u = bare_placed u

  pub in_place : (portKind : ℕ) (set : FrameSet) (taglen : ℕ) {more : List Member} → sets_of portKind f ≡ member set taglen ∷ more
      → InPlace f set
  in_place portKind set taglen e = subst (Placed f) e (placed portKind)

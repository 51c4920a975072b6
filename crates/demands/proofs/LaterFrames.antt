-- A request and the same one rewritten: all that a unit looks at is the same, but for the TLVs that it copies.
use mathlib.Core.Path.{◌≡◌, refl}
use mathlib.Core.Bool.{Bool, true, false, cond}
use mathlib.Core.List.{List, ◌++◌}
use Prim.Native.Nat.{ℕ, ◌+◌, ◌≤◌}
use native.Mathlib.Omega.{arith}
use lib.Dec.{eqb, ltb}
use lib.ListN.{length, drop, length-append, length-drop}
use lib.Seq.{length-take-le}
use borrow.Author.Tests.{le-leb, le-ltb}
use Rattle.octets.specs.Lists.{within}
use Rattle.codec.specs.declared.FrameSet.{FrameSet}
use Rattle.codec.specs.declared.Addressed.{Addressed}
use Rattle.codec.specs.declared.Addressed.TheVariants.{Elsewhere, Unicast, Multicast}
use Rattle.codec.specs.declared.Request.TheVariants.{Malformed, Reserved, Activate, Deactivate, State as StateRequest}
use Rattle.codec.specs.FrameSet.{destination, source, only, sets_of}
use Rattle.codec.specs.Request.{level_of, type_of, is_request, malformed, request_of, by_type, copies_of}
use Rattle.codec_tlvs.specs.Tlv.{Tlv, unknowns, tlv_list}
use Rattle.codec.specs.Later.{Parts, pdu_in, Laid, LaterParts}
use Rattle.codec.proofs.LaterRead.{opcode_is, long, copies_are}
use Rattle.codec.proofs.LaterLaws.{later_level, later_type, later_addressed, later_request}
use Rattle.codec_replies.specs.Reply.{tag_of}
use Rattle.plan.specs.Plan.{port_numbered}
use Rattle.calls.specs.Frame.{Arrived, arrived_at, pdu, mp_of, for_mp, goes_on}
use Rattle.calls.specs.Calls.{bad_length}
use Rattle.demands.specs.World.{World}
use Rattle.demands.specs.Frame.{arrived}
use Rattle.demands.specs.LaterRuns.{Asks}
use Rattle.demands.proofs.HeadLaws.{destination_same, source_same, soam_same, tag_same, pdu_is, sets_same}
use Rattle.demands.proofs.LaterLength.{later_longer}

-- What the two frames f and g have in common, at a port of a world; f has the TLVs ts, and g has us.
pub record Twins (w : World) (port side : ℕ) (set : FrameSet) (taglen : ℕ) (f g : List ℕ) (ts us : List Tlv) : Type 0 where
  pub placed : sets_of (port_numbered port w.plan).kind g ≡ only set taglen
  pub to_same : destination g ≡ destination f
  pub from_same : source g ≡ source f
  pub tag_same : tag_of taglen g ≡ tag_of taglen f
  pub tag_length : length (tag_of taglen f) ≡ taglen
  pub length_same : bad_length g ≡ bad_length f
  pub for_same : for_mp (arrived w port side set taglen g) ≡ for_mp (arrived w port side set taglen f)
  pub goes_same : (whom : Addressed) → goes_on (arrived w port side set taglen g) whom ≡ goes_on (arrived w port side set taglen f) whom
  pub level_same : level_of (pdu (arrived w port side set taglen g)) ≡ level_of (pdu (arrived w port side set taglen f))
  pub type_same : type_of (pdu (arrived w port side set taglen g)) ≡ type_of (pdu (arrived w port side set taglen f))
  pub old_long : ltb (length (pdu (arrived w port side set taglen f))) 12 ≡ false
  pub new_long : ltb (length (pdu (arrived w port side set taglen g))) 12 ≡ false
  pub request_same : request_of (for_mp (arrived w port side set taglen f)) (destination g) (pdu (arrived w port side set taglen g))
      ≡ request_of (for_mp (arrived w port side set taglen f)) (destination f) (pdu (arrived w port side set taglen f))
  pub formed : request_of (for_mp (arrived w port side set taglen f)) (destination f) (pdu (arrived w port side set taglen f)) ≡ Malformed → ⊥
  pub old_copies : copies_of (pdu (arrived w port side set taglen f)) ≡ tlv_list (unknowns ts)
  pub new_copies : copies_of (pdu (arrived w port side set taglen g)) ≡ tlv_list (unknowns us)

-- a type that is known or reserved is not malformed
not_malformed : (kind seconds : ℕ) → by_type kind seconds ≡ Malformed → ⊥
unfolding by_type
not_malformed kind seconds h = go (eqb kind 1) (eqb kind 2) (eqb kind 3) h
  where
    go : (a b c : Bool) → cond a (Activate seconds) (cond b Deactivate (cond c StateRequest Reserved)) ≡ Malformed → ⊥
    go true b c h = let z : ◌≡◌ {A = ℕ} 0 1 = cc in absurd (omega arith)
    go false true c h = let z : ◌≡◌ {A = ℕ} 0 1 = cc in absurd (omega arith)
    go false false true h = let z : ◌≡◌ {A = ℕ} 0 1 = cc in absurd (omega arith)
    go false false false h = let z : ◌≡◌ {A = ℕ} 0 1 = cc in absurd (omega arith)

module _ (w : World) (port side taglen : ℕ) (set : FrameSet) (head : List ℕ) (len : length head ≡ 14 + taglen)
    (old new : Parts) (lo : Laid old) (ln : Laid new) (l : LaterParts old new)
    (asks : Asks w port side set taglen (head ++ pdu_in old)) (fits : length (head ++ pdu_in new) ≤ 2000) where
  abbrev f : List ℕ
  f = head ++ pdu_in old

  abbrev g : List ℕ
  g = head ++ pdu_in new

  abbrev a : Arrived
  a = arrived w port side set taglen f

  abbrev b : Arrived
  b = arrived w port side set taglen g

  old_pdu : pdu a ≡ pdu_in old
  unfolding pdu arrived arrived_at
  old_pdu = pdu_is head taglen len (pdu_in old)

  new_pdu : pdu b ≡ pdu_in new
  unfolding pdu arrived arrived_at
  new_pdu = pdu_is head taglen len (pdu_in new)

  to : destination g ≡ destination f
  to = destination_same head taglen len (pdu_in old) (pdu_in new)

  mp_same : mp_of b ≡ mp_of a
  unfolding mp_of arrived arrived_at
  mp_same = rw (new_pdu, old_pdu, later_level l lo ln)

  for_twin : for_mp b ≡ for_mp a
  unfolding for_mp is_request arrived arrived_at
  for_twin =
      rw (
        mp_same,
        soam_same head taglen len (pdu_in old) (pdu_in new),
        pdu_is head taglen len (pdu_in new),
        pdu_is head taglen len (pdu_in old),
        opcode_is ln,
        opcode_is lo,
        new_pdu,
        old_pdu,
        to,
        later_addressed l lo ln (port_numbered port w.plan).address (destination f),
      )

  goes : (whom : Addressed) → goes_on b whom ≡ goes_on a whom
  unfolding goes_on
  goes Elsewhere = refl
  goes Unicast = refl
  goes Multicast = rw mp_same

  well : malformed (for_mp a) (destination f) (pdu_in old) ≡ false
  well = rw old_pdu at asks.well_formed

  not_bad : request_of (for_mp a) (destination f) (pdu a) ≡ Malformed → ⊥
  unfolding request_of
  not_bad h = not_malformed (type_of (pdu_in old)) _ (rw (old_pdu, well) at h)

  tag_whole : length (tag_of taglen f) ≡ taglen
  unfolding tag_of
  tag_whole = length-take-le taglen (drop 12 f) (rw (length-drop, length-append) (omega (arith, len)))

  -- both are long enough, and short enough
  lengths : bad_length g ≡ bad_length f
  unfolding bad_length within
  lengths =
      let n : length g ≡ length head + length (pdu_in new) = length-append head (pdu_in new) in
      let o : length f ≡ length head + length (pdu_in old) = length-append head (pdu_in old) in
      rw (
        le-leb 14 (length g) (omega (arith, len)),
        le-leb 14 (length f) (omega (arith, len)),
        le-leb (length g) 2000 fits,
        le-leb (length f) 2000 (omega (arith, later_longer old new l, fits)),
      )

  pub twins : Twins w port side set taglen f g old.tlvs new.tlvs
  twins =
      record {
        placed = sets_same head len (port_numbered port w.plan).kind (pdu_in old) (pdu_in new) asks.placed;
        to_same = to;
        from_same = source_same head taglen len (pdu_in old) (pdu_in new);
        tag_same = tag_same head taglen len (pdu_in old) (pdu_in new);
        tag_length = tag_whole;
        length_same = lengths;
        for_same = for_twin;
        goes_same = goes;
        level_same = rw (new_pdu, old_pdu) (later_level l lo ln);
        type_same = rw (new_pdu, old_pdu) (later_type l lo ln);
        old_long = rw old_pdu (le-ltb (length (pdu_in old)) 12 (long lo));
        new_long = rw new_pdu (le-ltb (length (pdu_in new)) 12 (long ln));
        request_same = rw (to, new_pdu, old_pdu) (later_request l lo ln (for_mp a) (destination f) well);
        formed = not_bad;
        old_copies = rw old_pdu (copies_are lo);
        new_copies = rw new_pdu (copies_are ln);
      }

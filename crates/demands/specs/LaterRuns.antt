-- Later protocol versions (LATER): a run whose requests are rewritten, and what is then seen of it.
use Rattle.std.specs.Prelude.{◌≡◌, true, false, List, [], ◌∷◌, ◌++◌, ℕ, ◌+◌, ◌<◌, ◌≤◌, length}
use Rattle.octets.specs.Octets.{over}
use Rattle.octets.specs.Lists.{within}
use Rattle.codec.specs.declared.FrameSet.{FrameSet}
use Rattle.codec.specs.FrameSet.{destination, only, sets_of}
use Rattle.codec.specs.Request.{type_of, malformed}
use Rattle.codec_tlvs.specs.Tlv.{Tlv, unknowns, tlv_list}
use Rattle.plan.specs.Plan.{port_numbered, in_plan}
use Rattle.calls.specs.declared.Answer.{Answer}
use Rattle.calls.specs.declared.Answer.TheVariants.{Refused, Forwarded, Dropped, Replied, RepliedForwarded}
use Rattle.calls.specs.Answer.{number_of}
use Rattle.calls.specs.Frame.{pdu, for_mp}
use Rattle.calls.specs.Calls.{Call, frame, lent}
use Rattle.demands.specs.World.{World}
use Rattle.demands.specs.Frame.{is_for, arrived}
use Rattle.demands.specs.Calls.{call}
use Rattle.demands.specs.Runs.{Seen}
use Rattle.demands.specs.Later.{Later}

-- ---- which requests

-- LATER-2: a well-formed request of type 1, 2 or 3 for an MP, with 12 or more PDU octets.
pub record Asks (w : World) (port side : ℕ) (set : FrameSet) (taglen : ℕ) (f : List ℕ) : Type 0 where
  pub placed : sets_of (port_numbered port w.plan).kind f ≡ only set taglen
  pub in_plan_is : in_plan (arrived w port side set taglen f).flow.number ≡ true
  pub for_mp_is : is_for (for_mp (arrived w port side set taglen f)) ≡ true
  pub long : 12 ≤ length (pdu (arrived w port side set taglen f))
  pub type_known : within 1 3 (type_of (pdu (arrived w port side set taglen f))) ≡ true
  pub well_formed : malformed (for_mp (arrived w port side set taglen f)) (destination f) (pdu (arrived w port side set taglen f)) ≡ false

-- ---- a run rewritten: any requests of it, each its own way

-- what became of a call: nothing; or its TLVs were these, and are now those, with so many octets of tag
pub data Became : Type 0 where
  left_alone : Became
  rewritten : (taglen : ℕ) (ts us : List Tlv) → Became

module _ (keys : ℕ) where
  -- LATER-1, LATER-10: a run of the world of machines, and the same run with any of its requests rewritten.
  pub data Rewritten : World → List Call → List Call → List Became → Type 0 where
    ended : {w : World} → Rewritten w [] [] []
    same : {w : World} {c : Call} {cs ds : List Call} {fs : List Became}
        → Rewritten (call keys w c).world cs ds fs
        → Rewritten w (c ∷ cs) (c ∷ ds) (left_alone ∷ fs)
    later : {w : World} {port side : ℕ} {set : FrameSet} {taglen : ℕ} {f g out : List ℕ} {cs ds : List Call} {fs : List Became}
        → Asks w port side set taglen f
        → (r : Later f g)
        → length r.head ≡ 14 + taglen
        → Rewritten (call keys w (frame port side f out)).world cs ds fs
        → Rewritten w (frame port side f out ∷ cs) (frame port side g out ∷ ds)
        (rewritten taglen r.old.tlvs r.new.tlvs ∷ fs)

-- ---- what is seen

-- REPLY-9, LATER-8: flag bit 3, set if an unknown TLV is copied.
unfoldable pub copied_bit : List Tlv → ℕ
copied_bit [] = 0
copied_bit (t ∷ ts) = 4

-- LATER-8: two replies that differ in the copies of their own unknown TLVs, in flag bit 3 and in length, and in nothing else. `before`
-- counts the octets ahead of the flags.
pub record Replies (before : ℕ) (ts us : List Tlv) (old new : List ℕ) : Type 0 where
  pub start : List ℕ
  pub flags : ℕ
  pub rest : List ℕ
  pub start_length : length start ≡ before
  pub flags_small : flags < 4
  pub old_is : old ≡ start ++ ((flags + copied_bit (unknowns ts)) ∷ rest) ++ tlv_list (unknowns ts) ++ (0 ∷ [])
  pub new_is : new ≡ start ++ ((flags + copied_bit (unknowns us)) ∷ rest) ++ tlv_list (unknowns us) ++ (0 ∷ [])

-- the answers that carry a reply to a frame
pub data Reply : (ℕ → Answer) → Type 0 where
  reply : Reply Replied
  reply_and_forward : Reply RepliedForwarded

-- LATER-2: the answers to a request where no reply is sent.
pub data Silent : Answer → Type 0 where
  refused : {n : ℕ} → Silent (Refused n)
  forwarded : Silent Forwarded
  dropped : Silent Dropped

-- LATER-1, LATER-8: what is seen of a call and of what became of it: the same, or the same outcome with two such replies.
pub data Matches : Call → Became → Seen → Seen → Type 0 where
  equal : {c : Call} {x : Seen} → Matches c left_alone x x
  silent : {c : Call} {taglen : ℕ} {ts us : List Tlv} {a : Answer} → Silent a
      → Matches c (rewritten taglen ts us) (record { number = number_of a; out = lent c }) (record { number = number_of a; out = lent c })
  replied : {c : Call} {taglen : ℕ} {ts us : List Tlv} {a : ℕ → Answer} {old new : List ℕ} → Reply a
      → Replies (16 + taglen) ts us old new
      → Matches c (rewritten taglen ts us) (record { number = number_of (a (length old)); out = over old (lent c) })
      (record { number = number_of (a (length new)); out = over new (lent c) })

-- LATER-1: so it is for each call of a run.
pub data AllMatch : List Call → List Became → List Seen → List Seen → Type 0 where
  ended : AllMatch [] [] [] []
  next : {c : Call} {cs : List Call} {f : Became} {fs : List Became} {x y : Seen} {xs ys : List Seen} → Matches c f x y
      → AllMatch cs fs xs ys
      → AllMatch (c ∷ cs) (f ∷ fs) (x ∷ xs) (y ∷ ys)

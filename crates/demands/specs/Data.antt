-- The machine (MACHINE): which machine is a frame's own, what a frame is to it, and which frames are turned round.
use Rattle.std.specs.Prelude.{◌≡◌, List, [], ◌∷◌, Bool, true, false, ◌&&◌, ℕ, ◌%◌, ◌≤◌, ◌^◌, eqb, leb, length}
use Rattle.codec.specs.declared.FrameSet.{FrameSet}
use Rattle.codec.specs.declared.Addressed.{Addressed}
use Rattle.codec.specs.declared.Addressed.TheVariants.{Elsewhere}
use Rattle.codec.specs.declared.Request.{Request}
use Rattle.codec.specs.FrameSet.{Member, member, only, sets_of, destination, source, soam, pdu_of}
use Rattle.codec.specs.Request.{request_of, level_of}
use Rattle.plan.specs.Plan.{port_numbered, flow_of_set, in_plan}
use Rattle.calls.specs.declared.Answer.{Answer}
use Rattle.calls.specs.declared.Answer.TheVariants.{Refused, Forwarded, Dropped, Looped, Replied, RepliedForwarded}
use Rattle.calls.specs.declared.Answer.TheVariants.{Noticed, Done, Faulty}
use Rattle.calls.specs.Frame.{for_mp}
use Rattle.demands.specs.Machine.{Machine, prohibited, inactive, active}
use Rattle.demands.specs.World.{World, same_set, full_for}
use Rattle.demands.specs.Frame.{Told, is_for, arrived}

-- ---- a frame's own machine

-- the sets of a frame at a port: at most one
unfoldable pub sets_at : World → ℕ → List ℕ → List Member
sets_at w port f = sets_of (port_numbered port w.plan).kind f

-- Is the machine of p, s and x that of the port, of the set and of the source?
unfoldable pub is_of : ℕ → ℕ → List Member → ℕ → FrameSet → ℕ → Bool
is_of port source [] p s x = false
is_of port source (member set taglen ∷ more) p s x = eqb p port && (same_set s set && eqb x source)

-- SET-12, MACHINE-37: is the machine of p, s and x the frame's own?
unfoldable pub is_own : World → ℕ → List ℕ → ℕ → FrameSet → ℕ → Bool
is_own w port f p s x = is_of port (source f) (sets_at w port f) p s x

-- SET-10: does the plan have a flow for the set on the port?
unfoldable pub in_set : World → ℕ → List Member → Bool
in_set w port [] = false
in_set w port (member set taglen ∷ more) = in_plan (flow_of_set port set w.plan).number

-- ---- data and requests

-- MACHINE-36, MP-6: data is a frame of this set, which the plan has, that is not for an MP.
pub record IsData (w : World) (port side : ℕ) (set : FrameSet) (taglen : ℕ) (f : List ℕ) : Type 0 where
  pub placed : sets_at w port f ≡ only set taglen
  pub planned : in_set w port (only set taglen) ≡ true
  pub for_no_mp : for_mp (arrived w port side set taglen f) ≡ Elsewhere

-- MP-2: a frame of this set, which the plan has, with this request for an MP, of 12 PDU octets or more.
pub record Carries (w : World) (port side : ℕ) (set : FrameSet) (taglen : ℕ) (f : List ℕ) (r : Request) : Type 0 where
  pub placed : sets_at w port f ≡ only set taglen
  pub planned : in_set w port (only set taglen) ≡ true
  pub whom : Addressed
  pub for_mp_is : for_mp (arrived w port side set taglen f) ≡ whom
  pub some_mp : is_for whom ≡ true
  pub long : 12 ≤ length (pdu_of taglen f)
  pub request : request_of whom (destination f) (pdu_of taglen f) ≡ r

-- MACHINE-37: another world, where the unit is as full for the frame's flow if the frame is for an MP.
abbrev pub AsFull : ℕ → World → ℕ → ℕ → FrameSet → ℕ → List ℕ → World → Type 0
AsFull keys w port side set taglen f u =
    is_for (for_mp (arrived w port side set taglen f)) ≡ true
    → full_for keys (flow_of_set port set w.plan) u ≡ full_for keys (flow_of_set port set w.plan) w

-- Two answers to one frame, whose own machine is that of p, s and x: the same answer with the same octets, and the same own machine
-- after it.
pub record AnsweredAlike (p : ℕ) (s : FrameSet) (x : ℕ) (a b : Told) : Type 0 where
  pub answer_same : a.answer ≡ b.answer
  pub octets_same : a.octets ≡ b.octets
  pub own_same : a.world.machine p s x ≡ b.world.machine p s x

-- ---- frames that are turned round

-- MACHINE-36: is the machine active, and is this its session's side?
unfoldable pub facing : ℕ → Machine → Bool
facing side (prohibited owed) = false
facing side (inactive owed) = false
facing side (active level own left tag) = eqb side own

-- MACHINE-29, MACHINE-36: is the frame SOAM of the session's level or lower?
unfoldable pub exempt : ℕ → List ℕ → Machine → Bool
exempt taglen f (prohibited owed) = false
exempt taglen f (inactive owed) = false
exempt taglen f (active level side left tag) = soam taglen f && leb (level_of (pdu_of taglen f)) level

-- MACHINE-36: turned round is a frame that is data, whose own machine is active and has the frame's side, and that is not SOAM of the
-- session's level or lower.
pub record Turned (w : World) (port side : ℕ) (f : List ℕ) : Type 0 where
  pub set : FrameSet
  pub taglen : ℕ
  pub is_data : IsData w port side set taglen f
  pub faces : facing side (w.machine port set (source f)) ≡ true
  pub not_exempt : exempt taglen f (w.machine port set (source f)) ≡ false

-- CALL-19: is the outcome loop, by the answer, and by bits 0 to 7 of the host's number?
unfoldable pub is_looped : Answer → Bool
is_looped (Refused n) = false
is_looped Forwarded = false
is_looped Dropped = false
is_looped (Looped n) = true
is_looped (Replied n) = false
is_looped (RepliedForwarded n) = false
is_looped (Noticed port side n) = false
is_looped Done = false
is_looped (Faulty line reason) = false

unfoldable pub says_loop : ℕ → Bool
says_loop number = eqb (number % 2 ^ 8) 3

-- Time (TIME): the milliseconds of a run, by the accepted readings, and the calls that leave a machine to them.
use Rattle.std.specs.Prelude.{List, [], ◌∷◌, Bool, true, false, cond, ◌&&◌, ◌||◌, not, ℕ, ◌+◌, eqb}
use Rattle.codec.specs.declared.FrameSet.{FrameSet}
use Rattle.codec.specs.declared.Addressed.{Addressed}
use Rattle.codec.specs.declared.Addressed.TheVariants.{Elsewhere, Unicast, Multicast}
use Rattle.codec.specs.declared.Request.{Request}
use Rattle.codec.specs.declared.Request.TheVariants.{Malformed, Reserved, Activate, Deactivate, State as StateRequest}
use Rattle.codec.specs.FrameSet.{Member, member, destination, set_of}
use Rattle.codec.specs.Request.{request_of}
use Rattle.machine.specs.Time.{elapsed}
use Rattle.plan.specs.Plan.{flow_numbered}
use Rattle.calls.specs.Frame.{Arrived, pdu, for_mp}
use Rattle.calls.specs.Calls.{Call, make, frame, tick, allow, prohibit, notice, restart}
use Rattle.demands.specs.World.{World, same_set}
use Rattle.demands.specs.Calls.{refusal, call}
use Rattle.demands.specs.Frame.{arrived, activated, deactivated}
use Rattle.demands.specs.Data.{sets_at, is_own}

-- ---- the milliseconds of a run

module _ (keys : ℕ) where
  -- TIME-2, TIME-7: the milliseconds of a call: those that elapse at a tick that is not refused.
  unfoldable pub elapsed_by : World → Call → ℕ
  elapsed_by w (make text clock) = 0
  elapsed_by w (frame port side octets out) = 0
  elapsed_by w (tick clock) = cond (eqb (refusal keys w (tick clock)) 0) (elapsed clock w.clock) 0
  elapsed_by w (allow flow) = 0
  elapsed_by w (prohibit flow) = 0
  elapsed_by w (notice out) = 0
  elapsed_by w (restart clock) = 0

  -- TIME-7: the milliseconds of a run, those of its calls together.
  unfoldable pub elapsed_over : World → List Call → ℕ
  elapsed_over w [] = 0
  elapsed_over w (c ∷ cs) = elapsed_by w c + elapsed_over (call keys w c).world cs

-- ---- calls that leave a machine alone

-- MACHINE-15: a request that is carried out gets 0 or 4; one that gets 2, 5, 6 or 7 leaves all machines as they were.
unfoldable pub carried_out : ℕ → Bool
carried_out code = eqb code 0 || eqb code 4

module _ (keys : ℕ) where
  -- MACHINE-15: an Activate or Deactivate that is carried out; no other request changes a machine.
  unfoldable pub changes : World → FrameSet → Arrived → Request → Bool
  changes w set a Malformed = false
  changes w set a Reserved = false
  changes w set a (Activate seconds) = carried_out (activated keys w set a seconds).code
  changes w set a Deactivate = carried_out (deactivated w set a).code
  changes w set a StateRequest = false

  -- MACHINE-15: does a frame carry such a request? Data carries none.
  unfoldable pub asks_change : World → FrameSet → Arrived → Addressed → Bool
  asks_change w set a Elsewhere = false
  asks_change w set a Unicast = changes w set a (request_of Unicast (destination a.frame) (pdu a))
  asks_change w set a Multicast = changes w set a (request_of Multicast (destination a.frame) (pdu a))

  -- MACHINE-15: does a frame of these sets, at most one, carry such a request for an MP?
  unfoldable pub asks : World → ℕ → ℕ → List ℕ → List Member → Bool
  asks w port side f [] = false
  asks w port side f (member set taglen ∷ more) =
      asks_change w set (arrived w port side set taglen f) (for_mp (arrived w port side set taglen f))

module _ (keys : ℕ) (p : ℕ) (s : FrameSet) (x : ℕ) where
  -- Does the call leave the machine of p, s and x to the time that passes? A frame does that is not its own, or that asks for no
  -- change, or for one that is not carried out; an allow, a notice that is taken, and a prohibit of another flow.
  unfoldable pub spares : World → Call → Bool
  spares w (make text clock) = false
  spares w (frame port side f out) = not (is_own w port f p s x && asks keys w port side f (sets_at w port f))
  spares w (tick clock) = true
  spares w (allow flow) = true
  spares w (prohibit flow) =
      let f = flow_numbered flow w.plan in
      not (eqb p f.port && same_set s (set_of f.kind f.vid))
  spares w (notice out) = true
  spares w (restart clock) = false

  -- Does each call of a run, or is it refused?
  unfoldable pub is_left_alone : World → List Call → Bool
  is_left_alone w [] = true
  is_left_alone w (c ∷ cs) = (not (eqb (refusal keys w c) 0) || spares w c) && is_left_alone (call keys w c).world cs

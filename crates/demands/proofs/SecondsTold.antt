-- After an Activate of so many seconds, a State reply says them less what accepted readings made of them, rounded up.
use mathlib.Core.Path.{◌≡◌, ap, ◌∙◌}
use mathlib.Core.Bool.{true, false}
use mathlib.Core.List.{List}
use Prim.Native.Nat.{ℕ, ◌+◌, ◌-◌, ◌*◌, ◌/◌, ◌<◌}
use Rattle.std.specs.Prelude.{Some}
use Rattle.octets.specs.Lists.{within}
use Rattle.codec.specs.declared.FrameSet.{FrameSet}
use Rattle.codec.specs.declared.Request.TheVariants.{Activate, State as StateRequest}
use Rattle.codec.specs.FrameSet.{source, pdu_of}
use Rattle.codec.specs.Request.{level_of, type_of, copies_of}
use Rattle.codec_replies.specs.Reply.{reply_frame, reply_pdu, tag_of}
use Rattle.plan.specs.Plan.{port_numbered, flow_of_set}
use Rattle.calls.specs.Calls.{Call, frame}
use Rattle.demands.specs.Machine.{Machine, Owed, inactive, active, is_prohibited, status_of}
use Rattle.demands.specs.World.{World, full_for}
use Rattle.demands.specs.Calls.{refusal, call}
use Rattle.demands.specs.Runs.{world_after}
use Rattle.demands.specs.Data.{Carries}
use Rattle.demands.specs.Elapsed.{elapsed_over, is_left_alone}
use Rattle.demands.proofs.Seconds.{time_left, seconds_left_lem}
use Rattle.demands.proofs.Asked.{opened, state_says}

pub active_free : {m : Machine} {level side left : ℕ} {tag : List ℕ} → m ≡ active level side left tag → is_prohibited m ≡ false
unfolding is_prohibited
active_free e = rw e

-- An Activate `g` in the world `w` opens a session; the calls `cs` leave its machine alone; then its tester asks with `f`.
module _ (keys : ℕ) (w : World) (port side : ℕ) (set : FrameSet) (taglen seconds : ℕ) (g out : List ℕ) (cs : List Call)
    (side' taglen' : ℕ) (f out' : List ℕ) where
  abbrev opens : World
  opens = (call keys w (frame port side g out)).world

  abbrev later : World
  later = world_after keys opens cs

  pub seconds_told : {owed : Owed} → refusal keys w (frame port side g out) ≡ 0 → Carries w port side set taglen g (Activate seconds)
      → w.machine port set (source g) ≡ inactive owed
      → within 1 86400 seconds ≡ true
      → full_for keys (flow_of_set port set w.plan) w ≡ 0
      → is_left_alone keys port set (source g) opens cs ≡ true
      → elapsed_over keys opens cs < seconds * 1000
      → refusal keys later (frame port side' f out') ≡ 0
      → Carries later port side' set taglen' f StateRequest
      → source f ≡ source g
      → (call keys later (frame port side' f out')).octets
      ≡ reply_frame (source f) (port_numbered port later.plan).address (tag_of taglen' f)
      (reply_pdu (level_of (pdu_of taglen' f)) (type_of (pdu_of taglen' f)) 0 (port_numbered port later.plan).address
      (record { side = Some side; seconds = (seconds * 1000 - elapsed_over keys opens cs + 999) / 1000 })
      (copies_of (pdu_of taglen' f)))
  seconds_told free q is good space alone low free' q' same =
      let m : _ = opened keys w port side set taglen g out free q is good space in
      let here : _ = time_left keys port set (source g) opens cs _ side (seconds * 1000) _ m alone low in
      state_says keys later port side' set taglen' f out' free' q'
      (active_free (ap (λ x. later.machine port set x) same ∙ here))
      (ap (λ x. status_of (later.machine port set x)) same ∙ seconds_left_lem keys port set (source g) opens cs m alone low)

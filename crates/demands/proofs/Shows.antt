-- When a state shows a world, and when a unit and a world serve a call alike.
use mathlib.Core.Path.{◌≡◌, refl}
use mathlib.Core.List.{List}
use Prim.Native.Nat.{ℕ, ◌<◌, ◌^◌}
use Rattle.codec.specs.declared.FrameSet.{FrameSet}
use Rattle.state.specs.State.{State}
use Rattle.calls.specs.declared.Answer.{Answer}
use Rattle.calls.specs.Answer.{Sent, leaves, sends}
use Rattle.demands.specs.World.{World}
use Rattle.demands.specs.Frame.{Told, leaves as leavesIn, sends as sendsIn}
use Rattle.demands.specs.Shown.{machine_at}

-- sets and sources as frames and plans have them
pub record SmallSet (set : FrameSet) : Type 0 where
  pub kind_small : set.kind < 2 ^ 8
  pub vid_small : set.vid < 2 ^ 16

pub record Shows (s : State) (w : World) : Type 0 where
  pub plan_same : w.plan ≡ s.plan
  pub clock_same : w.clock ≡ s.clock
  pub machines : (port : ℕ) (set : FrameSet) (source : ℕ)
      → SmallSet set
      → source < 2 ^ 48
      → w.machine port set source ≡ machine_at s port set source

-- a call that the unit serves and the world serves alike
pub record Alike (x : Sent) (t : Told) : Type 0 where
  pub answer_same : t.answer ≡ x.answer
  pub octets_same : t.octets ≡ x.octets
  pub shown : Shows x.state t.world

-- answers that write nothing, and that write the same
module _ (s : State) (w : World) (k : Shows s w) where
  pub leaves_alike : (answer : Answer) → Alike (leaves answer s) (leavesIn answer w)
  unfolding leaves leavesIn
  leaves_alike answer = record { answer_same = refl; octets_same = refl; shown = k }

  pub sends_alike : (answer : ℕ → Answer) (l : List ℕ) → Alike (sends answer s l) (sendsIn answer w l)
  unfolding sends sendsIn
  sends_alike answer l = record { answer_same = refl; octets_same = refl; shown = k }

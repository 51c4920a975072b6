-- A call that is served, save one that makes a state, answers neither a refusal nor a fault: the image is rewritten.
use mathlib.Core.Path.{◌≡◌, refl}
use mathlib.Core.Bool.{Bool, true, false, cond}
use mathlib.Core.List.{List}
use Prim.Native.Nat.{ℕ}
use native.Mathlib.Omega.{arith}
use lib.Dec.{eqb}
use Rattle.octets.specs.Lists.{some}
use Rattle.codec.specs.declared.Addressed.{Addressed}
use Rattle.state.specs.State.{State}
use Rattle.calls.specs.declared.Answer.TheVariants.{Replied, RepliedForwarded}
use Rattle.calls.specs.Answer.{Sent, leaves, sends}
use Rattle.calls.specs.Codes.{request_codes}
use Rattle.calls.specs.Notice.{noticed, notice_served}
use Rattle.calls.specs.Frame.{Arrived, goes_on, replied, frame_served}
use Rattle.calls.specs.Calls.{Call, make, frame, tick, allow, prohibit, notice, restart, served, makes, keeps_image}
use Rattle.calls.proofs.FrameEach.{frame_each}

abbrev Rewrites : Sent → Type 0
Rewrites r = keeps_image r.answer ≡ false

reply_rewrites : (s : State) (a : Arrived) (whom : Addressed) (code : ℕ) (copies : List ℕ) → some (eqb code) request_codes ≡ true
    → Rewrites (replied s a whom code copies)
unfolding replied sends keeps_image
reply_rewrites s a whom code copies h = go (goes_on a whom) _
  where
    go : (b : Bool) (n : ℕ) → keeps_image (cond b RepliedForwarded Replied n) ≡ false
    go true n = refl
    go false n = refl

frame_rewrites : (s : State) (port side : ℕ) (octets : List ℕ) → Rewrites (frame_served s port side octets)
unfolding leaves sends keeps_image
frame_rewrites = frame_each Rewrites (λ s. refl) (λ s. refl) (λ s w. refl) reply_rewrites

pub served_rewrites : (s : State) (c : Call) → makes c ≡ false → Rewrites (served s c)
unfolding served makes leaves sends notice_served noticed keeps_image
served_rewrites s (make text clock) m = let z : ◌≡◌ {A = ℕ} 0 1 = cc in absurd (omega arith)
served_rewrites s (frame port side octets out) m = frame_rewrites s port side octets
served_rewrites s (tick clock) m = refl
served_rewrites s (allow flow) m = refl
served_rewrites s (prohibit flow) m = refl
served_rewrites s (notice out) m = refl
served_rewrites s (restart clock) m = refl

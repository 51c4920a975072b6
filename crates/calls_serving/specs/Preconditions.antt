-- What is known of a call that is not refused.
use Rattle.std.specs.Prelude.{◌≡◌, true, false, List, ℕ, ◌≤◌, length}
use Rattle.state.specs.State.{notice_due}
use Rattle.state.specs.Image.{state_of, ok_image}

-- of any call
pub record ImageKnown (l : List ℕ) : Type 0 where
  pub ok : ok_image l ≡ true
  pub long : length l ≡ 4096

-- of one that allows or prohibits a flow
pub record FlowKnown (l : List ℕ) (flow : ℕ) : Type 0 where
  pub ok : ok_image l ≡ true
  pub long : length l ≡ 4096
  pub low : 1 ≤ flow
  pub high : flow ≤ 32

-- of one that takes a notice
pub record NoticeKnown (l out : List ℕ) : Type 0 where
  pub ok : ok_image l ≡ true
  pub long : length l ≡ 4096
  pub due : notice_due (state_of l) ≡ true
  pub room : 2008 ≤ length out

-- of one that hands in a frame
pub record Fair (b : List ℕ) (side : ℕ) (frame out : List ℕ) : Type 0 where
  pub ok : ok_image b ≡ true
  pub quiet : notice_due (state_of b) ≡ false
  pub long : length b ≡ 4096
  pub side_known : side ≤ 1
  pub frame_some : 14 ≤ length frame
  pub frame_fits : length frame ≤ 2000
  pub room : 2008 ≤ length out

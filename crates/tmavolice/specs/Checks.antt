-- Refusals (REFUSAL): what the checks of a call give: the number of its refusal, or 0, and what holds where it is 0.
use Rattle.std.specs.Prelude.{◌≡◌, cond, List, ℕ, Result, Ok, Err}
use Rattle.state.specs.State.{notice_due}
use Rattle.state.specs.Image.{state_of, ok_image}
use Rattle.calls.specs.declared.Answer.{Answer}
use Rattle.calls.specs.declared.Answer.TheVariants.{Refused}
use Rattle.calls.specs.Calls.{Call, refusal}
use Rattle.tmavolice.specs.declared.refusals.Refusal.{Refusal}
use Rattle.tmavolice.specs.declared.refusals.Refusal.TheVariants.{
  NoSuchPlace,
  FrameLength,
  ShortOutput,
  NoticeDue,
  ClockJumped,
  NoSuchFlow,
  NoNoticeDue,
  NoValidImage,
}

-- REFUSAL-1, REFUSAL-2, REFUSAL-3, REFUSAL-4, REFUSAL-5, REFUSAL-6, REFUSAL-7, REFUSAL-8: the number of each.
abbrev pub refusal_number : Refusal → ℕ
refusal_number NoSuchPlace = 1
refusal_number FrameLength = 2
refusal_number ShortOutput = 3
refusal_number NoticeDue = 4
refusal_number ClockJumped = 5
refusal_number NoSuchFlow = 6
refusal_number NoNoticeDue = 7
refusal_number NoValidImage = 8

-- the number of the refusal that the checks end in, or 0
abbrev pub checked_number : Result (Unit {0}) Refusal → ℕ
checked_number (Ok x) = 0
checked_number (Err r) = refusal_number r

-- CALL-16: the answer of a call: that of its refusal, or of what it is served
abbrev pub answer_of : Result Answer Refusal → Answer
answer_of (Ok a) = a
answer_of (Err r) = Refused (refusal_number r)

-- REFUSAL-8, CALL-8: check 8 goes first: what is not the image of a valid state has no state to check.
unfoldable pub checked : List ℕ → Call → ℕ
checked l c = cond (ok_image l) (refusal (state_of l) c) 8

-- a number that is right, and what is known where it is 0
pub record Checked (l : List ℕ) (c : Call) (Known : Type 0) (number : ℕ) : Type 0 where
  pub right : number ≡ checked l c
  pub known : number ≡ 0 → Known

-- REFUSAL-8: the check of the image alone
abbrev pub image_checked : List ℕ → ℕ
image_checked l = cond (ok_image l) 0 8

-- REFUSAL-8, REFUSAL-4: that check, and the one of a notice that is due
abbrev pub quiet_checked : List ℕ → ℕ
quiet_checked l = cond (ok_image l) (cond (notice_due (state_of l)) 4 0) 8

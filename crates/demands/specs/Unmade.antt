-- Refusals (REFUSAL): REFUSAL-8 for calls on octets that are no valid image.
use Rattle.std.specs.Prelude.{Bool, true, false, cond, not, ◌&&◌, List, ℕ, eqb}
use Rattle.octets.specs.Lists.{every}
use Rattle.plan.specs.PlanText.{Reading, fault, planned, plan_in}
use Rattle.calls.specs.declared.Answer.{Answer}
use Rattle.calls.specs.declared.Answer.TheVariants.{Refused, Done, Faulty}
use Rattle.calls.specs.Answer.{number_of}
use Rattle.calls.specs.Calls.{Call, make, frame, tick, allow, prohibit, notice, restart, lent}
use Rattle.demands.specs.Runs.{Seen}

-- was the text read as a plan?
unfoldable pub is_plan : Reading → Bool
is_plan (fault line reason) = false
is_plan (planned plan) = true

-- CALL-12: does the call make a state of so many octets? A make that succeeds does.
unfoldable pub makes_state : ℕ → Call → Bool
makes_state n (make text clock) = eqb n 4096 && is_plan (plan_in text)
makes_state n (frame port side octets out) = false
makes_state n (tick clock) = false
makes_state n (allow flow) = false
makes_state n (prohibit flow) = false
makes_state n (notice out) = false
makes_state n (restart clock) = false

-- Does no call of a run make one?
abbrev pub none_makes : ℕ → List Call → Bool
none_makes n cs = every (λ c. not (makes_state n c)) cs

-- CALL-1: a make answers done, or plan fault.
unfoldable pub made_of : Reading → Answer
made_of (fault line reason) = Faulty line reason
made_of (planned plan) = Done

-- CALL-12, REFUSAL-8: on such octets each call gets 8, except a make on 4,096 of them, which does not test their content.
unfoldable pub unmade : ℕ → Call → Answer
unmade n (make text clock) = cond (eqb n 4096) (made_of (plan_in text)) (Refused 8)
unmade n (frame port side octets out) = Refused 8
unmade n (tick clock) = Refused 8
unmade n (allow flow) = Refused 8
unmade n (prohibit flow) = Refused 8
unmade n (notice out) = Refused 8
unmade n (restart clock) = Refused 8

-- CALL-9: what is seen of it: the number, and the output as it was.
unfoldable pub seen_unmade : ℕ → Call → Seen
seen_unmade n c = record { number = number_of (unmade n c); out = lent c }

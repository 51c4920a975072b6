-- Calls and answers (CALL), Refusals (REFUSAL) and Time (TIME): the seven calls, said of a world of machines.
use Rattle.std.specs.Prelude.{[], Bool, cond, ◌||◌, not, ℕ, eqb}
use Rattle.octets.specs.Lists.{within}
use Rattle.codec.specs.FrameSet.{external, cen, set_of}
use Rattle.codec_replies.specs.Reply.{reply_frame, reply_pdu}
use Rattle.machine.specs.Time.{elapsed, jumped}
use Rattle.plan.specs.declared.Port.{Port}
use Rattle.plan.specs.Plan.{port_numbered, flow_numbered, in_plan}
use Rattle.plan.specs.PlanText.{Reading, fault, planned, plan_in}
use Rattle.calls.specs.declared.Answer.TheVariants.{Refused, Noticed, Done, Faulty}
use Rattle.calls.specs.Calls.{Call, make, frame, tick, allow, prohibit, notice, restart, bad_length, short_output}
use Rattle.demands.specs.Machine.{Owed, nothing, notice as owing, owed_by, ticked, allowed, forbidden, restarted, taken, idle}
use Rattle.demands.specs.World.{World, fresh, become, of_flow, all, flow_of, source_of, at, first_owing, notice_due}
use Rattle.demands.specs.Frame.{Told, leaves, sends, frame_served}

-- REFUSAL-1: no port of the plan has this number, or the side is another number than 0 and 1.
unfoldable pub no_such_place : World → ℕ → ℕ → Bool
no_such_place w port side = not (in_plan (port_numbered port w.plan).number) || not (within external cen side)

-- REFUSAL-6: no flow of the plan has this number.
unfoldable pub no_such_flow : World → ℕ → Bool
no_such_flow w flow = not (in_plan (flow_numbered flow w.plan).number)

-- NOTICE-3, NOTICE-5, NOTICE-7: a reply of type 2 with the session's tag, level and code; the answer names the flow's port and the
-- session's side; then the notice is owed no more.
unfoldable pub noticed : World → World → Port → ℕ → Owed → Told
noticed w after port source nothing = leaves (Refused 7) w
noticed w after port source (owing code level side tag) =
    sends (Noticed port.number side) after
    (reply_frame source port.address tag (reply_pdu level 2 code port.address idle []))

-- NOTICE-3: one notice, that of the machine with this flow and source as one number.
unfoldable pub notice_served : World → ℕ → Told
notice_served w key =
    let f = flow_of key w in
    noticed w (become f.port (set_of f.kind f.vid) (source_of key) (taken (at key w)) w)
    (port_numbered f.port w.plan) (source_of key) (owed_by (at key w))

-- CALL-1, PLAN-29, PLAN-31: after a plan fault all is as before; a good plan gives a new unit.
unfoldable pub make_served : World → ℕ → Reading → Told
make_served w clock (fault line reason) = leaves (Faulty line reason) w
make_served w clock (planned plan) = leaves Done (fresh plan clock)

module _ (keys : ℕ) where
  -- CALL-8: the first of the call's own checks (CALL-1, CALL-2, CALL-3, CALL-4, CALL-5, CALL-6, CALL-7) that applies, 4 if a notice is to
  -- be taken first (REFUSAL-4), 7 if there is none to take (REFUSAL-7); 0 if none applies.
  unfoldable pub refusal : World → Call → ℕ
  refusal w (make text clock) = 0
  refusal w (frame port side octets out) =
      cond (no_such_place w port side) 1
      (cond (bad_length octets) 2 (cond (short_output out) 3 (cond (notice_due keys w) 4 0)))
  refusal w (tick clock) = cond (notice_due keys w) 4 (cond (jumped clock w.clock) 5 0)
  refusal w (allow flow) = cond (notice_due keys w) 4 (cond (no_such_flow w flow) 6 0)
  refusal w (prohibit flow) = cond (notice_due keys w) 4 (cond (no_such_flow w flow) 6 0)
  refusal w (notice out) = cond (short_output out) 3 (cond (notice_due keys w) 0 7)
  refusal w (restart clock) = 0

  -- CALL-1, CALL-2, CALL-3, CALL-4: what a call not refused does, each machine by itself, and its answer; so too CALL-5, CALL-6, CALL-7.
  unfoldable pub served : World → Call → Told
  served w (make text clock) = make_served w clock (plan_in text)
  served w (frame port side octets out) = frame_served keys w port side octets
  served w (tick clock) = leaves Done (all clock (ticked (elapsed clock w.clock)) w)
  served w (allow flow) = leaves Done (of_flow (flow_numbered flow w.plan) allowed w)
  served w (prohibit flow) = leaves Done (of_flow (flow_numbered flow w.plan) forbidden w)
  served w (notice out) = notice_served w (first_owing keys w)
  served w (restart clock) = leaves Done (all clock restarted w)

  -- CALL-9: a refused call changes nothing.
  unfoldable pub call : World → Call → Told
  call w c = cond (eqb (refusal w c) 0) (served w c) (leaves (Refused (refusal w c)) w)

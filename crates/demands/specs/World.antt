-- The machine (MACHINE): a machine for every port, frame set and source; and what they share: plan, clock, limit of 16, order of notices.
use Rattle.std.specs.Prelude.{Bool, cond, ◌&&◌, ℕ, zero, suc, ◌+◌, ◌/◌, ◌%◌, ◌^◌, eqb, ltb}
use Rattle.codec.specs.declared.FrameSet.{FrameSet}
use Rattle.codec.specs.FrameSet.{set_of}
use Rattle.plan.specs.declared.Flow.{Flow}
use Rattle.plan.specs.Plan.{Plan, flow_numbered}
use Rattle.demands.specs.Machine.{Machine, prohibited, nothing, is_active, owes}

-- MACHINE-1: each port, frame set and source address has a machine to itself; plan and clock are shared.
pub record World : Type 0 where
  pub plan : Plan
  pub clock : ℕ
  pub machine : (port : ℕ) (set : FrameSet) (source : ℕ) → Machine

-- PLAN-31: a new unit has all flows prohibited and no session; its last reading is the one that make was given.
unfoldable pub fresh : Plan → ℕ → World
fresh plan clock = record { plan = plan; clock = clock; machine = λ port set source. prohibited nothing }

-- SET-12: the whole set counts, kind and VID.
unfoldable pub same_set : FrameSet → FrameSet → Bool
same_set a b = eqb a.kind b.kind && eqb a.vid b.vid

-- ---- the machines that a call touches, each by itself

-- MACHINE-1, MACHINE-37: the machine of a port, a set and a source becomes this one; all others stay as they are.
unfoldable pub become : (port : ℕ) (set : FrameSet) (source : ℕ) → Machine → World → World
become port set source m w =
    record {
      plan = w.plan;
      clock = w.clock;
      machine =
          λ p s x. cond (eqb p port && (same_set s set && eqb x source)) m (w.machine p s x);
    }

-- FLOW-4: every machine of the flow is changed, whatever the source; all others stay.
unfoldable pub of_flow : Flow → (Machine → Machine) → World → World
of_flow f change w =
    record {
      plan = w.plan;
      clock = w.clock;
      machine =
          λ p s x. cond (eqb p f.port && same_set s (set_of f.kind f.vid)) (change (w.machine p s x)) (w.machine p s x);
    }

-- TIME-2, TIME-8: every machine is changed, and the reading is accepted.
unfoldable pub all : ℕ → (Machine → Machine) → World → World
all clock change w = record { plan = w.plan; clock = clock; machine = λ p s x. change (w.machine p s x) }

-- ---- the machines in ascending flow, then source

-- that of a flow and a source
unfoldable pub at_flow : Flow → ℕ → World → Machine
at_flow f source w = w.machine f.port (set_of f.kind f.vid) source

-- flow and source as one number, and back
unfoldable pub flow_of : ℕ → World → Flow
flow_of key w = flow_numbered (key / 2 ^ 48) w.plan

unfoldable pub source_of : ℕ → ℕ
source_of key = key % 2 ^ 48

unfoldable pub at : ℕ → World → Machine
at key w = at_flow (flow_of key w) (source_of key) w

-- how many of the numbers below n pass the test
unfoldable pub counted : (ℕ → Bool) → ℕ → ℕ
counted test zero = 0
counted test (suc n) = counted test n + cond (test n) 1 0

-- the least number that passes the test, or n where none below n does
unfoldable pub least : (ℕ → Bool) → ℕ → ℕ
least test zero = 0
least test (suc n) = cond (ltb (least test n) n) (least test n) (cond (test n) n (suc n))

-- `keys` is any number above every flow and source as one number.
module _ (keys : ℕ) where
  -- MACHINE-3, UNIT-2, BENCH-16: is the unit full for a session of this flow? 0, or the reply's code: 2 if 16 are open, whatever the flow.
  unfoldable pub full_for : Flow → World → ℕ
  full_for flow w = cond (ltb (counted (λ k. is_active (at k w)) keys) 16) 0 2

  -- NOTICE-4: the lowest flow number goes first, within a flow the lowest source: the least number that owes a notice.
  unfoldable pub first_owing : World → ℕ
  first_owing w = least (λ k. owes (at k w)) keys

  -- REFUSAL-4, NOTICE-2: is there a notice to be taken first?
  unfoldable pub notice_due : World → Bool
  notice_due w = ltb (first_owing w) keys

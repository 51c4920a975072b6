-- The plan (PLAN): the text read into a plan, or the line and the reason of its first fault.
use Rattle.std.specs.Prelude.{List, [], ◌∷◌, map, cond, ◌||◌, not, ℕ, ◌+◌, length, replicate, set, eqb, ltb, leb}
use Rattle.octets.specs.Lists.{within, some, put}
use Rattle.codec.specs.FrameSet.{set_of}
use Rattle.plan.specs.declared.Flow.{Flow}
use Rattle.plan.specs.Plan.{
  Plan,
  port_numbered,
  flow_numbered,
  flow_of_set,
  flow_key,
  in_plan,
  mp_at,
  mp_count,
  good_address,
  good_vid,
  good_kind,
}
use Rattle.plan.specs.Line.{Line, unreadable, port_line, flow_line, mp_line, line_of, parted, lf}

-- PLAN-18, PLAN-20, PLAN-24: what is wrong with a port, the first that fits: 2 number or address out of range, 4 one there already; 0
-- nothing.
unfoldable pub port_reason : Plan → ℕ → ℕ → ℕ
port_reason plan number address =
    cond (not (within 1 8 number) || not (good_address address)) 2
    (cond (in_plan (port_numbered number plan).number || some (λ p. eqb p.address address) plan.ports) 4 0)

-- PLAN-18, PLAN-19, PLAN-20, PLAN-25: with a flow: 2 a number, its port's too, or VID out of range, 3 its port not defined, 2 a kind that
-- does not belong on it (PLAN-26), 4 its number, or kind and VID, there already.
unfoldable pub flow_reason : Plan → ℕ → ℕ → ℕ → ℕ → ℕ
flow_reason plan number port kind vid =
    cond (not (within 1 32 number) || not (within 1 8 port) || not (good_vid kind vid)) 2
    (cond (not (in_plan (port_numbered port plan).number)) 3
    (cond (not (good_kind kind (port_numbered port plan).kind)) 2
    (cond (in_plan (flow_numbered number plan).number || in_plan (flow_of_set port (set_of kind vid) plan).number) 4 0)))

-- PLAN-18, PLAN-19, PLAN-20, PLAN-23: with an MP: 2 number or level out of range, 3 flow not defined, 4 level taken, 7 one MP too many.
unfoldable pub mp_reason : Plan → ℕ → ℕ → ℕ
mp_reason plan flow level =
    cond (not (within 1 32 flow) || not (within 0 7 level)) 2
    (cond (not (in_plan (flow_numbered flow plan).number)) 3
    (cond (leb 1 (mp_at level (flow_numbered flow plan))) 4
    (cond (leb 32 (mp_count plan.flows)) 7 0)))

-- PLAN-16, PLAN-17: what is wrong with a line, by the lines above it; 1 if it is no record.
unfoldable pub reason_of : Plan → Line → ℕ
reason_of plan unreadable = 1
reason_of plan (port_line number kind address) = port_reason plan number address
reason_of plan (flow_line number port kind vid) = flow_reason plan number port kind vid
reason_of plan (mp_line flow kind level) = mp_reason plan flow level

-- PLAN-13: the flow with that number, with an MP of this kind at the level; any other as it is.
unfoldable pub with_mp : ℕ → ℕ → ℕ → Flow → Flow
with_mp flow kind level f =
    cond (eqb f.number flow)
    (record { number = f.number; port = f.port; kind = f.kind; vid = f.vid; mps = set f.mps level kind })
    f

-- PLAN-32: the plan with one record more; its place is that of its key, wherever its line stands.
unfoldable pub added : Line → Plan → Plan
added unreadable plan = plan
added (port_line number kind address) plan =
    record {
      ports = put (λ p. p.number) (record { number = number; kind = kind; address = address }) plan.ports;
      flows = plan.flows;
    }
added (flow_line number port kind vid) plan =
    record {
      ports = plan.ports;
      flows = put flow_key (record { number = number; port = port; kind = kind; vid = vid; mps = replicate 8 0 }) plan.flows;
    }
added (mp_line flow kind level) plan = record { ports = plan.ports; flows = map (with_mp flow kind level) plan.flows }

-- PLAN-16: what a text is read as: the line and the reason of its first fault, or a plan.
pub data Reading : Type 0 where
  fault : (line reason : ℕ) → Reading
  planned : Plan → Reading

-- PLAN-22: no fault in any line but no port is reason 6, with line 0.
unfoldable pub finished : Plan → Reading
finished plan = cond (eqb (length plan.ports) 0) (fault 0 6) (planned plan)

-- PLAN-9, PLAN-16, PLAN-27: the lines from number n on, each by those above it; the first faulty one decides. The last part, after the
-- last LF, is a line without its end, or none if it is empty. (There is always a last part.)
unfoldable pub read_lines : ℕ → Plan → List (List ℕ) → Reading
read_lines n plan [] = finished plan
read_lines n plan (rest ∷ []) = cond (eqb (length rest) 0) (finished plan) (fault n 1)
read_lines n plan (line ∷ next ∷ lines) =
    cond (eqb (reason_of plan (line_of line)) 0)
    (read_lines (n + 1) (added (line_of line) plan) (next ∷ lines))
    (fault n (reason_of plan (line_of line)))

-- a plan without records
unfoldable pub empty_plan : Plan
empty_plan = record { ports = []; flows = [] }

-- PLAN-2, PLAN-21: over 8,192 octets are reason 5 with line 0, ahead of all lines.
unfoldable pub plan_in : List ℕ → Reading
plan_in l = cond (ltb 8192 (length l)) (fault 0 5) (read_lines 1 empty_plan (parted lf l))

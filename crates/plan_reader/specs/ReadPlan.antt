-- What the code reads: the reason of a line as it is held, the plan with its record, and what a text is read as, by value.
use Rattle.std.specs.Prelude.{ℕ, cond, eqb, Result, Ok, Err}
use Rattle.std.specs.Bool.{⊤}
use Rattle.plan.specs.Plan.{Plan}
use Rattle.plan.specs.Line.{port_line, flow_line, mp_line}
use Rattle.plan.specs.PlanText.{Reading, fault, planned, port_reason, flow_reason, mp_reason, added}
use Rattle.plan.specs.Records.{by_value}
use Rattle.plan.specs.declared.Records.{Records}
use Rattle.plan_lines.specs.declared.Said.{Said}
use Rattle.plan_lines.specs.declared.Said.TheVariants.{OfPort, OfFlow, OfMp}
use Rattle.plan_reader.specs.declared.fault.Fault.{Fault}
use Rattle.plan_reader.specs.declared.fault.Reason.{Reason}
use Rattle.plan_reader.specs.declared.fault.Reason.TheVariants.{Unreadable, OutOfRange, Unnamed, Repeated, TooLong, NoPort, TooManyMps}

-- PLAN-17 to PLAN-23: the numbers of the reasons
unfoldable pub reason_number : Reason → ℕ
reason_number Unreadable = 1
reason_number OutOfRange = 2
reason_number Unnamed = 3
reason_number Repeated = 4
reason_number TooLong = 5
reason_number NoPort = 6
reason_number TooManyMps = 7

-- the reason that has a number; there are seven
unfoldable pub reason_numbered : ℕ → Reason
reason_numbered n =
    cond (eqb n 1) Unreadable
    (cond (eqb n 2) OutOfRange
    (cond (eqb n 3) Unnamed
    (cond (eqb n 4) Repeated (cond (eqb n 5) TooLong (cond (eqb n 6) NoPort TooManyMps)))))

-- what is judged by the number of a reason; 0 is none
unfoldable pub judged : ℕ → Result ⊤ Reason
judged n = cond (eqb n 0) (Ok tt) (Err (reason_numbered n))

-- the reason of a line as it is held
unfoldable pub said_reason : Plan → Said → ℕ
said_reason plan (OfPort number kind address) = port_reason plan number address
said_reason plan (OfFlow number port kind vid) = flow_reason plan number port kind vid
said_reason plan (OfMp flow kind level) = mp_reason plan flow level

-- the plan with the record of a line as it is held
unfoldable pub said_added : Said → Plan → Plan
said_added (OfPort number kind address) plan = added (port_line number kind address) plan
said_added (OfFlow number port kind vid) plan = added (flow_line number port kind vid) plan
said_added (OfMp flow kind level) plan = added (mp_line flow kind level) plan

-- what a text is read as, by value
unfoldable pub read_as : Reading → Result Records Fault
read_as (fault line reason) = Err (record { line = line; reason = reason_numbered reason })
read_as (planned plan) = Ok (by_value plan)

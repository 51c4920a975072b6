-- Calls and answers (CALL): what a call answers, the number that the host gets for it, and what it sends.
use Rattle.std.specs.Prelude.{List, [], ℕ, ◌+◌, ◌*◌, ◌^◌, length}
use Rattle.state.specs.State.{State}
use Rattle.calls.specs.declared.Answer.{Answer}
use Rattle.calls.specs.declared.Answer.TheVariants.{
  Refused,
  Forwarded,
  Dropped,
  Looped,
  Replied,
  RepliedForwarded,
  Noticed,
  Done,
  Faulty,
}

-- CALL-15, CALL-24, CALL-25, CALL-26: bits 0 to 7 hold the outcome, 8 to 15 a refusal's number or a fault's reason, 16 to 23 a notice's
-- port, 24 to 31 its side, 32 to 63 how many octets were written or a fault's line.
unfoldable pub packed : ℕ → ℕ → ℕ → ℕ → ℕ → ℕ
packed outcome reason port side length = outcome + reason * 2 ^ 8 + port * 2 ^ 16 + side * 2 ^ 24 + length * 2 ^ 32

-- FORM-8: 0 refused (CALL-16), 1 forward (CALL-17), 2 drop (CALL-18), 3 loop (CALL-19), 4 reply or notice (CALL-20), 5 reply and forward
-- (CALL-21), 6 done (CALL-22), 7 plan fault (CALL-23).
unfoldable pub number_of : Answer → ℕ
number_of (Refused n) = packed 0 n 0 0 0
number_of Forwarded = packed 1 0 0 0 0
number_of Dropped = packed 2 0 0 0 0
number_of (Looped n) = packed 3 0 0 0 n
number_of (Replied n) = packed 4 0 0 0 n
number_of (RepliedForwarded n) = packed 5 0 0 0 n
number_of (Noticed port side n) = packed 4 0 port side n
number_of Done = packed 6 0 0 0 0
number_of (Faulty line reason) = packed 7 reason 0 0 line

-- an answer, the state that it leaves, and the octets that are written at the front of the lent output
pub record Sent : Type 0 where
  pub answer : Answer
  pub state : State
  pub octets : List ℕ

-- CALL-27: with this answer no octet of the output is written.
unfoldable pub leaves : Answer → State → Sent
leaves a s = record { answer = a; state = s; octets = [] }

-- CALL-26: the answer holds how many octets are written.
unfoldable pub sends : (ℕ → Answer) → State → List ℕ → Sent
sends a s w = record { answer = a (length w); state = s; octets = w }

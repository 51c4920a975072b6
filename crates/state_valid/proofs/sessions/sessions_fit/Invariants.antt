use mathlib.Core.Bool.{true}
use Rattle.octets.specs.Octets.{low_number}
use Rattle.state_tables.proofs.TurnLaws.{Passing}
use Rattle.state_valid.specs.Sessions.{session_fits}
use Rattle.state_valid.proofs.sessions.sessions_fit.Given as goal

abbrev pub invariant-loop-i : goal.invariant-loop-i
invariant-loop-i turn = Passing (session_fits turn.b) (λ last l. low_number 8 l) (λ last. true) 32 16 turn.i turn.last 0 turn.t

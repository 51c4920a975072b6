use lib.Dec.{leb}
use lib.ListN.{get_or}
use Rattle.state_tables.specs.Pass.{port_fits}
use Rattle.state_tables.proofs.TurnLaws.{Passing}
use Rattle.state_tables.proofs.ports.ports_fit.Given as goal

abbrev pub invariant-loop-i : goal.invariant-loop-i
invariant-loop-i turn = Passing port_fits (λ last l. get_or l 7 0) (leb 1) 16 8 turn.i turn.last 0 turn.t

use Rattle.calls_requests.proofs.Parts.{Gathering}
use Rattle.calls_requests.proofs.pdu.tag_of.Given as goal

abbrev pub invariant-loop-x : goal.invariant-loop-x
invariant-loop-x l = Gathering l.frame l.n l.x-index

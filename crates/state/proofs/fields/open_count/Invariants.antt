use Rattle.machine.specs.Machine.{is_open}
use Rattle.state.specs.Image.{session_in}
use Rattle.state.proofs.CountLaws.{Counting}
use Rattle.state.proofs.fields.open_count.Given as goal

abbrev pub invariant-loop-i : goal.invariant-loop-i
invariant-loop-i l = Counting 16 32 session_in is_open 1536 l.b l.n l.i

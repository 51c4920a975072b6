use native.Mathlib.Omega.{arith}
use lib.Seq.{get_or-drop}
use Rattle.machine.specs.Machine.{is_open}
use Rattle.state.specs.Image.{session_in, state_of}
use Rattle.state.proofs.CountLaws.{counts, count_start, count_end, count_next, count_done}
use Rattle.state.proofs.fields.open_count.Goals as goal

pub loop-i-init : goal.loop-i-init
loop-i-init c = count_start 16 32 session_in is_open 1536 _

pub returns-then-low8-eq0 : goal.returns-then-low8-eq0
unfolding state_of
returns-then-low8-eq0 c = count_end c.loop-i.invariant (omega arith) c.low8.ensures c.if-low8-eq0.true

pub overflow_add-n : goal.overflow_add-n
overflow_add-n c = omega (arith, c.loop-i.invariant.few, (counts _ c.from-n.ensures).1)

pub loop-i-preserved : goal.loop-i-preserved
unfolding session_in is_open
loop-i-preserved c =
    count_next c.loop-i.invariant (omega arith) c.low8.ensures
    c.if-low8-eq0.false (rw get_or-drop (counts _ c.from-n.ensures).0) (counts _ c.from-n.ensures).1

pub returns : goal.returns
unfolding state_of
returns c = count_done c.loop-i.invariant (omega arith)

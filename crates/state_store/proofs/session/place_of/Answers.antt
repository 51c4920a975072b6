use mathlib.Core.Path.{refl}
use native.Mathlib.Omega.{arith}
use Rattle.state_store.specs.StoredRows.{place_of}
use Rattle.state_store.proofs.PlaceLaws.{place_end, place_here, place_next, place_done}
use Rattle.state_store.proofs.session.place_of.Goals as goal

pub loop-i-init : goal.loop-i-init
unfolding place_of
loop-i-init c = refl

pub returns-then-k-eq0 : goal.returns-then-k-eq0
returns-then-k-eq0 c = search (place_end, arith)

pub returns-then-key-k : goal.returns-then-key-k
returns-then-key-k c =
    place_here _ _ _ _ _ _ _ c.loop-i-test.true c.loop-i.invariant c.low8-k.ensures c.if-k-eq0.false (omega arith)

pub loop-i-preserved : goal.loop-i-preserved
loop-i-preserved c = search (place_next, arith)

pub returns : goal.returns
returns c = place_done _ _ _ _ _ _ _ c.loop-i-test.false (omega arith) c.loop-i.invariant

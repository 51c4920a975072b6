use mathlib.Core.Path.{◌∙◌}
use Prim.Native.Nat.{◌+◌}
use lib.ListN.{drop}
use lib.Seq.{get_or-drop, drop-drop}
use Rattle.state_tables.proofs.PortTest.{port_low, port_address, port_bad, port_rest}
use Rattle.state_tables.proofs.ports.port_fits.Goals as goal

pub returns-then-p-last : goal.returns-then-p-last
returns-then-p-last c =
    let a : _ = c.args in
    port_low a.last (drop a.at a.t.now) c.read_port-p.ensures c.if-p-last.true

pub good_port-requires : goal.good_port-requires
good_port-requires c =
    let a : _ = c.args in
    port_address a.last (drop a.at a.t.now) c.read_port-p.ensures
    (λ i. rw get_or-drop (c.type_inv.t (a.at + i)).fits)

pub returns-then-good_port : goal.returns-then-good_port
returns-then-good_port c =
    let a : _ = c.args in
    port_rest a.last (drop a.at a.t.now) c.read_port-p.ensures
    c.if-p-last.false c.good_port.ensures {k = c.low8.result} c.if-good_port.true
    (rw drop-drop c.low8.ensures)

pub returns-else-good_port : goal.returns-else-good_port
returns-else-good_port c =
    let a : _ = c.args in
    c.if-good_port.false ∙ port_bad a.last (drop a.at a.t.now) c.read_port-p.ensures
    c.if-p-last.false c.good_port.ensures c.if-good_port.false

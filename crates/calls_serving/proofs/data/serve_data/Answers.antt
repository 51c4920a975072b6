use Rattle.calls_requests.proofs.Arrivals.{destination_is}
use native.Mathlib.Omega.{arith}
use Rattle.calls_serving.proofs.DataLaws.{data_forwarded, data_dropped, data_looped}
use Rattle.calls_serving.proofs.data.serve_data.Goals as goal

pub key-requires : goal.key-requires
key-requires c = c.requires.0.source_fits

pub data_action-act-requires : goal.data_action-act-requires
data_action-act-requires c =
    let k : _ = c.requires.0 in
    (k.flow_some, k.flow_fits)

pub put_looped-requires : goal.put_looped-requires
put_looped-requires c =
    let p : _ = c.requires in
    record {
      in_bounds = (omega (arith, p.0.tag_whole), omega (arith, p.0.frame_fits, p.1));
      to_value = destination_is p.0;
    }

pub returns-in-Forward : goal.returns-in-Forward
returns-in-Forward c =
    data_forwarded _ _ _ _ c.requires.0 c.key.ensures c.machine_of-m.ensures c.data_action-act.ensures
    c.fate_of.ensures c.in-Forward.is

pub returns-in-Drop : goal.returns-in-Drop
returns-in-Drop c =
    data_dropped _ _ _ _ c.requires.0 c.key.ensures c.machine_of-m.ensures c.data_action-act.ensures
    c.fate_of.ensures c.in-Drop.is

pub returns-in-Loop : goal.returns-in-Loop
returns-in-Loop c =
    data_looped _ _ _ _ c.requires.0 c.key.ensures c.machine_of-m.ensures c.data_action-act.ensures
    c.fate_of.ensures c.in-Loop.is c.put_looped.ensures.0 c.put_looped.ensures.1

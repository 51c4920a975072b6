use mathlib.Core.Path.{◌≡◌, ap}
use Prim.Native.Nat.{◌+◌, ◌-◌}
use native.Mathlib.Nat.{add_comm}
use native.Mathlib.Omega.{arith}
use Rattle.codec_tlvs.proofs.steps.value_at.Goals as goal

pub returns : goal.returns
returns c =
    let a : _ = c.args in
    let e : (a.start + a.len) - a.start ≡ a.len = omega arith in
    record { place = ap (λ o. (a.pdu.ref_ptr.0, o)) (add_comm a.start a.pdu.ref_ptr.1); octets = rw e }

use mathlib.Core.Path.{refl}
use mathlib.Core.List.{List, [], ◌∷◌}
use Prim.Native.Nat.{ℕ}
use native.Mathlib.Omega.{arith}
use Rattle.octets.proofs.Over.{then_over}
use Rattle.codec_replies.specs.Reply.{header}
use Rattle.codec_replies.proofs.Parts.{header_length}
use Rattle.codec_replies.proofs.reply.put_bare.Goals as goal

pub returns : goal.returns
returns c =
    let a : _ = c.args in
    let head : List ℕ = header a.level a.flagged a.kind a.code a.port in
    let written : _ = then_over head (0 ∷ []) a.out.now 12 c.put_header.ensures c.copy_into.ensures
    (header_length a.level a.flagged a.kind a.code a.port) (omega (arith, c.requires)) in
    (refl, written)

use mathlib.Core.Path.{◌≡◌, refl}
use mathlib.Core.List.{List, ◌++◌}
use Prim.Native.Nat.{ℕ, ◌+◌}
use native.Mathlib.Omega.{arith}
use lib.ListN.{length, length-append}
use Rattle.octets.proofs.Over.{then_over}
use Rattle.codec_replies.proofs.reply.put_three.Goals as goal

pub returns : goal.returns
returns c =
    let s : _ = c.args in
    let o : List ℕ = s.out.now in
    let a : List ℕ = s.a.now in
    let b : List ℕ = s.b.now in
    let x : _ = c.copy_into.ensures in
    let y : _ = c.copy_into-2.ensures in
    let z : _ = c.copy_into-3.ensures in
    let ab : length (a ++ b) ≡ length a + length b = length-append a b in
    let two : _ = then_over a b o (length a) x y refl (omega arith) in
    (refl, then_over (a ++ b) s.c.now o (length a + length b) two z ab (omega arith))

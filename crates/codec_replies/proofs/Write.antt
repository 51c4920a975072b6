-- What the writers of a reply's head and of a looped frame leave, and the flags of a reply.
use mathlib.Core.Path.{◌≡◌, sym, ap, ◌∙◌}
use mathlib.Core.Bool.{Bool, true, false}
use mathlib.Core.List.{List, ◌++◌}
use Prim.Native.Nat.{ℕ, ◌+◌, ◌-◌, ◌≤◌}
use native.Mathlib.Omega.{arith}
use lib.ListN.{length, take, drop, length-append, length-drop}
use lib.Seq.{take_all}
use borrow.Rule.Slice.PartMut.{mid_of, put_mid}
use Rattle.octets.specs.Octets.{octets, over}
use Rattle.octets.proofs.Laws.{octets_length}
use Rattle.octets.proofs.Over.{then_over}
use Rattle.codec.specs.FrameSet.{destination, group}
use Rattle.codec_replies.specs.Reply.{looped}
use Rattle.codec_replies.proofs.Lengths.{looped_length}

-- two addresses and a tag were written at the front of o, which left x; then the type e was written at n, where they end
pub head_over : (requester from : ℕ) (t o : List ℕ) {n : ℕ} {a b e x y : List ℕ}
    → a ≡ octets 6 requester → b ≡ octets 6 from → e ≡ octets 2 0x8902
    → (n ≡ length a + length b + length t) × (x ≡ over (a ++ b ++ t) o) → y ≡ over e (mid_of n (length x - n) x)
    → 14 + length t ≤ length o
    → (n + 2 ≡ 14 + length t)
    × (put_mid n (length x - n) x y ≡ over (octets 6 requester ++ octets 6 from ++ t ++ octets 2 0x8902) o)
head_over requester from t o {n} {a} {b} {e} {x} {y} ea eb ee (en, ex) ey room =
    let p : List ℕ = octets 6 requester in
    let q : List ℕ = octets 6 from in
    let lp : length p ≡ 6 = octets_length 6 requester in
    let lq : length q ≡ 6 = octets_length 6 from in
    let le : length (octets 2 0x8902) ≡ 2 = octets_length 2 0x8902 in
    let ln : n ≡ length p + length q + length t = rw (ea, eb) at en in
    let lh : length (p ++ q ++ t) ≡ n = simp length-append (omega arith) in
    (omega arith, then_over (p ++ q ++ t) (octets 2 0x8902) o n (rw (ea, eb) at ex) (rw ee at ey) lh (omega arith))

-- a frame's octets behind its addresses, as the part of it that is read from there on
abbrev end : List ℕ → List ℕ
end f = take (length f - 12) (drop 12 f)

whole : (f : List ℕ) → end f ≡ drop 12 f
whole f = take_all (length f - 12) (drop 12 f) (omega (arith, length-drop 12 f))

module _ (port : ℕ) (f o : List ℕ) (long : 14 ≤ length f) {r : ℕ} {x : List ℕ} where
  -- what was written are the parts of the looped frame
  joined : (a b d : List ℕ) → a ++ b ++ d ≡ looped port f → (r ≡ length a + length b + length d) × (x ≡ over (a ++ b ++ d) o)
      → (r ≡ length f) × (x ≡ over (looped port f) o)
  joined a b d e (er, ex) = (
    omega (
      arith,
      looped_length port f (omega arith),
      ap (λ (l : List ℕ). length l) e,
      length-append (a ++ b) d,
      length-append a b,
    ),
    rw e at ex,
  )

  module _ {d : ℕ} {g : Bool} (ed : d ≡ destination f) (eg : g ≡ group d) where
    -- to a group: the port's address in place of the destination
    pub to_group_lem : {m : List ℕ} → m ≡ octets 6 port → g ≡ true
        → (r ≡ length (take 6 (drop 6 f)) + length m + length (end f)) × (x ≡ over (take 6 (drop 6 f) ++ m ++ end f) o)
        → (r ≡ length f) × (x ≡ over (looped port f) o)
    unfolding looped
    to_group_lem {m} em t w =
        let h : group (destination f) ≡ true = ap group (sym ed) ∙ (sym eg ∙ t) in
        joined (take 6 (drop 6 f)) m (end f) (simp (h, em, whole f)) w

    pub to_one : g ≡ false
        → (r ≡ length (take 6 (drop 6 f)) + length (take 6 f) + length (end f))
        × (x ≡ over (take 6 (drop 6 f) ++ take 6 f ++ end f) o)
        → (r ≡ length f) × (x ≡ over (looped port f) o)
    unfolding looped
    to_one t w =
        let h : group (destination f) ≡ false = ap group (sym ed) ∙ (sym eg ∙ t) in
        joined (take 6 (drop 6 f)) (take 6 f) (end f) (simp (h, whole f)) w

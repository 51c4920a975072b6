-- Laws of `over`: a turn of the copying loop, and one write after another.
use mathlib.Core.Path.{◌≡◌, ap, sym, ◌∙◌}
use mathlib.Core.List.{List, [], ◌++◌, append_assoc, append-nil}
use Prim.Native.Nat.{ℕ, suc, ◌+◌, ◌-◌, ◌≤◌, ◌<◌}
use native.Mathlib.Numerals.{add-one}
use native.Mathlib.Omega.{arith}
use lib.ListN.{length, take, drop, get_or, set, length-append, length-drop}
use borrow.Rule.Slice.PartMut.{mid_of, put_mid}
use lib.Seq.{take_all, drop-cons, take-suc, append_snoc, set_at, length-take-le, take_at, drop_at, drop-drop}
use lib.ListN.{drop_of_length-le, take-append-drop}
use Rattle.octets.specs.Octets.{over, splice}

-- a turn of the loop that copies s over d
pub copy_more : (d s : List ℕ) (i : ℕ) → i < length s → length s ≤ length d
    → set (take i s ++ drop i d) i (get_or s i 0) ≡ take (i + 1) s ++ drop (i + 1) d
copy_more d s i hs hd =
    ap (λ (r : List ℕ). set (take i s ++ r) i (get_or s i 0)) (drop-cons d i 0 (omega arith))
    ∙ set_at (take i s) (get_or d i 0) (drop (suc i) d) (get_or s i 0) i (length-take-le i s (omega arith))
    ∙ sym (append_snoc (take i s) (get_or s i 0) (drop (suc i) d))
    ∙ rw (add-one, take-suc s i 0)

pub length_over : (w o : List ℕ) → length w ≤ length o → length (over w o) ≡ length o
length_over w o h = simp (length-append, length-drop) (omega arith)

-- `a` was written at the front of o, which left x; then the part of x from a's end, n, was lent to a writer of b, which left y
pub then_over : (a b o : List ℕ) (n : ℕ) {x y : List ℕ}
    → x ≡ over a o → y ≡ over b (mid_of n (length x - n) x) → length a ≡ n → n + length b ≤ length o
    → put_mid n (length x - n) x y ≡ over (a ++ b) o
then_over a b o n {x} {y} ex ey ea hb =
    let r : List ℕ = drop (length a) o in
    let lx : length x ≡ length o = rw ex (length_over a o (omega arith)) in
    let d : drop n x ≡ r = rw ex (drop_at a r n ea) in
    let lr : length r ≤ length x - n = simp length-drop (omega arith) in
    let m : take (length x - n) r ≡ r = take_all (length x - n) r lr in
    let z : drop (length x - n) r ≡ [] = drop_of_length-le r {i = length x - n} lr in
    let t : take n x ≡ a = rw ex (take_at a r n ea) in
    let w : y ≡ b ++ drop (length b) r = rw (d, m) at ey in
    rw (t, d, z, append-nil, w, ← append_assoc, drop-drop, length-append)

-- the part of x from n was lent to a writer of w, which left y there
pub part_splice : (n : ℕ) (w x : List ℕ) {y : List ℕ} → n ≤ length x
    → y ≡ over w (mid_of n (length x - n) x) → put_mid n (length x - n) x y ≡ splice n w x
part_splice n w x {y} h ey =
    let r : List ℕ = drop n x in
    let lr : length r ≤ length x - n = simp length-drop (omega arith) in
    let m : take (length x - n) r ≡ r = take_all (length x - n) r lr in
    let z : drop (length x - n) r ≡ [] = drop_of_length-le r {i = length x - n} lr in
    rw (ey, m, z, append-nil)

-- one write after another
pub splice_splice : (n : ℕ) (w r o : List ℕ) → n + length w ≤ length o
    → splice (n + length w) r (splice n w o) ≡ splice n (w ++ r) o
splice_splice n w r o h =
    let t : List ℕ = take n o ++ w in
    let q : List ℕ = drop (length w) (drop n o) in
    let e : splice n w o ≡ t ++ q = sym (append_assoc (take n o) w q) in
    let lt : length t ≡ n + length w = simp length-append (omega (arith, length-take-le n o (omega arith))) in
    rw (e, take_at t q (n + length w) lt, drop_at t q (n + length w) lt, append_assoc, append_assoc, length-append, drop-drop)

-- y is o with w at n, and w is known as v
pub splice_as : (n : ℕ) (o : List ℕ) {v w y : List ℕ} → y ≡ splice n w o → w ≡ v → y ≡ splice n v o
splice_as n o ey ew = ey ∙ ap (λ (u : List ℕ). splice n u o) ew

pub splice_none : (n : ℕ) (o : List ℕ) → splice n [] o ≡ o
splice_none n o = take-append-drop n o

pub length_splice : (n : ℕ) (w o : List ℕ) → n + length w ≤ length o → length (splice n w o) ≡ length o
length_splice n w o h = simp (length-append, length-drop) (omega (arith, length-take-le n o (omega arith)))

-- `x` is o with w at n; then r was written at w's end
pub then_splice : (n m : ℕ) (w r o : List ℕ) {x y : List ℕ} → x ≡ splice n w o → y ≡ splice m r x
    → m ≡ n + length w → m ≤ length o → y ≡ splice n (w ++ r) o
then_splice n m w r o ex ey em h = ey ∙ rw (ex, em) (splice_splice n w r o (omega arith))

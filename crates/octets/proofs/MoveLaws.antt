-- Laws of octets moved in place: a turn of each loop, and its start.
use mathlib.Core.Path.{◌≡◌, sym, ap, ◌∙◌}
use mathlib.Core.List.{List, [], ◌∷◌, ◌++◌, append_assoc}
use Prim.Native.Nat.{ℕ, suc, ◌+◌, ◌-◌, ◌<◌, ◌≤◌}
use native.Mathlib.Numerals.{add-one}
use native.Mathlib.Omega.{arith}
use lib.ListN.{length, get_or, take, drop, set, length-append, length-drop, get_or-append, take-append-drop}
use lib.Seq.{drop-cons, drop-drop, take-suc, length-take-le, set_at, set_split, get_or-take, get_or-drop, get_or-append-add}
use Rattle.octets.specs.Octets.{splice, moved_up, moved_down}

-- one octet stored is a run of one written there
pub set_splice : (l : List ℕ) (i x : ℕ) → i < length l → set l i x ≡ splice i (x ∷ []) l
set_splice l i x h = rw (drop-drop, add-one) (set_split l i x h)

-- the octets above i, up to high, are moved up
module _ (l : List ℕ) (by high i : ℕ) (h : i < high) (fit : high + by ≤ length l) where
  abbrev above : List ℕ
  above = take (high - (i + 1)) (drop (i + 1) l) ++ drop (high + by) l

  up_open : moved_up by (i + 1) high l ≡ take (i + by) l ++ (get_or l (i + by) 0 ∷ above)
  unfolding moved_up
  up_open =
      let e : i + 1 + by ≡ suc (i + by) = omega arith in
      rw (e, take-suc l (i + by) 0 (omega arith)) (append_assoc (take (i + by) l) (get_or l (i + by) 0 ∷ []) above)

  up_shut : moved_up by i high l ≡ take (i + by) l ++ (get_or l i 0 ∷ above)
  unfolding moved_up
  up_shut = let e : high - i ≡ suc (high - (i + 1)) = omega arith in rw (drop-cons l i 0 (omega arith), e, add-one)

  up_kept : get_or (moved_up by (i + 1) high l) i 0 ≡ get_or l i 0
  unfolding moved_up
  up_kept =
      let n : length (take (i + 1 + by) l) ≡ i + 1 + by = length-take-le (i + 1 + by) l (omega arith) in
      get_or-append (take (i + 1 + by) l) above 0 i (omega arith) ∙ get_or-take (i + 1 + by) l i 0 (omega arith)

  up_turn : set (moved_up by (i + 1) high l) (i + by) (get_or (moved_up by (i + 1) high l) i 0) ≡ moved_up by i high l
  up_turn =
      let n : length (take (i + by) l) ≡ i + by = length-take-le (i + by) l (omega arith) in
      rw (up_kept, up_open, up_shut) (set_at (take (i + by) l) (get_or l (i + by) 0) above (get_or l i 0) (i + by) n)

-- a turn of the loop, which counts down before it moves
pub up_next : (l : List ℕ) (by high n : ℕ) {b : List ℕ} → 0 < n → n ≤ high → high + by ≤ length l → b ≡ moved_up by n high l
    → set b (n - 1 + by) (get_or b (n - 1) 0) ≡ moved_up by (n - 1) high l
up_next l by high n h k fit e =
    let s : n - 1 + 1 ≡ n = omega arith in
    rw e (rw s at (up_turn l by high (n - 1) (omega arith) (omega arith)))

pub up_none : (l : List ℕ) (by high : ℕ) → l ≡ moved_up by high high l
unfolding moved_up
up_none l by high = let e : high - high ≡ 0 = omega arith in rw e (sym (take-append-drop (high + by) l))

-- the octets from low up to i are moved down
module _ (l : List ℕ) (by low i : ℕ) (g : by ≤ low) (h : low ≤ i) (fit : i < length l) where
  abbrev below : List ℕ
  below = take (low - by) l ++ take (i - low) (drop low l)

  below_length : length below ≡ i - by
  below_length =
      let p : length (take (low - by) l) ≡ low - by = length-take-le (low - by) l (omega arith) in
      let r : i - low ≤ length (drop low l) = simp length-drop (omega arith) in
      let q : length (take (i - low) (drop low l)) ≡ i - low = length-take-le (i - low) (drop low l) r in
      simp (length-append, p, q) (omega arith)

  down_open : moved_down by low i l ≡ below ++ drop (i - by) l
  unfolding moved_down
  down_open = sym (append_assoc (take (low - by) l) (take (i - low) (drop low l)) (drop (i - by) l))

  down_shut : moved_down by low (i + 1) l ≡ below ++ (get_or l i 0 ∷ drop (suc (i - by)) l)
  unfolding moved_down
  down_shut =
      let e : i + 1 - low ≡ suc (i - low) = omega arith in
      let f : low + (i - low) ≡ i = omega arith in
      let d : i + 1 - by ≡ suc (i - by) = omega arith in
      rw (e, take-suc (drop low l) (i - low) 0 (simp length-drop (omega arith)), get_or-drop, f, d) (simp append_assoc)

  down_kept : get_or (below ++ drop (i - by) l) i 0 ≡ get_or l i 0
  down_kept =
      let e : i ≡ length below + by = omega (arith, below_length) in
      let f : i - by + by ≡ i = omega arith in
      ap (λ (k : ℕ). get_or (below ++ drop (i - by) l) k 0) e ∙ get_or-append-add below (drop (i - by) l) by 0 ∙ rw (get_or-drop, f)

  pub down_turn : set (moved_down by low i l) (i - by) (get_or (moved_down by low i l) i 0) ≡ moved_down by low (i + 1) l
  down_turn =
      let r : List ℕ = drop (suc (i - by)) l in
      rw (down_open, down_kept, down_shut, drop-cons l (i - by) 0 (omega arith))
      (set_at below (get_or l (i - by) 0) r (get_or l i 0) (i - by) below_length)

pub down_none : (l : List ℕ) (by low : ℕ) → l ≡ moved_down by low low l
unfolding moved_down
down_none l by low = let e : low - low ≡ 0 = omega arith in rw e (sym (take-append-drop (low - by) l))

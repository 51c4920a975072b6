-- Whatever the pieces in which input arrives, its lines are those of the whole, as far as they are kept.
use mathlib.Core.Path.{◌≡◌, refl, sym, ◌∙◌, ap}
use mathlib.Core.Bool.{true, false, not}
use mathlib.Core.List.{List, [], ◌∷◌, ◌++◌, map, append_assoc, append-nil}
use Prim.Native.Nat.{ℕ, zero, suc, ◌≤◌}
use native.Mathlib.Omega.{arith}
use lib.Dec.{eqb}
use lib.ListN.{length, take, length-append, length-take}
use borrow.Author.Tests.{eq-eqb, ne_eqb}
use Rattle.octets.specs.Lists.{every}
use Rattle.octets.proofs.Same.{both_true}
use Rattle.octets.proofs.Cases.{by_eq}
use Rattle.plan.specs.Line.{lf, joined, parted}
use Rattle.plan.proofs.WrittenFields.{free, parted_only}
use Rattle.plan_lines.proofs.Parts.{some_part}
use Rattle.events_shift.specs.Lines.{closed, lines_in, kept, cut_at, cut, arriving, whole}

-- parts, the first of them behind more octets
unfoldable ahead : List ℕ → List (List ℕ) → List (List ℕ)
ahead l [] = []
ahead l (part ∷ parts) = (l ++ part) ∷ parts

ahead_none : (parts : List (List ℕ)) → ahead [] parts ≡ parts
unfolding ahead
ahead_none [] = refl
ahead_none (part ∷ parts) = refl

ahead_some : (l : List ℕ) (parts : List (List ℕ)) → 1 ≤ length parts → 1 ≤ length (ahead l parts)
unfolding ahead
ahead_some l [] h = absurd (omega arith)
ahead_some l (part ∷ parts) h = omega arith

-- a line ahead of other parts is whole
pub cut_cons : (line : List ℕ) (parts : List (List ℕ)) → 1 ≤ length parts
    → ((cut_at (line ∷ parts)).lines ≡ line ∷ (cut_at parts).lines) × ((cut_at (line ∷ parts)).rest ≡ (cut_at parts).rest)
unfolding cut_at
cut_cons line [] h = absurd (omega arith)
cut_cons line (part ∷ parts) h = (refl, refl)

-- an octet more ahead of all
cut_joined : (x : ℕ) (parts behind : List (List ℕ)) → 1 ≤ length parts → 1 ≤ length behind
    → joined x ((cut_at parts).lines ++ ahead (cut_at parts).rest behind)
    ≡ (cut_at (joined x parts)).lines ++ ahead (cut_at (joined x parts)).rest behind
unfolding cut_at joined ahead
cut_joined x [] behind h k = absurd (omega arith)
cut_joined x (part ∷ []) [] h k = absurd (omega arith)
cut_joined x (part ∷ []) (b ∷ behind) h k = refl
cut_joined x (part ∷ next ∷ parts) behind h k = refl

-- The parts of one text behind another: the lines that are whole in the first, and its rest ahead of the parts of the second.
parted_more : (a b : List ℕ) → parted lf (a ++ b) ≡ (cut a).lines ++ ahead (cut a).rest (parted lf b)
unfolding parted cut cut_at
parted_more [] b = sym (ahead_none (parted lf b))
parted_more (x ∷ a) b =
    by_eq x lf
    (λ e same.
    let c : _ = cut_cons [] (parted lf a) (some_part lf a) in
    rw (e, c.0, c.1, parted_more a b))
    (λ e other.
    rw (e, parted_more a b) (cut_joined x (parted lf a) (parted lf b) (some_part lf a) (some_part lf b)))

-- lines ahead of other parts are closed
closed_more : (lines parts : List (List ℕ)) → 1 ≤ length parts → closed (lines ++ parts) ≡ lines ++ closed parts
unfolding closed
closed_more [] parts h = refl
closed_more (line ∷ lines) parts h = go (lines ++ parts) (omega (arith, length-append lines parts)) ∙ rw (closed_more lines parts h)
  where
    go : (all : List (List ℕ)) → 1 ≤ length all → closed (line ∷ all) ≡ line ∷ closed all
    go [] k = absurd (omega arith)
    go (next ∷ all) k = refl

lines_more : (a b : List ℕ) → lines_in (a ++ b) ≡ (cut a).lines ++ closed (ahead (cut a).rest (parted lf b))
unfolding lines_in
lines_more a b =
    rw (parted_more a b) (closed_more (cut a).lines (ahead (cut a).rest (parted lf b)) (ahead_some (cut a).rest (parted lf b) (some_part lf b)))

-- a rest has no LF, nor has what is kept of it
rest_free : (l : List ℕ) → free lf (cut l).rest ≡ true
unfolding cut parted cut_at joined every
rest_free [] = refl
rest_free (x ∷ l) =
    by_eq x lf
    (λ e same. rw (e, (cut_cons [] (parted lf l) (some_part lf l)).1) (rest_free l))
    (λ e other. rw e (go e (parted lf l) (some_part lf l) (rest_free l)))
  where
    go : eqb x lf ≡ false → (parts : List (List ℕ)) → 1 ≤ length parts → free lf (cut_at parts).rest ≡ true
        → free lf (cut_at (joined x parts)).rest ≡ true
    go e [] h k = absurd (omega arith)
    go e (part ∷ []) h k = rw e k
    go e (part ∷ next ∷ parts) h k = k

kept_free : (n : ℕ) (l : List ℕ) → free lf l ≡ true → free lf (take n l) ≡ true
unfolding every
kept_free zero l h = refl
kept_free (suc n) [] h = refl
kept_free (suc n) (x ∷ l) h =
    let b : _ = both_true (not (eqb x lf)) (free lf l) h in
    rw b.0 (kept_free n l b.1)

-- a text without LF ahead of another
lines_behind : (l b : List ℕ) → free lf l ≡ true → lines_in (l ++ b) ≡ closed (ahead l (parted lf b))
unfolding cut cut_at
lines_behind l b h = lines_more l b ∙ rw (parted_only lf l h)

-- what is kept of a line is enough to keep as much of it with more behind
kept_more : (n : ℕ) (l m : List ℕ) → take n (take n l ++ m) ≡ take n (l ++ m)
kept_more zero l m = refl
kept_more (suc n) [] m = refl
kept_more (suc n) (x ∷ l) m = ap (λ (t : List ℕ). x ∷ t) (kept_more n l m)

kept_closed : (l : List ℕ) (parts : List (List ℕ)) → map kept (closed (ahead (kept l) parts)) ≡ map kept (closed (ahead l parts))
unfolding ahead closed kept
kept_closed l [] = refl
kept_closed l (part ∷ next ∷ parts) = rw (kept_more 4101 l part)
kept_closed l (part ∷ []) =
    by_eq (length (l ++ part)) 0
    (λ e none. rw (e, eq-eqb (length (take 4101 l ++ part)) 0 (omega (arith, length-append (take 4101 l) part, length-append l part, length-take 4101 l))))
    (λ e some.
    rw (e, ne_eqb (length (take 4101 l ++ part)) 0 (λ z. some (omega (arith, length-append (take 4101 l) part, length-append l part, length-take 4101 l))), kept_more 4101 l part))

map_more : {A B : Type 0} (f : A → B) (l m : List A) → map f (l ++ m) ≡ map f l ++ map f m
map_more f [] m = refl
map_more f (x ∷ l) m = rw (map_more f l m)

-- the same behind what is held of a line, which has no LF
behind_held : (held : List ℕ) (pieces : List (List ℕ)) → free lf held ≡ true
    → map kept (arriving held pieces) ≡ map kept (lines_in (held ++ whole pieces))
unfolding arriving whole parted ahead closed kept
behind_held held [] h = rw (lines_behind held [] h, append-nil)
behind_held held (piece ∷ pieces) h =
    let a : List ℕ = held ++ piece in
    let r : List ℕ = (cut a).rest in
    let f : free lf (kept r) ≡ true = kept_free 4101 r (rest_free a) in
    map_more kept (cut a).lines (arriving (kept r) pieces)
    ∙ rw (
      behind_held (kept r) pieces f,
      lines_behind (kept r) (whole pieces) f,
      kept_closed r (parted lf (whole pieces)),
      ← map_more kept (cut a).lines (closed (ahead r (parted lf (whole pieces)))),
      ← lines_more a (whole pieces),
      append_assoc,
    )

pub pieces_alike : (pieces : List (List ℕ)) → map kept (arriving [] pieces) ≡ map kept (lines_in (whole pieces))
unfolding every
pieces_alike pieces = behind_held [] pieces refl

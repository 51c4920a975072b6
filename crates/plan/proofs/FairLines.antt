-- Every line that is read is fair: its kinds are listed ones, and its addresses have 48 bits.
use mathlib.Core.Path.{◌≡◌, refl}
use mathlib.Core.Bool.{Bool, true, false, cond, ◌&&◌, ◌||◌}
use mathlib.Core.List.{List, [], ◌∷◌}
use Prim.Native.Nat.{ℕ, suc, ◌+◌, ◌*◌, ◌^◌, ◌<◌, ◌≤◌}
use native.Mathlib.Nat.{mul_assoc, pow-succ', mul-le-mul_right}
use native.Mathlib.Omega.{arith}
use lib.Dec.{eqb, ltb, leb}
use lib.ListN.{length}
use borrow.Author.Tests.{eqb-true, lt-ltb, le-ltb}
use Rattle.octets.specs.Octets.{same}
use Rattle.octets.specs.Lists.{within, every}
use Rattle.octets.specs.Text.{text, digit}
use Rattle.octets.proofs.Same.{both_true}
use Rattle.octets.proofs.ListLaws.{within_low, within_high}
use Rattle.codec.specs.FrameSet.{uni, enni, untagged, s_tagged}
use Rattle.plan.specs.Plan.{up, mip}
use Rattle.plan.specs.Line.{Line, unreadable, field, is_digit, is_number, is_address, spelled, address_in, listed}
use Rattle.plan.specs.Line.{tab, parted, port_kinds, flow_kinds, mp_kinds, as_port, as_flow, as_mp, by_word, line_of}
use Rattle.plan.proofs.Fair.{fair_line}

-- a word that is listed has one of the listed places
two_listed : (a b : Bool) → leb 1 (cond a 1 (cond b 2 0)) ≡ true → within 1 2 (cond a 1 (cond b 2 0)) ≡ true
unfolding within
two_listed true b h = refl
two_listed false true h = refl
two_listed false false h = h

three_listed : (a b c : Bool) → leb 1 (cond a 1 (cond b 2 (cond c 3 0))) ≡ true
    → within 1 3 (cond a 1 (cond b 2 (cond c 3 0))) ≡ true
unfolding within
three_listed true b c h = refl
three_listed false true c h = refl
three_listed false false true h = refl
three_listed false false false h = h

port_listed : (w : List ℕ) → leb 1 (listed port_kinds w) ≡ true → within uni enni (listed port_kinds w) ≡ true
unfolding listed port_kinds
port_listed w h = two_listed (same (text "uni") w) (same (text "enni") w) h

flow_listed : (w : List ℕ) → leb 1 (listed flow_kinds w) ≡ true → within untagged s_tagged (listed flow_kinds w) ≡ true
unfolding listed flow_kinds
flow_listed w h = three_listed (same (text "u") w) (same (text "c") w) (same (text "s") w) h

mp_listed : (w : List ℕ) → leb 1 (listed mp_kinds w) ≡ true → within up mip (listed mp_kinds w) ≡ true
unfolding listed mp_kinds
mp_listed w h = three_listed (same (text "up") w) (same (text "down") w) (same (text "mip") w) h

-- digits of an address are below 16
digit_fits : (x : ℕ) → (is_digit x || within 97 102 x) ≡ true → digit x < 16
unfolding digit is_digit
digit_fits x h = go (within 48 57 x) refl h
  where
    go : (b : Bool) → within 48 57 x ≡ b → (b || within 97 102 x) ≡ true → digit x < 16
    go true e h =
        let low : 48 ≤ x = within_low 48 57 x e in
        let high : x ≤ 57 = within_high 48 57 x e in
        rw (lt-ltb x 58 (omega arith)) (omega arith)
    go false e h =
        let low : 97 ≤ x = within_low 97 102 x h in
        let high : x ≤ 102 = within_high 97 102 x h in
        rw (le-ltb x 58 (omega arith), le-ltb x 97 (omega arith)) (omega arith)

spelled_fits : (l : List ℕ) (so : ℕ) → every (λ x. is_digit x || within 97 102 x) l ≡ true
    → spelled 16 so l < (so + 1) * 16 ^ length l
unfolding every spelled
spelled_fits [] so h = omega arith
spelled_fits (x ∷ l) so h =
    let b : _ = both_true (is_digit x || within 97 102 x) (every (λ x. is_digit x || within 97 102 x) l) h in
    let d : digit x < 16 = digit_fits x b.0 in
    let p : ℕ = 16 ^ length l in
    let e : (so + 1) * 16 ^ suc (length l) ≡ (so + 1) * 16 * p = rw (pow-succ', mul_assoc) in
    let m : (so * 16 + digit x + 1) * p ≤ (so + 1) * 16 * p = mul-le-mul_right p (omega arith) in
    rw e (omega (arith, spelled_fits l (so * 16 + digit x) b.1))

address_fits : (l : List ℕ) → is_address l ≡ true → ltb (address_in l) (2 ^ 48) ≡ true
unfolding is_address address_in
address_fits l h =
    let b : _ = both_true (eqb (length l) 12) (every (λ x. is_digit x || within 97 102 x) l) h in
    let e : length l ≡ 12 = eqb-true (length l) 12 b.0 in
    lt-ltb (spelled 16 0 l) (2 ^ 48) (rw e at (spelled_fits l 0 b.1))

-- a line that is none is fair too
or_none : (b : Bool) (line : Line) → (b ≡ true → fair_line line ≡ true) → fair_line (cond b line unreadable) ≡ true
unfolding fair_line
or_none true line h = h refl
or_none false line h = refl

port_fair : (fs : List (List ℕ)) → fair_line (as_port fs) ≡ true
unfolding as_port fair_line
port_fair fs =
    let a : Bool = eqb (length fs) 4 && is_number (field 2 fs) in
    let b : Bool = leb 1 (listed port_kinds (field 3 fs)) in
    let c : Bool = is_address (field 4 fs) in
    or_none (a && b && c) _
    (λ h.
    let t2 : _ = both_true (a && b) c h in
    let t1 : _ = both_true a b t2.0 in
    rw (port_listed (field 3 fs) t1.1) (address_fits (field 4 fs) t2.1))

flow_fair : (fs : List (List ℕ)) → fair_line (as_flow fs) ≡ true
unfolding as_flow fair_line
flow_fair fs =
    let a : Bool = eqb (length fs) 5 && is_number (field 2 fs) && is_number (field 3 fs) in
    let b : Bool = leb 1 (listed flow_kinds (field 4 fs)) in
    let c : Bool = is_number (field 5 fs) in
    or_none (a && b && c) _ (λ h. flow_listed (field 4 fs) (both_true a b (both_true (a && b) c h).0).1)

mp_fair : (fs : List (List ℕ)) → fair_line (as_mp fs) ≡ true
unfolding as_mp fair_line
mp_fair fs =
    let a : Bool = eqb (length fs) 4 && is_number (field 2 fs) in
    let b : Bool = leb 1 (listed mp_kinds (field 3 fs)) in
    let c : Bool = is_number (field 4 fs) in
    or_none (a && b && c) _ (λ h. mp_listed (field 3 fs) (both_true a b (both_true (a && b) c h).0).1)

by_word_lem : (a b c : Bool) (x y z : Line) → fair_line x ≡ true → fair_line y ≡ true → fair_line z ≡ true
    → fair_line (cond a x (cond b y (cond c z unreadable))) ≡ true
unfolding fair_line
by_word_lem true b c x y z p q r = p
by_word_lem false true c x y z p q r = q
by_word_lem false false true x y z p q r = r
by_word_lem false false false x y z p q r = refl

pub line_fair : (l : List ℕ) → fair_line (line_of l) ≡ true
unfolding line_of by_word
line_fair l =
    let fs : List (List ℕ) = parted tab l in
    by_word_lem (same (field 1 fs) (text "port")) (same (field 1 fs) (text "flow")) (same (field 1 fs) (text "mp")) (as_port fs)
    (as_flow fs) (as_mp fs) (port_fair fs) (flow_fair fs) (mp_fair fs)

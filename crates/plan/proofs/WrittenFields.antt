-- Parts that are joined are parted again: fields by tabs, lines by LF. What is written has no tab or LF in a field.
use mathlib.Core.Path.{◌≡◌, refl, ◌∙◌}
use mathlib.Core.Bool.{Bool, true, not}
use mathlib.Core.List.{List, [], ◌∷◌, ◌++◌}
use Prim.Native.Nat.{ℕ, zero, suc, ◌+◌, ◌-◌, ◌/◌, ◌%◌, ◌<◌, ◌≤◌}
use native.Mathlib.Omega.{arith}
use lib.Dec.{eqb, ltb}
use lib.ListN.{length, get_or}
use borrow.Author.Tests.{ltb-true, lt-ltb, eq-eqb, ne_eqb, not-true}
use Rattle.octets.specs.Lists.{every}
use Rattle.octets.specs.Text.{text}
use Rattle.octets.proofs.Same.{both_true}
use Rattle.octets.proofs.Cases.{by_lt}
use Rattle.octets.proofs.ListLaws.{every_such}
use Rattle.plan.specs.Line.{Line, unreadable, port_line, flow_line, mp_line, tab, lf, joined, parted}
use Rattle.plan.specs.Line.{port_kinds, flow_kinds, mp_kinds}
use Rattle.plan.specs.WrittenPlan.{decimal, hex_digit, hexadecimal, word_at, fields_of, tabbed, line_text}
use Rattle.plan.proofs.WrittenNumbers.{every_join}

-- has the text no such octet?
abbrev pub free : ℕ → List ℕ → Bool
free by l = every (λ x. not (eqb x by)) l

pub parted_past : (by : ℕ) (l rest : List ℕ) → free by l ≡ true → parted by (l ++ (by ∷ rest)) ≡ l ∷ parted by rest
unfolding parted joined every
parted_past by [] rest h = rw (eq-eqb by by refl)
parted_past by (x ∷ l) rest h =
    let b : _ = both_true (not (eqb x by)) (free by l) h in
    rw (not-true (eqb x by) b.0, parted_past by l rest b.1)

pub parted_only : (by : ℕ) (l : List ℕ) → free by l ≡ true → parted by l ≡ l ∷ []
unfolding parted joined every
parted_only by [] h = refl
parted_only by (x ∷ l) h =
    let b : _ = both_true (not (eqb x by)) (free by l) h in
    rw (not-true (eqb x by) b.0, parted_only by l b.1)

-- a field: its octets are above tab and LF
abbrev pub plain : List ℕ → Bool
plain l = every (ltb lf) l

pub plain_free : (by : ℕ) → by ≤ lf → (l : List ℕ) → plain l ≡ true → free by l ≡ true
plain_free by h l p = every_such (ltb lf) (λ x. not (eqb x by)) other l p
  where
    other : (x : ℕ) → ltb lf x ≡ true → not (eqb x by) ≡ true
    other x e = let p : lf < x = ltb-true lf x e in rw (ne_eqb x by (λ z. omega arith))

pub parted_tabbed : (fs : List (List ℕ)) → 1 ≤ length fs → every plain fs ≡ true → parted tab (tabbed fs) ≡ fs
unfolding every tabbed
parted_tabbed [] n h = absurd (omega arith)
parted_tabbed (f ∷ []) n h = parted_only tab f (plain_free tab (omega arith) f (both_true (plain f) true h).0)
parted_tabbed (f ∷ g ∷ fs) n h =
    let b : _ = both_true (plain f) (every plain (g ∷ fs)) h in
    parted_past tab f (tabbed (g ∷ fs)) (plain_free tab (omega arith) f b.0) ∙ rw (parted_tabbed (g ∷ fs) (omega arith) b.1)

pub tabbed_free : (fs : List (List ℕ)) → every plain fs ≡ true → free lf (tabbed fs) ≡ true
unfolding every tabbed
tabbed_free [] h = refl
tabbed_free (f ∷ []) h = plain_free lf (omega arith) f (both_true (plain f) true h).0
tabbed_free (f ∷ g ∷ fs) h =
    let b : _ = both_true (plain f) (every plain (g ∷ fs)) h in
    every_join (λ x. not (eqb x lf)) f (tab ∷ tabbed (g ∷ fs)) (plain_free lf (omega arith) f b.0)
    (tabbed_free (g ∷ fs) b.1)

-- what each listed word passes, and the empty one, the word at a place does
pub word_passes : (test : List ℕ → Bool) → test [] ≡ true → (words : List (List ℕ)) → every test words ≡ true → (n : ℕ)
    → test (get_or words n []) ≡ true
unfolding every
word_passes test e [] h n = e
word_passes test e (w ∷ words) h zero = (both_true (test w) (every test words) h).0
word_passes test e (w ∷ words) h (suc n) = word_passes test e words (both_true (test w) (every test words) h).1 n

pub decimal_plain : (n x : ℕ) → plain (decimal n x) ≡ true
unfolding decimal every
decimal_plain zero x = refl
decimal_plain (suc n) x =
    by_lt x 10 (λ e s. rw (e, lt-ltb lf (48 + x) (omega arith)))
    (λ e s.
    rw e
    (every_join (ltb lf) (decimal n (x / 10)) ((48 + x % 10) ∷ []) (decimal_plain n (x / 10))
    (rw (lt-ltb lf (48 + x % 10) (omega arith)))))

pub digit_plain : (d : ℕ) → ltb lf (hex_digit d) ≡ true
unfolding hex_digit
digit_plain d = by_lt d 10 (λ e s. rw (e, lt-ltb lf (48 + d) (omega arith))) (λ e s. rw (e, lt-ltb lf (87 + d) (omega arith)))

hex_plain : (n x : ℕ) → plain (hexadecimal n x) ≡ true
unfolding hexadecimal every
hex_plain zero x = refl
hex_plain (suc n) x =
    every_join (ltb lf) (hexadecimal n (x / 16)) (hex_digit (x % 16) ∷ []) (hex_plain n (x / 16)) (rw (digit_plain (x % 16)))

fields_plain : (line : Line) → every plain (fields_of line) ≡ true
unfolding fields_of every word_at text port_kinds flow_kinds mp_kinds
fields_plain unreadable = refl
fields_plain (port_line number kind address) =
    rw (decimal_plain 4 number, word_passes plain refl port_kinds refl (kind - 1), hex_plain 12 address)
fields_plain (flow_line number port kind vid) =
    rw (decimal_plain 4 number, decimal_plain 4 port, word_passes plain refl flow_kinds refl (kind - 1), decimal_plain 4 vid)
fields_plain (mp_line flow kind level) =
    rw (decimal_plain 4 flow, word_passes plain refl mp_kinds refl (kind - 1), decimal_plain 4 level)

pub line_free : (line : Line) → free lf (line_text line) ≡ true
unfolding line_text
line_free line = tabbed_free (fields_of line) (fields_plain line)

fields_some : (line : Line) → 1 ≤ length (fields_of line)
unfolding fields_of
fields_some unreadable = omega arith
fields_some (port_line number kind address) = omega arith
fields_some (flow_line number port kind vid) = omega arith
fields_some (mp_line flow kind level) = omega arith

pub fields_back : (line : Line) → parted tab (line_text line) ≡ fields_of line
unfolding line_text
fields_back line = parted_tabbed (fields_of line) (fields_some line) (fields_plain line)

-- A number that is written is read back, in decimal and in hex.
use mathlib.Core.Path.{◌≡◌, refl}
use mathlib.Core.Bool.{Bool, true, false, ◌&&◌, ◌||◌}
use mathlib.Core.List.{List, [], ◌∷◌, ◌++◌}
use Prim.Native.Nat.{ℕ, zero, suc, ◌+◌, ◌*◌, ◌/◌, ◌%◌, ◌^◌, ◌<◌, ◌≤◌}
use native.Mathlib.Nat.{pow-suc}
use native.Mathlib.Omega.{arith}
use lib.Dec.{eqb, leb}
use lib.ListN.{length, get_or, length-append}
use borrow.Author.Tests.{leb-true, lt-ltb, le-ltb, le-leb}
use Rattle.octets.specs.Lists.{within, every}
use Rattle.octets.specs.Text.{digit}
use Rattle.octets.proofs.Same.{both_true}
use Rattle.octets.proofs.Cases.{by_lt}
use Rattle.plan.specs.Line.{is_digit, is_number, is_address, spelled, number_in, address_in}
use Rattle.plan.specs.WrittenPlan.{decimal, hex_digit, hexadecimal}

pub every_join : {A : Type 0} (test : A → Bool) (a b : List A) → every test a ≡ true → every test b ≡ true
    → every test (a ++ b) ≡ true
unfolding every
every_join test [] b h k = k
every_join test (x ∷ a) b h k = let t : _ = both_true (test x) (every test a) h in rw t.0 (every_join test a b t.1 k)

pub is_within : (low high x : ℕ) → low ≤ x → x ≤ high → within low high x ≡ true
unfolding within
is_within low high x l h = rw (le-leb low x l) (le-leb x high h)

-- a digit more
spelled_more : (base so : ℕ) (l : List ℕ) (x : ℕ) → spelled base so (l ++ (x ∷ [])) ≡ spelled base so l * base + digit x
unfolding spelled
spelled_more base so [] x = refl
spelled_more base so (y ∷ l) x = spelled_more base (so * base + digit y) l x

low_digit : (d : ℕ) → d < 10 → digit (48 + d) ≡ d
unfolding digit
low_digit d h = rw (lt-ltb (48 + d) 58 (omega arith)) (omega arith)

low_is : (d : ℕ) → d < 10 → is_digit (48 + d) ≡ true
unfolding is_digit
low_is d h = is_within 48 57 (48 + d) (omega arith) (omega arith)

pub decimal_back : (n x : ℕ) → x < 10 ^ n → number_in (decimal n x) ≡ x
unfolding number_in decimal spelled
decimal_back zero x h = omega arith
decimal_back (suc n) x h =
    let p : x < 10 ^ n * 10 = rw pow-suc at h in
    by_lt x 10 (λ e s. rw (e, low_digit x s) (omega arith))
    (λ e s.
    let r : spelled 10 0 (decimal n (x / 10)) ≡ x / 10 = decimal_back n (x / 10) (omega arith) in
    rw (e, spelled_more 10 0 (decimal n (x / 10)) (48 + x % 10), low_digit (x % 10) (omega arith), r) (omega arith))

or_true : (b : Bool) → (b || true) ≡ true
or_true true = refl
or_true false = refl

-- a number that does not start with 0
abbrev leads : List ℕ → Type 0
leads l = (is_number l ≡ true) × (leb 49 (get_or l 0 0) ≡ true)

leads_more : (l : List ℕ) (x : ℕ) → leads l → is_digit x ≡ true → leads (l ++ (x ∷ []))
unfolding is_number every
leads_more [] x (n, f) d = absurd (omega (arith, leb-true 49 0 f))
leads_more (y ∷ l) x (n, f) d =
    let b : _ = both_true (is_digit y && every is_digit l) (eqb (length l) 0 || leb 49 y) n in
    let t : _ = both_true (is_digit y) (every is_digit l) b.0 in
    let one : every is_digit (x ∷ []) ≡ true = rw d in
    (rw (t.0, every_join is_digit l (x ∷ []) t.1 one, f) (or_true (eqb (length (l ++ (x ∷ []))) 0)), f)

one_digit : (x : ℕ) → x < 10 → is_number ((48 + x) ∷ []) ≡ true
unfolding is_number every
one_digit x h = rw (low_is x h)

some_leads : (n x : ℕ) → 1 ≤ x → x < 10 ^ suc n → leads (decimal (suc n) x)
unfolding decimal
some_leads zero x s h = rw (lt-ltb x 10 (omega arith)) (one_digit x (omega arith), le-leb 49 (48 + x) (omega arith))
some_leads (suc n) x s h =
    let p : x < 10 ^ suc n * 10 = rw pow-suc at h in
    by_lt x 10 (λ e low. rw e (one_digit x low, le-leb 49 (48 + x) (omega arith)))
    (λ e high.
    rw e
    (leads_more (decimal (suc n) (x / 10)) (48 + x % 10) (some_leads n (x / 10) (omega arith) (omega arith))
    (low_is (x % 10) (omega arith))))

pub decimal_is : (n x : ℕ) → x < 10 ^ suc n → is_number (decimal (suc n) x) ≡ true
unfolding decimal
decimal_is n x h = by_lt x 10 (λ e s. rw e (one_digit x s)) (λ e s. (some_leads n x (omega arith) h).0)

pub high_digit : (d : ℕ) → d < 16 → digit (hex_digit d) ≡ d
unfolding digit hex_digit
high_digit d h =
    by_lt d 10 (λ e s. rw (e, lt-ltb (48 + d) 58 (omega arith)) (omega arith))
    (λ e s. rw (e, le-ltb (87 + d) 58 (omega arith), le-ltb (87 + d) 97 (omega arith)) (omega arith))

pub high_is : (d : ℕ) → d < 16 → (is_digit (hex_digit d) || within 97 102 (hex_digit d)) ≡ true
unfolding hex_digit
high_is d h =
    by_lt d 10 (λ e s. rw (e, low_is d s))
    (λ e s. rw (e, is_within 97 102 (87 + d) (omega arith) (omega arith)) (or_true (is_digit (87 + d))))

hex_back : (n x : ℕ) → x < 16 ^ n → address_in (hexadecimal n x) ≡ x
unfolding address_in hexadecimal spelled
hex_back zero x h = omega arith
hex_back (suc n) x h =
    let p : x < 16 ^ n * 16 = rw pow-suc at h in
    let r : spelled 16 0 (hexadecimal n (x / 16)) ≡ x / 16 = hex_back n (x / 16) (omega arith) in
    rw (spelled_more 16 0 (hexadecimal n (x / 16)) (hex_digit (x % 16)), high_digit (x % 16) (omega arith), r) (omega arith)

pub hex_length : (n x : ℕ) → length (hexadecimal n x) ≡ n
unfolding hexadecimal
hex_length zero x = refl
hex_length (suc n) x = rw (length-append, hex_length n (x / 16)) (omega arith)

hex_digits : (n x : ℕ) → every (λ x. is_digit x || within 97 102 x) (hexadecimal n x) ≡ true
unfolding hexadecimal every
hex_digits zero x = refl
hex_digits (suc n) x =
    let one : every (λ x. is_digit x || within 97 102 x) (hex_digit (x % 16) ∷ []) ≡ true = rw (high_is (x % 16) (omega arith)) in
    every_join (λ x. is_digit x || within 97 102 x) (hexadecimal n (x / 16)) (hex_digit (x % 16) ∷ []) (hex_digits n (x / 16)) one

pub address_back : (x : ℕ) → x < 2 ^ 48 → address_in (hexadecimal 12 x) ≡ x
address_back x h = hex_back 12 x h

pub address_is : (x : ℕ) → is_address (hexadecimal 12 x) ≡ true
unfolding is_address
address_is x = rw (hex_length 12 x) (hex_digits 12 x)

-- The first session that is owed a notice, in a table whose keys ascend: its row is that of its key.
use mathlib.Core.Path.{◌≡◌, refl, sym}
use mathlib.Core.Bool.{Bool, true, false, not, false≢true}
use mathlib.Core.List.{List, [], ◌∷◌}
use Prim.Native.Nat.{ℕ, zero, suc, ◌+◌, ◌<◌}
use native.Mathlib.Omega.{arith}
use lib.Dec.{eqb}
use lib.ListN.{get_or, drop}
use borrow.Author.Tests.{eq-eqb, ne_eqb}
use Rattle.octets.specs.Octets.{low_number}
use Rattle.octets.specs.Lists.{every, some, first, ascends}
use Rattle.octets.proofs.Same.{both_true}
use Rattle.octets.proofs.Ordered.{next_key}
use Rattle.machine.specs.declared.Session.{Session}
use Rattle.machine.specs.Machine.{key_of, is_open}
use Rattle.state.specs.State.{State, good_session, valid, notice_due, no_session, first_owed}
use Rattle.state.specs.Image.{session_in, rows_in, state_of}
use Rattle.state.specs.Rows.{find_row, session_at, owed_at}
use Rattle.state.proofs.RowLaws.{session_key_in}
use Rattle.state.proofs.Rules.{valid_parts}

pub by_test : {A : Type 0} (t : Bool) → (t ≡ true → A) → (t ≡ false → A) → A
by_test true p q = p refl
by_test false p q = q refl

-- the first that passes has a key above all before the list
pub first_above : {A : Type 0} (key : A → ℕ) (test : A → Bool) (other : A) (last : ℕ) (l : List A) → ascends key last l ≡ true
    → some test l ≡ true → last < key (first test other l)
unfolding some first
first_above key test other last [] a h = absurd (false≢true h)
first_above key test other last (x ∷ l) a h =
    let p : _ = next_key key last x l a in
    by_test (test x)
    (λ t. rw t p.0)
    (λ t.
    let r : key x < key (first test other l) = first_above key test other (key x) l p.1 (rw t at h) in
    rw t (omega (arith, p.0)))

-- what each that passes has, if it is good, the first has
pub first_such : {A : Type 0} (test good told : A → Bool) → ((x : A) → test x ≡ true → good x ≡ true → told x ≡ true) → (other : A)
    (l : List A) → some test l ≡ true → every good l ≡ true → told (first test other l) ≡ true
unfolding some every first
first_such test good told p other [] h e = absurd (false≢true h)
first_such test good told p other (x ∷ l) h e =
    let b : _ = both_true (good x) (every good l) e in
    by_test (test x)
    (λ t. rw t (p x t b.0))
    (λ t. let g : some test l ≡ true = rw t at h in rw t (first_such test good told p other l g b.1))

abbrev owed : Session → Bool
owed x = not (is_open x)

abbrev keyed : ℕ → List ℕ → Bool
keyed k l = eqb (low_number 8 l) k

abbrev first_in : ℕ → List ℕ → Session
first_in n l = first owed no_session (rows_in n 32 session_in l)

owed_row : (n at last : ℕ) (l : List ℕ) → ascends key_of last (rows_in n 32 session_in l) ≡ true
    → some owed (rows_in n 32 session_in l) ≡ true
    → find_row n 32 (λ l. not (eqb (get_or l 12 0) 0)) at l ≡ find_row n 32 (keyed (key_of (first_in n l))) at l
unfolding rows_in find_row some first is_open session_in
owed_row zero at last l a h = absurd (false≢true h)
owed_row (suc n) at last l a h =
    by_test (eqb (low_number 8 l) 0)
    (λ t. absurd (false≢true (rw t at h)))
    (λ t.
    let x : Session = session_in l in
    let rest : List Session = rows_in n 32 session_in (drop 32 l) in
    let p : _ = next_key key_of last x rest (rw t at a) in
    by_test (owed x)
    (λ o. rw (t, o, eq-eqb (low_number 8 l) (key_of x) (sym (session_key_in l))))
    (λ o.
    let g : some owed rest ≡ true = rw (t, o) at h in
    let above : key_of x < key_of (first owed no_session rest) = first_above key_of owed no_session (key_of x) rest p.1 g in
    rw (t, o, ne_eqb (low_number 8 l) (key_of (first owed no_session rest)) (λ z. omega (arith, z, session_key_in l)))
    (owed_row n (at + 32) (key_of x) (drop 32 l) p.1 g)))

pub owed_keyed : (b : List ℕ) → valid (state_of b) ≡ true → notice_due (state_of b) ≡ true
    → owed_at b ≡ session_at (key_of (first_owed (state_of b))) b
unfolding owed_at session_at state_of notice_due first_owed
owed_keyed b v due = owed_row 16 1536 0 (drop 1536 b) (valid_parts (state_of b) v).sessions_ascend due

-- So it is as a session of a valid state must be, and what follows from that, of one that is not open, holds of it.
pub owed_such : (s : State) → valid s ≡ true → notice_due s ≡ true → (told : Session → Bool)
    → ((x : Session) → not (is_open x) ≡ true → good_session s x ≡ true → told x ≡ true) → told (first_owed s) ≡ true
unfolding notice_due first_owed
owed_such s v due told p = first_such owed (good_session s) told p no_session s.sessions due (valid_parts s v).sessions_good

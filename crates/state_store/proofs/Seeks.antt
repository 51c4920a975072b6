-- Where a key stands in a table behind a head.
use mathlib.Core.Path.{◌≡◌, refl}
use mathlib.Core.Bool.{true}
use mathlib.Core.List.{List, [], ◌∷◌, ◌++◌}
use Prim.Native.Nat.{ℕ, suc, zero, ◌+◌, ◌-◌, ◌*◌, ◌≤◌}
use native.Mathlib.Omega.{arith}
use lib.Dec.{eqb}
use lib.ListN.{length, drop}
use lib.Seq.{drop_at}
use borrow.Author.Tests.{eq-eqb, ne_eqb}
use Rattle.octets.specs.Octets.{low_number}
use Rattle.octets.specs.Lists.{ascends}
use Rattle.octets.proofs.Ordered.{next_key}
use Rattle.machine.specs.declared.Session.{Session}
use Rattle.machine.specs.Machine.{key_of}
use Rattle.state.specs.Rows.{find_row}
use Rattle.state.proofs.RowLaws.{SessionFits}
use Rattle.state.proofs.TableLaws.{Each}
use Rattle.state_store.proofs.Tables.{table_then, empty_key, first_key, behind_first, past_drop}

-- where the key stands, of k rows, the first of which stands at `start`; 0 if nowhere
abbrev pub seek : ℕ → ℕ → ℕ → List ℕ → ℕ
seek k key start l = find_row k 32 (λ r. eqb (low_number 8 r) key) start l

pub seek_none : (k key start : ℕ) (l : List ℕ) → low_number 8 l ≡ 0 → seek k key start l ≡ 0
unfolding find_row
seek_none zero key start l z = refl
seek_none (suc k) key start l z = rw (eq-eqb (low_number 8 l) 0 z)

-- nowhere, where all keys are above it
pub seek_low : (t : List ℕ) (k n key start last : ℕ) (xs : List Session) → k * 32 ≤ n → ascends key_of last xs ≡ true
    → Each SessionFits xs → key ≤ last → seek k key start (table_then t n xs) ≡ 0
unfolding find_row
seek_low t zero n key start last xs fit a f h = refl
seek_low t (suc k) n key start last [] fit a f h =
    seek_none (suc k) key start (table_then t n []) (empty_key t n (omega arith))
seek_low t (suc k) n key start last (y ∷ ys) fit a f h =
    let p : _ = next_key key_of last y ys a in
    rw (
      first_key t n y ys f.0,
      ne_eqb (key_of y) 0 (λ z. omega arith),
      ne_eqb (key_of y) key (λ z. omega arith),
      behind_first t n y ys,
    )
    (seek_low t k (n - 32) key (start + 32) (key_of y) ys (omega arith) p.1 f.1 (omega arith))

module _ (h t : List ℕ) (m k n key : ℕ) (y : Session) (ys : List Session)
    (long : length h ≡ m) (f : SessionFits y) (some : 1 ≤ key_of y) where
  abbrev whole : List ℕ
  whole = h ++ table_then t n (y ∷ ys)

  empty : key_of y ≡ 0 → ⊥
  empty z = omega arith

  -- its row is the first
  pub seek_first : key_of y ≡ key → seek (suc k) key m (drop m whole) ≡ m
  unfolding find_row
  seek_first same =
      rw (
        drop_at h (table_then t n (y ∷ ys)) m long,
        first_key t n y ys f,
        ne_eqb (key_of y) 0 empty,
        eq-eqb (key_of y) key same,
      )

  -- its row is further on
  pub seek_later : (key_of y ≡ key → ⊥) → seek (suc k) key m (drop m whole) ≡ seek k key (m + 32) (drop (m + 32) whole)
  unfolding find_row
  seek_later other =
      rw (
        drop_at h (table_then t n (y ∷ ys)) m long,
        past_drop t n y ys h m long,
        first_key t n y ys f,
        ne_eqb (key_of y) 0 empty,
        ne_eqb (key_of y) key other,
        behind_first t n y ys,
      )

-- A field as octets: `-`, or hexadecimal digits, two an octet.
use mathlib.Core.Path.{◌≡◌, sym, ◌∙◌}
use mathlib.Core.Bool.{true, false, and-false}
use mathlib.Core.List.{List}
use Prim.Native.Nat.{ℕ, ◌/◌, ◌%◌, ◌<◌, ◌≤◌}
use lib.ListN.{length}
use borrow.Author.Tests.{le-leb, lt-leb, eq-eqb, ne_eqb}
use Rattle.std.specs.Prelude.{Option, Some, None}
use Rattle.octets.specs.Octets.{over, same}
use Rattle.octets.specs.Lists.{every}
use Rattle.octets.specs.Text.{text}
use Rattle.plan_lines.proofs.ByFields.{passed, failed}
use Rattle.plan_lines.specs.Fields.{is_hex}
use Rattle.events.specs.Event.{is_hexed, unhexed, is_octets, octets_in}
use Rattle.events.specs.Read.{HexAs}
use Rattle.events.proofs.HexDigits.{unhexed_length}

-- a field by its tests, in the order in which they are made
module _ (f room : List ℕ) where
  pub dash : same f (text "-") ≡ true → HexAs f (Some 0) room room
  unfolding is_octets octets_in
  dash e = record { told = rw e; octets = rw e }

  module _ (d : same f (text "-") ≡ false) where
    is_hex_lem : is_octets f ≡ is_hexed f
    unfolding is_octets
    is_hex_lem = rw d

    in_hex_lem : octets_in f ≡ unhexed f
    unfolding octets_in
    in_hex_lem = rw d

    not_hexed : is_hexed f ≡ false → HexAs f None room room
    not_hexed e = record { told = rw (is_hex_lem, e); octets = rw (is_hex_lem, e) }

    pub too_short : length f < 2 → HexAs f None room room
    unfolding is_hexed
    too_short h = not_hexed (simp (lt-leb 2 (length f) h))

    pub uneven : (length f % 2 ≡ 0 → ⊥) → HexAs f None room room
    unfolding is_hexed
    uneven n = not_hexed (simp (ne_eqb (length f % 2) 0 n, and-false))

    pub no_digits : every is_hex f ≡ false → HexAs f None room room
    unfolding is_hexed
    no_digits e = not_hexed (simp (e, and-false))

    hexed : is_hexed f ≡ true → {after : List ℕ} → after ≡ over (unhexed f) room → HexAs f (Some (length f / 2)) room after
    hexed e w = record { told = rw (is_hex_lem, e, in_hex_lem, unhexed_length f); octets = w ∙ rw (is_hex_lem, e, in_hex_lem) }

    pub digits : 2 ≤ length f → length f % 2 ≡ 0 → every is_hex f ≡ true → {after : List ℕ}
        → after ≡ over (unhexed f) room
        → HexAs f (Some (length f / 2)) room after
    unfolding is_hexed
    digits h m e w = hexed (simp (le-leb 2 (length f) h, eq-eqb (length f % 2) 0 m, e)) w

-- what is learnt of a field that was read
module _ (f room : List ℕ) {r : Option ℕ} {after : List ℕ} (k : HexAs f r room after) where
  pub some_octets : {n : ℕ} → r ≡ Some n → (is_octets f ≡ true) × (n ≡ length (octets_in f))
  some_octets h = passed (is_octets f) (length (octets_in f)) (sym k.told ∙ h)

  pub no_octets : r ≡ None → (is_octets f ≡ false) × (after ≡ room)
  no_octets h = (none, k.octets ∙ rw none)
    where
      none : is_octets f ≡ false
      none = failed (is_octets f) (length (octets_in f)) (sym k.told ∙ h)

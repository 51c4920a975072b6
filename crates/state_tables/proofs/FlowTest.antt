-- A flow's row, from what the code has read of it: its test, and what is known behind it.
use mathlib.Core.Path.{◌≡◌, sym}
use mathlib.Core.Bool.{Bool, true, false, ◌&&◌}
use mathlib.Core.List.{List}
use Prim.Native.Nat.{ℕ, ◌+◌, ◌%◌, ◌<◌, ◌≤◌}
use lib.Bits.{bit_or}
use lib.Dec.{eqb, leb}
use lib.ListN.{get_or, take, drop}
use borrow.Author.Tests.{le-ltb, lt-ltb}
use Rattle.octets.specs.Octets.{low_number}
use Rattle.octets.specs.Lists.{count}
use Rattle.plan.specs.Plan.{port_numbered}
use Rattle.state.specs.Image.{state_of}
use Rattle.state_tables.specs.Pass.{Seen, odd_of, marks_of, octet_sum, set_fits, place_fits, flow_fits, flow_seen, flows_right}

abbrev pub seen : ℕ → ℕ → ℕ → ℕ → Seen
seen last place odd marks = record { last = last; place = place; odd = odd; marks = marks }

module _ (b l : List ℕ) (last place odd marks : ℕ) {key : ℕ} (read : key ≡ low_number 4 (drop 4 l)) where
  pub flow_low : key ≤ last → flow_fits b (seen last place odd marks) l ≡ false
  unfolding flow_fits
  flow_low h = rw (← read, le-ltb last key h)

  module _ {kind : ℕ} {set : Bool} (h : last < key) (known : kind ≡ (port_numbered (get_or l 7 0) (state_of b).plan).kind)
      (tested : set ≡ set_fits kind (key % 16777216)) where
    set_tested : set ≡ set_fits (port_numbered (get_or l 7 0) (state_of b).plan).kind (key % 16777216)
    set_tested = rw (← known) tested

    pub set_bad : set ≡ false → flow_fits b (seen last place odd marks) l ≡ false
    unfolding flow_fits
    set_bad e = rw (← read, lt-ltb last key h, ← set_tested, e)

    module _ {low : ℕ} {at : Bool} (good : set ≡ true) (first : low ≡ low_number 4 l)
        (placed : at ≡ place_fits b (place + 1) low) where
      pub place_told : flow_fits b (seen last place odd marks) l ≡ at
      unfolding flow_fits
      place_told = rw (← read, lt-ltb last key h, ← set_tested, good, ← first, ← placed)

-- what is known behind the row
pub flow_seen_lem : (l : List ℕ) (last place odd marks : ℕ) {key more mps levels : ℕ} → key ≡ low_number 4 (drop 4 l) → more ≡ odd_of l
    → levels ≡ marks_of mps → mps ≡ low_number 8 (drop 8 l)
    → flow_seen (seen last place odd marks) l ≡ seen key (place + 1) (bit_or odd more) (marks + levels)
unfolding flow_seen
flow_seen_lem l last place odd marks k o e m = rw (k, o, e, m)

-- what must be right at the end
pub right_at : (b : List ℕ) (last place odd marks : ℕ) {right : Bool}
    → right ≡ (eqb odd 0 && leb (octet_sum 8 marks) 128 && eqb place (count (leb 1) (take 32 (drop 64 b))))
    → flows_right b (seen last place odd marks) ≡ right
unfolding flows_right
right_at b last place odd marks e = sym e

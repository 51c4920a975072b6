-- Calls on octets that no valid state has, by computation.
use mathlib.Core.Path.{◌≡◌, refl}
use mathlib.Core.Bool.{true, false}
use mathlib.Core.List.{List, [], ◌∷◌, map}
use Prim.Native.Nat.{ℕ}
use Rattle.octets.specs.Octets.{same}
use Rattle.octets.specs.Lists.{within, every, some, first, put}
use Rattle.octets.specs.Text.{text, digit}
use Rattle.codec.specs.FrameSet.{group}
use Rattle.plan.specs.Line.{joined, parted, field, is_digit, is_number, is_address, spelled, number_in, address_in, listed, port_kinds}
use Rattle.plan.specs.Line.{as_port, by_word, line_of}
use Rattle.plan.specs.Plan.{no_port, port_numbered, in_plan, good_address}
use Rattle.plan.specs.PlanText.{plan_in, empty_plan, read_lines, finished, added, reason_of, port_reason}
use Rattle.calls.specs.declared.Answer.TheVariants.{Refused, Done, Faulty}
use Rattle.calls.specs.Calls.{Call, make, tick}
use Rattle.demands.specs.Unmade.{is_plan, makes_state, made_of, unmade}

-- a plan of one port, the same with its line cut short, and no text at all
good_text : List ℕ
good_text = text "port\t1\tuni\t020000000001\n"

cut_text : List ℕ
cut_text = text "port\t1\tuni\n"

calls : List Call
calls = tick 0 ∷ make good_text 0 ∷ make cut_text 0 ∷ make [] 0 ∷ []

-- to be unfolded at once: all that reading computes
reading : Unit {0}
unfolding plan_in empty_plan read_lines finished added reason_of port_reason line_of by_word as_port port_kinds listed address_in number_in
    spelled is_address is_number is_digit field parted joined good_address in_plan port_numbered no_port group digit text put first some
    every within same is_plan makes_state made_of unmade good_text cut_text calls
reading = tt

-- one octet short: a plan is not even read
octets_4095 : map (unmade 4095) calls ≡ Refused 8 ∷ Refused 8 ∷ Refused 8 ∷ Refused 8 ∷ []
unfolding reading
octets_4095 = refl

octets_4096 : map (unmade 4096) calls ≡ Refused 8 ∷ Done ∷ Faulty 1 1 ∷ Faulty 0 6 ∷ []
unfolding reading
octets_4096 = refl

-- The good plan alone makes a state, and at 4,096 octets alone.
which_make : (map (makes_state 4096) calls ≡ false ∷ true ∷ false ∷ false ∷ [])
    × (map (makes_state 4095) calls ≡ false ∷ false ∷ false ∷ false ∷ [])
unfolding reading
which_make = (refl, refl)

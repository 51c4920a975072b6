-- Small examples of the definitions, by computation.
use mathlib.Core.Path.{◌≡◌, refl}
use mathlib.Core.Bool.{Bool, true, false}
use mathlib.Core.List.{List, [], ◌∷◌, map}
use Prim.Native.String.{String}
use Rattle.octets.specs.Octets.{number, octets, over, splice, moved_up, moved_down, all_zero, same}
use Rattle.octets.specs.Lists.{some, ascends, put, without, distinct}
use Rattle.octets.specs.Text.{is_hex, hex}

in_network_order : number 4 (1 ∷ 2 ∷ 3 ∷ 4 ∷ 5 ∷ []) ≡ 0x01020304
unfolding number
in_network_order = refl

and_back : octets 6 0x0200000000aa ≡ hex "02 00 00 00 00 AA"
unfolding octets hex
and_back = refl

cut_short : number 2 (0x81 ∷ []) ≡ 0x8100
unfolding number
cut_short = refl

written_over : over (1 ∷ 2 ∷ []) (7 ∷ 8 ∷ 9 ∷ []) ≡ 1 ∷ 2 ∷ 9 ∷ []
written_over = refl

written_at_a_place : splice 1 (8 ∷ 9 ∷ []) (0 ∷ 1 ∷ 2 ∷ 3 ∷ []) ≡ 0 ∷ 8 ∷ 9 ∷ 3 ∷ []
written_at_a_place = refl

up_by_two : moved_up 2 1 4 (0 ∷ 1 ∷ 2 ∷ 3 ∷ 4 ∷ 5 ∷ 6 ∷ []) ≡ 0 ∷ 1 ∷ 2 ∷ 1 ∷ 2 ∷ 3 ∷ 6 ∷ []
unfolding moved_up
up_by_two = refl

down_by_two : moved_down 2 3 6 (0 ∷ 1 ∷ 2 ∷ 3 ∷ 4 ∷ 5 ∷ 6 ∷ []) ≡ 0 ∷ 3 ∷ 4 ∷ 5 ∷ 4 ∷ 5 ∷ 6 ∷ []
unfolding moved_down
down_by_two = refl

none_moved : moved_up 2 3 3 (0 ∷ 1 ∷ 2 ∷ 3 ∷ 4 ∷ 5 ∷ []) ≡ 0 ∷ 1 ∷ 2 ∷ 3 ∷ 4 ∷ 5 ∷ []
unfolding moved_up
none_moved = refl

zeros_only : all_zero (0 ∷ 0 ∷ 0 ∷ []) ≡ true
unfolding all_zero
zeros_only = refl

last_not_zero : all_zero (0 ∷ 0 ∷ 1 ∷ []) ≡ false
unfolding all_zero
last_not_zero = refl

same_octets : same (hex "81 00") (0x81 ∷ 0 ∷ []) ≡ true
unfolding same hex
same_octets = refl

in_either_case : hex "09 af AF" ≡ 0x09 ∷ 0xaf ∷ 0xaf ∷ []
unfolding hex
in_either_case = refl

-- texts, and whether they show octets
abbrev texts : List (String × Bool)
texts =
    ("", true)
    ∷ ("81", true)
    ∷ ("81 0a FF", true)
    -- a digit is missing
    ∷ ("8", false)
    ∷ ("81 0", false)
    -- a blank is missing, or is one too many
    ∷ ("8100", false)
    ∷ (" 81", false)
    ∷ ("81 ", false)
    ∷ ("81  00", false)
    -- another character for the blank, and for a digit: those beside 0 and 9, A and F, a and f
    ∷ ("81-00", false)
    ∷ ("/1", false)
    ∷ ("8:", false)
    ∷ ("@1", false)
    ∷ ("8G", false)
    ∷ ("`1", false)
    ∷ ("8g", false)
    ∷ []

mistyped_texts_show_nothing : map (λ row. (row.0, is_hex row.0)) texts ≡ texts
mistyped_texts_show_nothing = refl

longer_is_other : same (0x81 ∷ 0 ∷ []) (0x81 ∷ 0 ∷ 0 ∷ []) ≡ false
unfolding same
longer_is_other = refl

kept_in_order : put (λ x. x) 5 (2 ∷ 7 ∷ []) ≡ 2 ∷ 5 ∷ 7 ∷ []
unfolding put
kept_in_order = refl

put_in_place : put (λ x. x) 7 (2 ∷ 7 ∷ []) ≡ 2 ∷ 7 ∷ []
unfolding put
put_in_place = refl

taken_out : without (λ x. x) 7 (2 ∷ 7 ∷ []) ≡ 2 ∷ []
unfolding without
taken_out = refl

equal_keys_do_not_ascend : ascends (λ x. x) 0 (2 ∷ 2 ∷ []) ≡ false
unfolding ascends
equal_keys_do_not_ascend = refl

twice_there : distinct (1 ∷ 2 ∷ 1 ∷ []) ≡ false
unfolding distinct some
twice_there = refl

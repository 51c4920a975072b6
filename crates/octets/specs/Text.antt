-- Text as octets, so that definitions and examples can show words and frames as a person writes them.
use mathlib.Core.List
use Rattle.std.specs.Prelude.{Bool, true, false, cond, ◌&&◌, ◌||◌, ℕ, ◌+◌, ◌-◌, ◌*◌, leb, ltb, eqb}
use Prim.Native.Char.{Char, code}
use Prim.Native.String.{String}

-- the octets of a text, one a character
unfoldable pub text : String → List.List ℕ
text String.[] = List.[]
text (String.◌∷◌ c s) = List.◌∷◌ (code c) (text s)

-- a hexadecimal digit, in either case
abbrev pub is_hex_digit : Char → Bool
is_hex_digit c =
    leb 48 (code c) && leb (code c) 57 || leb 65 (code c) && leb (code c) 70 || leb 97 (code c) && leb (code c) 102

-- two such digits, and perhaps more pairs, each after a single blank
abbrev pub is_pairs : String → Bool
is_pairs String.[] = false
is_pairs (String.◌∷◌ a String.[]) = false
is_pairs (String.◌∷◌ a (String.◌∷◌ b String.[])) = is_hex_digit a && is_hex_digit b
is_pairs (String.◌∷◌ a (String.◌∷◌ b (String.◌∷◌ c s))) = is_hex_digit a && is_hex_digit b && eqb (code c) 32 && is_pairs s

-- Does a text show octets, two digits each? An empty one shows none.
abbrev pub is_hex : String → Bool
is_hex String.[] = true
is_hex (String.◌∷◌ a s) = is_pairs (String.◌∷◌ a s)

-- the number of a hexadecimal digit
unfoldable pub digit : ℕ → ℕ
digit c = cond (ltb c 58) (c - 48) (cond (ltb c 97) (c - 55) (c - 87))

-- the octets that are written as two hexadecimal digits each, with blanks between
unfoldable hexed : List.List ℕ → List.List ℕ
hexed List.[] = List.[]
hexed (List.◌∷◌ a List.[]) = List.[]
hexed (List.◌∷◌ a (List.◌∷◌ b List.[])) = List.◌∷◌ (digit a * 16 + digit b) List.[]
hexed (List.◌∷◌ a (List.◌∷◌ b (List.◌∷◌ blank l))) = List.◌∷◌ (digit a * 16 + digit b) (hexed l)

-- what a text is read as: octets if it shows them, and else nothing that could be taken for octets
abbrev pub Read : Bool → Type 0
Read true = List.List ℕ
Read false = Unit {0}

unfoldable read_if : (shows : Bool) → List.List ℕ → Read shows
read_if true l = l
read_if false l = tt

-- The octets of a text that shows them. With any other text an example does not check.
unfoldable pub hex : (s : String) → Read (is_hex s)
unfolding text digit hexed read_if
hex s = read_if (is_hex s) (hexed (text s))

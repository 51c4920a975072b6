-- Frame sets (SET) and States and images (IMAGE): numbers as octets, the highest first or the lowest, and octets written over others.
use Rattle.std.specs.Prelude.{List, [], ◌∷◌, ◌++◌, Bool, true, false, ◌&&◌, ℕ, suc, zero, ◌+◌, ◌-◌, ◌*◌, ◌/◌, ◌%◌, ◌^◌, length, get_or, take, drop, eqb}

-- SET-1: the number that the first n octets spell, the highest octet first, as in frames.
unfoldable pub number : ℕ → List ℕ → ℕ
number zero l = 0
number (suc n) l = get_or l 0 0 * 256 ^ n + number n (drop 1 l)

-- SET-1: the n octets of a number, the highest first, as in frames.
unfoldable pub octets : ℕ → ℕ → List ℕ
octets zero x = []
octets (suc n) x = x / 256 ^ n % 256 ∷ octets n x

-- IMAGE-2: the same with the lowest octet first, as in the image: the number that the first n octets spell, and the n octets of a number.
unfoldable pub low_number : ℕ → List ℕ → ℕ
low_number zero l = 0
low_number (suc n) l = get_or l 0 0 + low_number n (drop 1 l) * 256

unfoldable pub low_octets : ℕ → ℕ → List ℕ
low_octets zero x = []
low_octets (suc n) x = x % 256 ∷ low_octets n (x / 256)

-- CALL-27: out, with w written at its front; all octets after that stay as they were.
abbrev pub over : List ℕ → List ℕ → List ℕ
over w out = w ++ drop (length w) out

-- out, with w written from place n on
abbrev pub splice : ℕ → List ℕ → List ℕ → List ℕ
splice n w out = take n out ++ over w (drop n out)

-- l, with the octets from low up to high moved up, or down, by so many places; what they leave behind stays as it was
unfoldable pub moved_up : ℕ → ℕ → ℕ → List ℕ → List ℕ
moved_up by low high l = take (low + by) l ++ (take (high - low) (drop low l) ++ drop (high + by) l)

unfoldable pub moved_down : ℕ → ℕ → ℕ → List ℕ → List ℕ
moved_down by low high l = take (low - by) l ++ (take (high - low) (drop low l) ++ drop (high - by) l)

-- is every octet zero?
unfoldable pub all_zero : List ℕ → Bool
all_zero [] = true
all_zero (x ∷ l) = eqb x 0 && all_zero l

-- are the two lists the same, octet by octet?
unfoldable pub same : List ℕ → List ℕ → Bool
same [] [] = true
same [] (y ∷ m) = false
same (x ∷ l) [] = false
same (x ∷ l) (y ∷ m) = eqb x y && same l m

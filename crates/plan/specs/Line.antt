-- The plan (PLAN): one line of its text, read into a record.
use Rattle.std.specs.Prelude.{List, [], ◌∷◌, Bool, false, cond, ◌&&◌, ◌||◌, ℕ, ◌+◌, ◌-◌, ◌*◌, length, get_or, eqb, leb}
use Rattle.octets.specs.Octets.{same}
use Rattle.octets.specs.Lists.{within, every}
use Rattle.octets.specs.Text.{text, digit}

-- PLAN-1, SHIFT-8: a tab stands between two fields.
abbrev pub tab : ℕ
tab = 9

-- PLAN-1, SHIFT-2: an LF ends a line.
abbrev pub lf : ℕ
lf = 10

-- an octet put at the front of the first part
unfoldable pub joined : ℕ → List (List ℕ) → List (List ℕ)
joined x [] = (x ∷ []) ∷ []
joined x (part ∷ parts) = (x ∷ part) ∷ parts

-- PLAN-1, SHIFT-2, SHIFT-8: the parts of a text between which one octet stands: lines by LF, fields by tab.
unfoldable pub parted : ℕ → List ℕ → List (List ℕ)
parted by [] = [] ∷ []
parted by (x ∷ l) = cond (eqb x by) ([] ∷ parted by l) (joined x (parted by l))

-- the fields of a line, from 1
unfoldable pub field : ℕ → List (List ℕ) → List ℕ
field n fields = get_or fields (n - 1) []

-- PLAN-6: a decimal digit.
unfoldable pub is_digit : ℕ → Bool
is_digit x = within 48 57 x

-- PLAN-6: a number is decimal, with no zero in front and of any count of digits; an empty field is none.
unfoldable pub is_number : List ℕ → Bool
is_number [] = false
is_number (x ∷ l) = is_digit x && every is_digit l && (eqb (length l) 0 || leb 49 x)

-- PLAN-3: an address has 12 hex digits in lower case.
unfoldable pub is_address : List ℕ → Bool
is_address l = eqb (length l) 12 && every (λ x. is_digit x || within 97 102 x) l

-- the number that digits spell in a base, after the digits that made `so`
unfoldable pub spelled : ℕ → ℕ → List ℕ → ℕ
spelled base so [] = so
spelled base so (x ∷ l) = spelled base (so * base + digit x) l

-- PLAN-6: the number that decimal digits spell.
unfoldable pub number_in : List ℕ → ℕ
number_in l = spelled 10 0 l

-- PLAN-3: the address that hex digits spell.
unfoldable pub address_in : List ℕ → ℕ
address_in l = spelled 16 0 l

-- PLAN-17: the place of a word among those listed, from 1; a word not listed has 0.
unfoldable pub listed : List (List ℕ) → List ℕ → ℕ
listed words word = go 1 words
  where
    go : ℕ → List (List ℕ) → ℕ
    go n [] = 0
    go n (w ∷ ws) = cond (same w word) n (go (n + 1) ws)

-- PLAN-3: the kinds of ports.
unfoldable pub port_kinds : List (List ℕ)
port_kinds = text "uni" ∷ text "enni" ∷ []

-- PLAN-4, PLAN-28: the kinds of flows; no other is in the list.
unfoldable pub flow_kinds : List (List ℕ)
flow_kinds = text "u" ∷ text "c" ∷ text "s" ∷ []

-- PLAN-5: the kinds of MPs.
unfoldable pub mp_kinds : List (List ℕ)
mp_kinds = text "up" ∷ text "down" ∷ text "mip" ∷ []

-- PLAN-3, PLAN-4, PLAN-5, PLAN-17: the record of a port, a flow or an MP; or a line that is no record.
pub data Line : Type 0 where
  unreadable : Line
  port_line : (number kind address : ℕ) → Line
  flow_line : (number port kind vid : ℕ) → Line
  mp_line : (flow kind level : ℕ) → Line

-- PLAN-3, PLAN-17: `port`, its number, its kind, its MAC address; anything else is no record.
unfoldable pub as_port : List (List ℕ) → Line
as_port fields =
    cond
    (eqb (length fields) 4
    && is_number (field 2 fields)
    && leb 1 (listed port_kinds (field 3 fields))
    && is_address (field 4 fields))
    (port_line (number_in (field 2 fields)) (listed port_kinds (field 3 fields)) (address_in (field 4 fields)))
    unreadable

-- PLAN-4, PLAN-17: `flow`, its number, its port's number, its kind, its VID; anything else is no record.
unfoldable pub as_flow : List (List ℕ) → Line
as_flow fields =
    cond
    (eqb (length fields) 5
    && is_number (field 2 fields)
    && is_number (field 3 fields)
    && leb 1 (listed flow_kinds (field 4 fields))
    && is_number (field 5 fields))
    (flow_line (number_in (field 2 fields)) (number_in (field 3 fields)) (listed flow_kinds (field 4 fields))
    (number_in (field 5 fields)))
    unreadable

-- PLAN-5, PLAN-17: `mp`, its flow's number, its kind, its level; anything else is no record.
unfoldable pub as_mp : List (List ℕ) → Line
as_mp fields =
    cond
    (eqb (length fields) 4
    && is_number (field 2 fields)
    && leb 1 (listed mp_kinds (field 3 fields))
    && is_number (field 4 fields))
    (mp_line (number_in (field 2 fields)) (listed mp_kinds (field 3 fields)) (number_in (field 4 fields)))
    unreadable

-- PLAN-3, PLAN-4, PLAN-5, PLAN-17: a line is read by its word; a line with a word not listed is no record.
unfoldable pub by_word : List (List ℕ) → Line
by_word fields =
    cond (same (field 1 fields) (text "port")) (as_port fields)
    (cond (same (field 1 fields) (text "flow")) (as_flow fields)
    (cond (same (field 1 fields) (text "mp")) (as_mp fields) unreadable))

-- PLAN-1: each record is a line, with exactly one tab between two fields.
unfoldable pub line_of : List ℕ → Line
line_of line = by_word (parted tab line)

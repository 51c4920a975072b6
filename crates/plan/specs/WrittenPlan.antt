-- The plan (PLAN): a plan written as a text, by which every plan that keeps the rules can be given.
use mathlib.Core.List.{List, [], ◌∷◌, ◌++◌, map, flat_map}
use Rattle.std.specs.Prelude.{cond, ℕ, zero, suc, ◌+◌, ◌-◌, ◌/◌, ◌%◌, get_or, eqb, ltb}
use Rattle.octets.specs.Text.{text}
use Rattle.plan.specs.declared.Port.{Port}
use Rattle.plan.specs.declared.Flow.{Flow}
use Rattle.plan.specs.Plan.{Plan}
use Rattle.plan.specs.Line.{Line, unreadable, port_line, flow_line, mp_line, tab, lf, port_kinds, flow_kinds, mp_kinds}

-- PLAN-6, SHIFT-18: a number of at most n digits, decimal and with no zero in front.
unfoldable pub decimal : ℕ → ℕ → List ℕ
decimal zero x = []
decimal (suc n) x = cond (ltb x 10) ((48 + x) ∷ []) (decimal n (x / 10) ++ ((48 + x % 10) ∷ []))

-- PLAN-3, SHIFT-18: a hex digit in lower case, and the n lowest of a number.
unfoldable pub hex_digit : ℕ → ℕ
hex_digit d = cond (ltb d 10) (48 + d) (87 + d)

unfoldable pub hexadecimal : ℕ → ℕ → List ℕ
hexadecimal zero x = []
hexadecimal (suc n) x = hexadecimal n (x / 16) ++ (hex_digit (x % 16) ∷ [])

-- the word at a place among those listed, from 1
unfoldable pub word_at : List (List ℕ) → ℕ → List ℕ
word_at words n = get_or words (n - 1) []

-- PLAN-3, PLAN-4, PLAN-5: the fields of a record; numbers have at most 4 digits. (A line that is no record has one field, an empty one.)
unfoldable pub fields_of : Line → List (List ℕ)
fields_of unreadable = [] ∷ []
fields_of (port_line number kind address) =
    text "port" ∷ decimal 4 number ∷ word_at port_kinds kind ∷ hexadecimal 12 address ∷ []
fields_of (flow_line number port kind vid) =
    text "flow" ∷ decimal 4 number ∷ decimal 4 port ∷ word_at flow_kinds kind ∷ decimal 4 vid ∷ []
fields_of (mp_line flow kind level) = text "mp" ∷ decimal 4 flow ∷ word_at mp_kinds kind ∷ decimal 4 level ∷ []

-- PLAN-1, SHIFT-18: fields, with one tab between them.
unfoldable pub tabbed : List (List ℕ) → List ℕ
tabbed [] = []
tabbed (f ∷ []) = f
tabbed (f ∷ g ∷ fs) = f ++ (tab ∷ tabbed (g ∷ fs))

-- PLAN-1: the line of a record, and the same with the LF that ends it.
unfoldable pub line_text : Line → List ℕ
line_text line = tabbed (fields_of line)

unfoldable pub ended : Line → List ℕ
ended line = line_text line ++ (lf ∷ [])

-- the records of a port, of a flow, and of a flow's MPs from a level on
unfoldable pub port_record : Port → Line
port_record p = port_line p.number p.kind p.address

unfoldable pub flow_record : Flow → Line
flow_record f = flow_line f.number f.port f.kind f.vid

unfoldable pub mps_from : ℕ → ℕ → List ℕ → List Line
mps_from flow level [] = []
mps_from flow level (mp ∷ mps) =
    cond (eqb mp 0) (mps_from flow (suc level) mps) (mp_line flow mp level ∷ mps_from flow (suc level) mps)

unfoldable pub mp_records : Flow → List Line
mp_records f = mps_from f.number 0 f.mps

-- PLAN-9: lines name only what lines above them define: ports, then flows, then MPs.
unfoldable pub records_of : Plan → List Line
records_of plan = map port_record plan.ports ++ (map flow_record plan.flows ++ flat_map mp_records plan.flows)

-- STATE-2: a good text that gives the plan.
unfoldable pub text_of : Plan → List ℕ
text_of plan = flat_map ended (records_of plan)

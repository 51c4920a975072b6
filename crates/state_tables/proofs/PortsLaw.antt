-- The pass over the ports' rows, and the rules that ports keep.
use mathlib.Core.Path.{◌≡◌, refl, sym, ap, ◌∙◌}
use mathlib.Core.Bool.{Bool, true, ◌&&◌, and_assoc, and_comm}
use mathlib.Core.List.{List, [], ◌∷◌}
use Prim.Native.Nat.{ℕ, suc, ◌≤◌, ◌<◌}
use native.Mathlib.Omega.{arith}
use lib.Dec.{ltb, leb}
use lib.ListN.{length, get_or, take}
use borrow.Author.Tests.{le-leb, ltb-true}
use Rattle.octets.specs.Octets.{low_number, same}
use Rattle.octets.specs.Lists.{every, ascends}
use Rattle.octets.proofs.Same.{both_true}
use Rattle.octets.proofs.Laws.{Octets}
use Rattle.plan.specs.declared.Port.{Port}
use Rattle.plan.specs.Plan.{good_port}
use Rattle.state.specs.Image.{port_row, port_in, table, rows_in}
use Rattle.state.proofs.RowLaws.{port_exact, port_length}
use Rattle.state_tables.specs.Pass.{port_fits, ok_ports}
use Rattle.state_tables.proofs.Tests.{and_when}
use Rattle.state_tables.proofs.RowsLaw.{rows_law, last_key, keys_law}

abbrev number : Port → ℕ
number p = p.number

abbrev fits : ℕ → Port → Bool
fits last p = ltb last (number p) && good_port p

abbrev next : ℕ → Port → ℕ
next last p = number p

fit : (last : ℕ) (l : List ℕ) → Octets l → 16 ≤ length l → (low_number 8 l ≡ 0 → ⊥)
    → port_fits last l ≡ (fits last (port_in l) && same (port_row (port_in l)) (take 16 l))
unfolding port_fits port_in
fit last l o h some = rw (port_exact l o h)

step : (last : ℕ) (l : List ℕ) → Octets l → 16 ≤ length l → (low_number 8 l ≡ 0 → ⊥) → get_or l 7 0 ≡ next last (port_in l)
unfolding port_in
step last l o h some = refl

wide : (l : List ℕ) → Octets l → 16 ≤ length l → (low_number 8 l ≡ 0 → ⊥) → length (port_row (port_in l)) ≡ 16
wide l o h some = port_length (port_in l)

-- keys that ascend end no lower than they began
last_high : (last : ℕ) (ps : List Port) → ascends number last ps ≡ true → last ≤ last_key number last ps
unfolding ascends last_key
last_high last [] a = omega arith
last_high last (p ∷ ps) a =
    let b : _ = both_true (ltb last p.number) (ascends number p.number ps) a in
    let n : last < p.number = ltb-true last p.number b.0 in
    omega (arith, last_high p.number ps b.1)

some_port : (ps : List Port) → ascends number 0 ps ≡ true → leb 1 (last_key number 0 ps) ≡ leb 1 (length ps)
unfolding ascends last_key
some_port [] a = refl
some_port (p ∷ ps) a =
    let b : _ = both_true (ltb 0 p.number) (ascends number p.number ps) a in
    let n : 0 < p.number = ltb-true 0 p.number b.0 in
    le-leb 1 (last_key number p.number ps) (omega (arith, last_high p.number ps b.1))
    ∙ sym (le-leb 1 (suc (length ps)) (omega arith))

turn : (a g n : Bool) → (a && (g && n)) ≡ (n && a && g)
turn a g n = simp (and_assoc, and_comm)

kept : (ps : List Port)
    → (ascends number 0 ps && every good_port ps && leb 1 (last_key number 0 ps))
    ≡ (leb 1 (length ps) && ascends number 0 ps && every good_port ps)
kept ps =
    let a : Bool = ascends number 0 ps in
    let g : Bool = every good_port ps in
    and_assoc a g (leb 1 (last_key number 0 ps))
    ∙ and_when a (λ y. ap (λ (n : Bool). g && n) (some_port ps y))
    ∙ turn a g (leb 1 (length ps))

pub ports_law : (t : List ℕ) → Octets t → length t ≡ 128
    → ok_ports t
    ≡ ((leb 1 (length (rows_in 8 16 port_in t)) && ascends (λ p. p.number) 0 (rows_in 8 16 port_in t)
    && every good_port (rows_in 8 16 port_in t))
    && same (table 128 port_row (rows_in 8 16 port_in t)) t)
unfolding ok_ports
ports_law t o h =
    let ps : List Port = rows_in 8 16 port_in t in
    let pass : _
    = rows_law port_in port_row 16 port_fits (λ last l. get_or l 7 0) fits next (leb 1) fit step wide 8 0 t o (omega arith) in
    rw (pass, keys_law number good_port (leb 1) 0 ps, kept ps, h)

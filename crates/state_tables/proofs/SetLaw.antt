-- A flow's frame set at its port: kind and VID as one number, and the rules of kind and VID.
use mathlib.Core.Path.{◌≡◌, refl, sym, ◌∙◌}
use mathlib.Core.Bool.{Bool, true, false, ◌&&◌, ◌||◌, and-true, and-false, or-false}
use mathlib.Core.List.{List, [], ◌∷◌}
use Prim.Native.Nat.{ℕ, ◌+◌, ◌*◌, ◌^◌, ◌≤◌, ◌<◌}
use native.Mathlib.Omega.{arith}
use lib.Dec.{eqb, ltb, leb}
use borrow.Author.Tests.{eq-eqb, ne_eqb, le-leb, lt-leb}
use Rattle.octets.specs.Lists.{within, every, first}
use Rattle.octets.proofs.Same.{both_true}
use Rattle.octets.proofs.Cases.{by_eq, by_le}
use Rattle.octets.proofs.ListLaws.{within_low, within_high}
use Rattle.codec.specs.FrameSet.{uni, enni, untagged}
use Rattle.plan.specs.declared.Port.{Port}
use Rattle.plan.specs.Plan.{Plan, no_port, port_numbered, in_plan, good_address, good_vid, good_kind, good_port}
use Rattle.state_tables.specs.Pass.{set_fits}

-- the port of a number is none, or good
module _ {A : Type 0} (n : ℕ) where
  found : (ps : List Port) → every good_port ps ≡ true → (first (λ p. eqb p.number n) no_port ps ≡ no_port → A)
      → (good_port (first (λ p. eqb p.number n) no_port ps) ≡ true → A) → A
  unfolding first every
  found [] e none good = none refl
  found (p ∷ ps) e none good =
      let b : _ = both_true (good_port p) (every good_port ps) e in
      by_eq p.number n
      (λ t here. good (rw t b.0))
      (λ t other. found ps b.1 (λ z. none (rw t z)) (λ z. good (rw t z)))

leb_shift : (c m n : ℕ) → leb (c + m) (c + n) ≡ leb m n
leb_shift c m n =
    by_le m n (λ e h. le-leb (c + m) (c + n) (omega arith) ∙ sym e) (λ e h. lt-leb (c + m) (c + n) (omega arith) ∙ sym e)

within_shift : (c low high x : ℕ) → within (c + low) (c + high) (c + x) ≡ within low high x
unfolding within
within_shift c low high x = rw (leb_shift c low x, leb_shift c x high)

-- one kind's VIDs, and another kind's
module _ (kind other vid : ℕ) (v : vid < 65536) where
  vids_own : kind ≡ other → within (other * 65536 + 1) (other * 65536 + 4094) (kind * 65536 + vid) ≡ within 1 4094 vid
  vids_own e = rw e (within_shift (other * 65536) 1 4094 vid)

  vids_other : (kind ≡ other → ⊥) → within (other * 65536 + 1) (other * 65536 + 4094) (kind * 65536 + vid) ≡ false
  unfolding within
  vids_other n =
      by_le (other * 65536 + 1) (kind * 65536 + vid)
      (λ e low. rw e (lt-leb (kind * 65536 + vid) (other * 65536 + 4094) (omega arith)))
      (λ e high. rw e)

-- `u` at any port, `c` at a UNI, `s` at an ENNI
kind_at : (kind pk : ℕ) → within uni enni pk ≡ true → good_kind kind pk ≡ (eqb kind untagged || eqb kind (pk + 1))
unfolding good_kind
kind_at kind pk w =
    let low : 1 ≤ pk = within_low uni enni pk w in
    let high : pk ≤ 2 = within_high uni enni pk w in
    by_eq pk 1
    (λ e one. rw one (simp (and-true, and-false, or-false)))
    (λ e other. let two : pk ≡ 2 = omega arith in rw two (simp (and-true, and-false, or-false)))

no_vid : (kind vid : ℕ) → kind ≡ 1 → eqb (kind * 65536 + vid) 65536 ≡ eqb vid 0
no_vid kind vid one =
    by_eq vid 0
    (λ e none. eq-eqb (kind * 65536 + vid) 65536 (omega arith) ∙ sym e)
    (λ e some. ne_eqb (kind * 65536 + vid) 65536 (λ z. some (omega arith)) ∙ sym e)

set_at : (pk kind vid : ℕ) → vid < 65536 → within uni enni pk ≡ true
    → set_fits pk (kind * 65536 + vid) ≡ (good_kind kind pk && good_vid kind vid)
unfolding set_fits good_vid
set_at pk kind vid v w =
    let low : 1 ≤ pk = within_low uni enni pk w in
    let some : eqb pk 0 ≡ false = ne_eqb pk 0 (λ z. omega arith) in
    rw (kind_at kind pk w, some)
    (by_eq kind 1
    (λ e one. rw (e, vids_other kind (pk + 1) vid v (λ z. omega arith), or-false, no_vid kind vid one))
    (λ e tagged.
    let vids : eqb (kind * 65536 + vid) 65536 ≡ false = ne_eqb (kind * 65536 + vid) 65536 (λ z. tagged (omega arith)) in
    by_eq kind (pk + 1)
    (λ t own. rw (e, t, vids, vids_own kind (pk + 1) vid v own))
    (λ t other. rw (e, t, vids, vids_other kind (pk + 1) vid v other))))

-- a good port has a number and a kind
port_parts : (p : Port) → good_port p ≡ true → (in_plan p.number ≡ true) × (within uni enni p.kind ≡ true)
unfolding good_port in_plan
port_parts p e =
    let a : Bool = within 1 8 p.number in
    let b : Bool = within uni enni p.kind in
    let c : Bool = good_address p.address in
    let t : _ = both_true (a && b && c) (ltb p.address (2 ^ 48)) e in
    let u : _ = both_true a b (both_true (a && b) c t.0).0 in
    (le-leb 1 p.number (within_low 1 8 p.number u.0), u.1)

pub set_law : (plan : Plan) (n kind vid : ℕ) → every good_port plan.ports ≡ true → vid < 65536
    → set_fits (port_numbered n plan).kind (kind * 65536 + vid)
    ≡ (in_plan (port_numbered n plan).number && good_kind kind (port_numbered n plan).kind && good_vid kind vid)
unfolding port_numbered no_port in_plan set_fits
set_law plan n kind vid e v =
    let p : Port = port_numbered n plan in
    found n plan.ports e
    (λ none. rw none)
    (λ good. let t : _ = port_parts p good in rw t.0 (set_at p.kind kind vid v t.1))

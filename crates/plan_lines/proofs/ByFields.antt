-- A line by its fields: what is learnt of each field, and what the line says then.
use mathlib.Core.Path.{◌≡◌, refl}
use mathlib.Core.Bool.{Bool, true, false, cond}
use mathlib.Core.List.{List, [], ◌∷◌}
use Prim.Native.Nat.{ℕ}
use native.Mathlib.Omega.{arith}
use lib.Dec.{leb}
use Rattle.std.specs.Prelude.{Option, Some, None}
use Rattle.plan.specs.Line.{
  is_number,
  number_in,
  is_address,
  address_in,
  field,
  listed,
  port_kinds,
  flow_kinds,
  mp_kinds,
  as_port,
  as_flow,
  as_mp,
}
use Rattle.plan_lines.specs.CappedLine.{capped, said}
use Rattle.plan_lines.specs.Fields.{found}
use Rattle.plan_lines.specs.declared.Said.TheVariants.{OfPort, OfFlow, OfMp}
use Rattle.plan_lines.proofs.Numbers.{read_number}
use Rattle.plan_lines.proofs.Words.{by_test}

-- a field that is read if it passes a test
pub passed : (b : Bool) (x : ℕ) {n : ℕ} → cond b (Some x) None ≡ Some n → (b ≡ true) × (n ≡ x)
passed true x e = (refl, cc)
passed false x e = let z : ◌≡◌ {A = ℕ} 0 1 = cc in absurd (omega arith)

pub failed : (b : Bool) (x : ℕ) → cond b (Some x) None ≡ None → b ≡ false
failed true x e = let z : ◌≡◌ {A = ℕ} 0 1 = cc in absurd (omega arith)
failed false x e = refl

abbrev read_address : List ℕ → Option ℕ
read_address f = cond (is_address f) (Some (address_in f)) None

module _ (f : List ℕ) where
  a_number : {n : ℕ} → read_number f ≡ Some n → (is_number f ≡ true) × (n ≡ capped (number_in f))
  a_number h = passed (is_number f) (capped (number_in f)) h

  no_number : read_number f ≡ None → is_number f ≡ false
  no_number h = failed (is_number f) (capped (number_in f)) h

  an_address : {n : ℕ} → read_address f ≡ Some n → (is_address f ≡ true) × (n ≡ address_in f)
  an_address h = passed (is_address f) (address_in f) h

  no_address : read_address f ≡ None → is_address f ≡ false
  no_address h = failed (is_address f) (address_in f) h

  module _ (words : List (List ℕ)) where
    a_word : {n : ℕ} → found (listed words f) ≡ Some n → (leb 1 (listed words f) ≡ true) × (n ≡ listed words f)
    unfolding found
    a_word h = passed (leb 1 (listed words f)) (listed words f) h

    no_word : found (listed words f) ≡ None → leb 1 (listed words f) ≡ false
    unfolding found
    no_word h = failed (leb 1 (listed words f)) (listed words f) h

module _ (number kind address : List ℕ) where
  pub port_no_kind : found (listed port_kinds kind) ≡ None → None ≡ said (as_port ([] ∷ number ∷ kind ∷ address ∷ []))
  unfolding as_port field said
  port_no_kind h = by_test (is_number number) (λ t. simp (t, no_word kind port_kinds h)) (λ t. simp t)

  pub port_no_number : read_number number ≡ None → None ≡ said (as_port ([] ∷ number ∷ kind ∷ address ∷ []))
  unfolding as_port field said
  port_no_number h = simp (no_number number h)

  module _ {n : ℕ} (en : read_number number ≡ Some n) {k : ℕ} (ek : found (listed port_kinds kind) ≡ Some k) where
    pub port_no_address : read_address address ≡ None → None ≡ said (as_port ([] ∷ number ∷ kind ∷ address ∷ []))
    unfolding as_port field said
    port_no_address h = simp ((a_number number en).0, (a_word kind port_kinds ek).0, no_address address h)

    pub port_read : {a : ℕ} → read_address address ≡ Some a
        → Some (OfPort n k a) ≡ said (as_port ([] ∷ number ∷ kind ∷ address ∷ []))
    unfolding as_port field said
    port_read h =
        let p : _ = a_number number en in
        let q : _ = a_word kind port_kinds ek in
        let r : _ = an_address address h in
        rw (p.1, q.1, r.1) (simp (p.0, q.0, r.0))

module _ (flow kind level : List ℕ) where
  pub mp_no_kind : found (listed mp_kinds kind) ≡ None → None ≡ said (as_mp ([] ∷ flow ∷ kind ∷ level ∷ []))
  unfolding as_mp field said
  mp_no_kind h = by_test (is_number flow) (λ t. simp (t, no_word kind mp_kinds h)) (λ t. simp t)

  pub mp_no_flow : read_number flow ≡ None → None ≡ said (as_mp ([] ∷ flow ∷ kind ∷ level ∷ []))
  unfolding as_mp field said
  mp_no_flow h = simp (no_number flow h)

  module _ {n : ℕ} (en : read_number flow ≡ Some n) {k : ℕ} (ek : found (listed mp_kinds kind) ≡ Some k) where
    pub mp_no_level : read_number level ≡ None → None ≡ said (as_mp ([] ∷ flow ∷ kind ∷ level ∷ []))
    unfolding as_mp field said
    mp_no_level h = simp ((a_number flow en).0, (a_word kind mp_kinds ek).0, no_number level h)

    pub mp_read : {v : ℕ} → read_number level ≡ Some v → Some (OfMp n k v) ≡ said (as_mp ([] ∷ flow ∷ kind ∷ level ∷ []))
    unfolding as_mp field said
    mp_read h =
        let p : _ = a_number flow en in
        let q : _ = a_word kind mp_kinds ek in
        let r : _ = a_number level h in
        rw (p.1, q.1, r.1) (simp (p.0, q.0, r.0))

module _ (number port kind vid : List ℕ) where
  pub flow_no_kind : found (listed flow_kinds kind) ≡ None
      → None ≡ said (as_flow ([] ∷ number ∷ port ∷ kind ∷ vid ∷ []))
  unfolding as_flow field said
  flow_no_kind h =
      by_test (is_number number)
      (λ t. by_test (is_number port) (λ u. simp (t, u, no_word kind flow_kinds h)) (λ u. simp (t, u)))
      (λ t. simp t)

  pub flow_no_number : read_number number ≡ None → None ≡ said (as_flow ([] ∷ number ∷ port ∷ kind ∷ vid ∷ []))
  unfolding as_flow field said
  flow_no_number h = simp (no_number number h)

  module _ {n : ℕ} (en : read_number number ≡ Some n) where
    pub flow_no_port : read_number port ≡ None → None ≡ said (as_flow ([] ∷ number ∷ port ∷ kind ∷ vid ∷ []))
    unfolding as_flow field said
    flow_no_port h = simp ((a_number number en).0, no_number port h)

    module _ {p : ℕ} (ep : read_number port ≡ Some p) {k : ℕ} (ek : found (listed flow_kinds kind) ≡ Some k) where
      pub flow_no_vid : read_number vid ≡ None → None ≡ said (as_flow ([] ∷ number ∷ port ∷ kind ∷ vid ∷ []))
      unfolding as_flow field said
      flow_no_vid h =
          simp ((a_number number en).0, (a_number port ep).0, (a_word kind flow_kinds ek).0, no_number vid h)

      pub flow_read : {v : ℕ} → read_number vid ≡ Some v
          → Some (OfFlow n p k v) ≡ said (as_flow ([] ∷ number ∷ port ∷ kind ∷ vid ∷ []))
      unfolding as_flow field said
      flow_read h =
          let s : _ = a_number number en in
          let t : _ = a_number port ep in
          let u : _ = a_word kind flow_kinds ek in
          let w : _ = a_number vid h in
          rw (s.1, t.1, u.1, w.1) (simp (s.0, t.0, u.0, w.0))

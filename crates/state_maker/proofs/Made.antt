-- The image of a plan, made step by step from zeros.
use mathlib.Core.Path.{◌≡◌, refl, sym, ap, ◌∙◌}
use mathlib.Core.Bool.{Bool, true, false}
use mathlib.Core.List.{List, [], ◌∷◌, ◌++◌, map, append_assoc, append-nil}
use Prim.Native.Nat.{ℕ, suc, zero, ◌+◌, ◌-◌, ◌*◌, ◌≤◌}
use native.Mathlib.Omega.{arith}
use lib.ListN.{length, replicate, length-append, length-replicate, drop_of_length-le}
use lib.Seq.{take_at, drop_at, drop-append-le}
use Rattle.octets.specs.Octets.{low_octets, splice}
use Rattle.octets.specs.Lists.{within, every}
use Rattle.octets.proofs.LowLaws.{low_octets_length}
use Rattle.octets.proofs.ListLaws.{every_map}
use Rattle.plan.specs.declared.Flow.{Flow}
use Rattle.plan.specs.Plan.{Plan, keeps_rules}
use Rattle.plan.proofs.Kept.{rules_so_far, rules, good_numbers}
use Rattle.plan.proofs.Room.{ports_few, flows_few}
use Rattle.state.specs.State.{State}
use Rattle.state.specs.Image.{zeros, port_row, flow_row, session_row, port_in, flow_in, rows, table, places, bit, image}
use Rattle.state.proofs.Runs.{drop_zeros, zeros_join}
use Rattle.state.proofs.FlowPlaces.{numbers}
use Rattle.state.proofs.BaseParts.{zeros_length, Bare, bare}
use Rattle.state.proofs.ImageParts.{image_front}
use Rattle.state.proofs.Sizes.{ports_readable, flows_readable, readable_long, readable_size}
use Rattle.state.proofs.TableLaws.{Each, Readable, none_table, rows_length}
use Rattle.state_maker.specs.Places.{places_put}
use Rattle.state_maker.proofs.Seats.{put_places}

-- octets all cleared, and a number written at the front of zeros
all_cleared : (n : ℕ) (b : List ℕ) {c : List ℕ} → length b ≡ n → c ≡ splice 0 (replicate (n - 0) 0) b → c ≡ zeros n
unfolding zeros
all_cleared n b long e =
    let z : n - 0 ≡ n = omega arith in
    e ∙ rw (z, length-replicate {A = ℕ} n 0, drop_of_length-le b {i = n} (omega arith), append-nil)

front_put : (m n x : ℕ) → splice 0 (low_octets m x) (zeros n) ≡ low_octets m x ++ zeros (n - m)
front_put m n x = rw (low_octets_length m x, drop_zeros m n)

none_allowed : (n : ℕ) → map bit (replicate n false) ≡ zeros n
unfolding bit zeros
none_allowed zero = refl
none_allowed (suc n) = ap {B = List ℕ} (λ q. 0 ∷ q) (none_allowed n)

module _ {A : Type 0} (row : A → List ℕ) (read : List ℕ → A) (width n : ℕ) (xs : List A)
    (r : Each (Readable row read width) xs) (few : length xs * width ≤ n) where
  -- rows written over zeros make their table
  table_put : (at : ℕ) (a t : List ℕ) → length a ≡ at
      → splice at (rows row xs) (a ++ (zeros n ++ t)) ≡ a ++ (table n row xs ++ t)
  unfolding table
  table_put at a t e =
      let w : List ℕ = rows row xs in
      let fit : length w ≤ length (zeros n) = rw (rows_length row width xs (readable_long row read width xs r), zeros_length n) few in
      rw (
        take_at a (zeros n ++ t) at e,
        drop_at a (zeros n ++ t) at e,
        drop-append-le (length w) (zeros n) t fit,
        drop_zeros (length w) n,
        append_assoc w (zeros (n - length w)) t,
      )

module _ (plan : Plan) (clock : ℕ) (kept : keeps_rules plan ≡ true) where
  abbrev front : ℕ → List ℕ
  front n = low_octets 4 clock ++ zeros n

  front_length : (n m : ℕ) → 4 + n ≡ m → length (front n) ≡ m
  front_length n m e = rw (length-append, low_octets_length 4 clock, zeros_length n) e

  front_more : (m n k : ℕ) (t : List ℕ) → m + n ≡ k → front m ++ (zeros n ++ t) ≡ front k ++ t
  front_more m n k t e = rw (← zeros_join m n k e) (simp append_assoc)

  abbrev ports : List ℕ
  ports = table 128 port_row plan.ports

  abbrev flows : List ℕ
  flows = table 1024 flow_row plan.flows

  ports_fit : length plan.ports * 16 ≤ 128
  ports_fit = omega (arith, ports_few plan (rules_so_far plan kept).1)

  flows_fit : length plan.flows * 32 ≤ 1024
  flows_fit = omega (arith, flows_few plan (rules_so_far plan kept).1)

  put_ports : splice 128 (rows port_row plan.ports) (front 4092) ≡ front 124 ++ (ports ++ zeros 3840)
  put_ports =
      let e : front 4092 ≡ front 124 ++ (zeros 128 ++ zeros 3840)
      = rw (zeros_join 128 3840 3968 refl, append_assoc, zeros_join 124 3968 4092 refl) in
      rw e
      (table_put port_row port_in 16 128 plan.ports (ports_readable plan kept) ports_fit 128 (front 124) (zeros 3840)
      (front_length 124 128 refl))

  put_flows : splice 256 (rows flow_row plan.flows) (front 124 ++ (ports ++ zeros 3840))
      ≡ front 124 ++ (ports ++ (flows ++ zeros 2816))
  put_flows =
      let a : List ℕ = front 124 ++ ports in
      let long : length a ≡ 256
      = rw (
        length-append,
        front_length 124 128 refl,
        readable_size port_row port_in 16 plan.ports (ports_readable plan kept) 128 ports_fit,
      ) in
      let e : front 124 ++ (ports ++ zeros 3840) ≡ a ++ (zeros 1024 ++ zeros 2816)
      = rw (zeros_join 1024 2816 3840 refl) (simp append_assoc) in
      rw e
      (table_put flow_row flow_in 32 1024 plan.flows (flows_readable plan kept) flows_fit 256 a (zeros 2816) long
      ∙ append_assoc (front 124) ports (flows ++ zeros 2816))

  numbers_within : every (within 1 32) (numbers plan.flows) ≡ true
  numbers_within =
      every_map (λ (f : Flow). f.number) (within 1 32) plan.flows
      ∙ good_numbers plan plan.flows (rules plan kept).flows_good

  put_all : places_put 1 plan.flows (front 124 ++ (ports ++ (flows ++ zeros 2816)))
      ≡ front 60 ++ (places 32 1 plan.flows ++ (zeros 32 ++ (ports ++ (flows ++ zeros 2816))))
  put_all =
      let t : List ℕ = ports ++ (flows ++ zeros 2816) in
      rw (← front_more 92 32 124 t refl, ← front_more 60 32 92 (zeros 32 ++ t) refl)
      (put_places plan.flows (rules plan kept).numbers numbers_within (front 60) (zeros 32 ++ t) (front_length 60 64 refl))

  abbrev made : List Bool → State
  made allowed = record { plan = plan; clock = clock; allowed = allowed; sessions = [] }

  whole : (allowed : List Bool) → map bit allowed ≡ zeros 32
      → front 60 ++ (places 32 1 plan.flows ++ (zeros 32 ++ (ports ++ (flows ++ zeros 2816)))) ≡ image (made allowed)
  whole allowed none =
      let t : List ℕ = places 32 1 plan.flows ++ (zeros 32 ++ (ports ++ (flows ++ zeros 2816))) in
      let b : Bare (made allowed) = bare (made allowed) in
      rw (
        image_front (made allowed),
        b.flag,
        b.shared,
        b.ports_open_is,
        zeros_join 8 16 24 refl,
        zeros_join 4 24 28 refl,
        none,
        b.behind_places,
        b.counters,
        b.flows_open_is,
        none_table session_row 512,
        b.behind_sessions_is,
        zeros_join 512 2048 2560 refl,
        zeros_join 64 2560 2624 refl,
        zeros_join 192 2624 2816 refl,
      )
      (sym (front_more 28 32 60 t refl))

  pub made_image : (b : List ℕ) {b₀ b₁ b₂ b₃ b₄ : List ℕ} → length b ≡ 4096 → b₀ ≡ splice 0 (replicate (4096 - 0) 0) b
      → b₁ ≡ splice 0 (low_octets 4 clock) b₀ → b₂ ≡ splice 128 (rows port_row plan.ports) b₁
      → b₃ ≡ splice 256 (rows flow_row plan.flows) b₂ → b₄ ≡ places_put 1 plan.flows b₃
      → b₄ ≡ image (made (replicate 32 false))
  made_image b {b₀} {b₁} {b₂} {b₃} long e₀ e₁ e₂ e₃ e₄ =
      let z₀ : b₀ ≡ zeros 4096 = all_cleared 4096 b long e₀ in
      let z₁ : b₁ ≡ front 4092 = e₁ ∙ rw z₀ (front_put 4 4096 clock) in
      let z₂ : b₂ ≡ front 124 ++ (ports ++ zeros 3840) = e₂ ∙ rw z₁ put_ports in
      let z₃ : b₃ ≡ front 124 ++ (ports ++ (flows ++ zeros 2816)) = e₃ ∙ rw z₂ put_flows in
      e₄ ∙ rw z₃ put_all ∙ whole (replicate 32 false) (none_allowed 32)

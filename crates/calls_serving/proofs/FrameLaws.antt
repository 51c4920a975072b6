-- A frame, from its port to whom it is for, read from its parts as the code reads them.
use mathlib.Core.Path.{◌≡◌, sym, ap, ◌∙◌}
use mathlib.Core.Bool.{Bool, true, false, cond, ◌||◌, true≢false}
use mathlib.Core.List.{List, [], ◌∷◌}
use Prim.Native.Nat.{ℕ, ◌+◌, ◌-◌, ◌^◌, ◌<◌, ◌≤◌}
use lib.ListN.{length, length-drop}
use native.Mathlib.Omega.{arith}
use lib.Dec.{eqb}
use borrow.Author.Tests.{le-leb, lt-leb}
use Rattle.std.specs.Prelude.{Option, Some, None, is_some}
use Rattle.octets.specs.Lists.{within, every, some, first}
use Rattle.octets.proofs.Same.{both_true}
use Rattle.octets.proofs.ListLaws.{within_low, within_high}
use Rattle.codec.specs.declared.FrameSet.{FrameSet}
use Rattle.codec.specs.declared.Place.{Place}
use Rattle.codec.specs.declared.Addressed.{Addressed}
use Rattle.codec.specs.declared.Addressed.TheVariants.{Elsewhere}
use Rattle.codec.specs.FrameSet.{only, sets_of, sets_in, source, soam, pdu_of}
use Rattle.codec.specs.Request.{llm, opcode_of, is_request, addressed_by, addressed, heading_of}
use Rattle.codec.proofs.Headings.{by_soam, heading_source, heading_request, heading_level}
use Rattle.codec.specs.declared.Heading.{Heading}
use Rattle.codec.proofs.Places.{tag_few, tag_whole}
use Rattle.plan.specs.declared.Port.{Port}
use Rattle.plan.specs.declared.Flow.{Flow}
use Rattle.plan.specs.Plan.{no_flow, port_numbered, flow_numbered, flow_key, set_key, flow_of_set, in_plan, mp_at, faces}
use Rattle.state.specs.Image.{state_of}
use Rattle.state.specs.Rows.{row_found, flow_at, flow_of_row}
use Rattle.state.proofs.Answers.{flow_found, flow_there}
use Rattle.state.proofs.ImageLaws.{ok_valid}
use Rattle.state.proofs.Rules.{valid_parts}
use Rattle.state.proofs.PlaceLaws.{ok_numbers}
use Rattle.calls.specs.declared.Answer.{Answer}
use Rattle.calls.specs.declared.Answer.TheVariants.{Forwarded}
use Rattle.calls.specs.Frame.{arrived_at, pdu, mp_of, for_mp, by_whom, in_flow, in_sets, frame_served}
use Rattle.calls.proofs.PlaceSets.{InPlace, in_place}
use Rattle.calls.proofs.SetFlows.{of_set}
use Rattle.calls_requests.specs.declared.Arrival.{Arrival}
use Rattle.calls_requests.specs.Arrival.{Known, Served, arrived_in}
use Rattle.calls_requests.proofs.Arrivals.{destination_is, level_is, kind_is}
use Rattle.calls_requests.proofs.Ways.{stays}
use Rattle.calls_serving.specs.Preconditions.{Fair}

-- ---- whom a frame is for

module _ {b : List ℕ} {a : Arrival} {frame : List ℕ} (k : Known b a frame) where
  request_is : is_request a.taglen frame ≡ a.heading.request
  request_is = rw k.read_once (sym (heading_request a.taglen frame))

  no_oam : soam a.taglen frame ≡ false → for_mp (arrived_in b a frame) ≡ Elsewhere
  unfolding for_mp is_request arrived_in
  no_oam e = simp e

  -- A frame that is for an MP is service OAM.
  pub for_oam : (for_mp (arrived_in b a frame) ≡ Elsewhere → ⊥) → soam a.taglen frame ≡ true
  for_oam here = by_soam a.taglen frame (λ e. e) (λ e. absurd (here (no_oam e)))

  pub no_request : a.heading.request ≡ false → Elsewhere ≡ for_mp (arrived_in b a frame)
  unfolding for_mp arrived_in
  no_request e = simp (request_is ∙ e)

  module _ {facing : Bool} (is : a.heading.request ≡ true) (faced : facing ≡ faces a.mp a.side) where
    oam : soam a.taglen frame ≡ true
    unfolding is_request
    oam = (both_true (soam a.taglen frame) (eqb (opcode_of (pdu_of a.taglen frame)) llm) (request_is ∙ is)).0

    facing_mp : faces (mp_of (arrived_in b a frame)) a.side ≡ facing
    facing_mp = rw (faced, ← k.mp_same oam)

    pub no_mp : facing ≡ false → Elsewhere ≡ for_mp (arrived_in b a frame)
    unfolding for_mp arrived_in
    no_mp e = simp (request_is ∙ is, facing_mp ∙ e)

    pub at_mp : facing ≡ true → {whom : Addressed}
        → whom
        ≡ addressed_by a.port.address a.heading.destination a.heading.level a.heading.kind (length frame - (14 + a.taglen))
        → whom ≡ for_mp (arrived_in b a frame)
    unfolding for_mp pdu pdu_of arrived_in addressed
    at_mp e said =
        simp (request_is ∙ is, facing_mp ∙ e)
        (rw (destination_is k, level_is k oam, kind_is k oam, ← length-drop (14 + a.taglen) frame) at said)

-- it is served by whom it is for
pub by_whom_lem : (b : List ℕ) (a : Arrival) (frame : List ℕ) {answer : Answer} {left before after : List ℕ} (whom : Addressed)
    → whom ≡ for_mp (arrived_in b a frame) → Served (by_whom (state_of b) (arrived_in b a frame) whom) answer left before after
    → Served (by_whom (state_of b) (arrived_in b a frame) (for_mp (arrived_in b a frame))) answer left before after
by_whom_lem b a frame whom told s = rw (← told) s

-- ---- its flow

-- a flow of a list has a number of at most 32, and so has none
number_few : (sought : Flow → Bool) (fs : List Flow) → every (λ f. within 1 32 f.number) fs ≡ true
    → (first sought no_flow fs).number ≤ 32
unfolding first every no_flow
number_few sought [] all = omega arith
number_few sought (f ∷ fs) all =
    let t : _ = both_true (within 1 32 f.number) (every (λ f. within 1 32 f.number) fs) all in
    go (sought f) (within_high 1 32 f.number t.0) (number_few sought fs t.1)
  where
    go : (s : Bool) → f.number ≤ 32 → (first sought no_flow fs).number ≤ 32 → (cond s f (first sought no_flow fs)).number ≤ 32
    go true here there = here
    go false here there = there

-- one that is found has some number
number_some : (sought : Flow → Bool) (fs : List Flow) → every (λ f. within 1 32 f.number) fs ≡ true → some sought fs ≡ true
    → 1 ≤ (first sought no_flow fs).number
unfolding first every some
number_some sought [] all there = absurd (true≢false (sym there))
number_some sought (f ∷ fs) all there =
    let t : _ = both_true (within 1 32 f.number) (every (λ f. within 1 32 f.number) fs) all in
    go (sought f) (within_low 1 32 f.number t.0) (λ more. number_some sought fs t.1 more) there
  where
    go : (s : Bool) → 1 ≤ f.number → (some sought fs ≡ true → 1 ≤ (first sought no_flow fs).number)
        → (s || some sought fs) ≡ true → 1 ≤ (cond s f (first sought no_flow fs)).number
    go true here further more = here
    go false here further more = further more

module _ (b : List ℕ) (own : Port) (side : ℕ) (frame out : List ℕ) (k : Fair b side frame out) (place : Option Place)
    (placed : sets_in place ≡ sets_of own.kind frame) where
  abbrev Serves : Answer → List ℕ → List ℕ → Type 0
  Serves answer left after =
      (n : ℕ) → own ≡ port_numbered n (state_of b).plan → Served (frame_served (state_of b) n side frame) answer left out after

  in_sets_lem : (n : ℕ) → own ≡ port_numbered n (state_of b).plan
      → frame_served (state_of b) n side frame ≡ in_sets (state_of b) own side frame (sets_in place)
  unfolding frame_served
  in_sets_lem n known = rw (placed, known)

  pub no_set : place ≡ None → Serves Forwarded b out
  unfolding in_sets sets_in
  no_set e n known = rw (in_sets_lem n known, e) (stays Forwarded out k.ok)

  module _ {set : FrameSet} {taglen : ℕ} {row : Option ℕ} (inside : place ≡ Some (record { set = set; taglen = taglen }))
      (at : row ≡ row_found (flow_at own.number set b)) where
    pub there : sets_of own.kind frame ≡ only set taglen
    unfolding sets_in
    there = sym placed ∙ rw inside

    flow_of_lem : flow_of_row row b ≡ flow_of_set own.number set (state_of b).plan
    flow_of_lem = ap (λ (r : Option ℕ). flow_of_row r b) at ∙ flow_found b own.number set

    pub no_flow_lem : row ≡ None → Serves Forwarded b out
    unfolding in_sets sets_in in_flow in_plan arrived_at flow_of_row no_flow
    no_flow_lem e n known =
        let none : no_flow ≡ flow_of_set own.number set (state_of b).plan = rw e at flow_of_lem in
        rw (in_sets_lem n known, inside)
        (simp (lt-leb 1 (flow_of_set own.number set (state_of b).plan).number (omega (arith, ap (λ (f : Flow). f.number) none)))
        (stays Forwarded out k.ok))

    pub flow_some : is_some row ≡ true → 1 ≤ (flow_of_row row b).number
    unfolding flow_of_set
    flow_some e =
        rw flow_of_lem
        (number_some (λ f. eqb (flow_key f) (set_key own.number set.kind set.vid)) (state_of b).plan.flows
        (ok_numbers b k.ok) (sym (flow_there b own.number set at) ∙ e))

    module _ {number : ℕ} (read : number ≡ (flow_of_row row b).number) (some : number ≡ 0 → ⊥) {h : Heading} {mp : ℕ} (heading : h ≡ heading_of taglen frame) (mped : mp ≡ mp_at h.level (flow_of_row row b))
      where
        abbrev arrival : Arrival
        arrival =
            record {
              arrival = own.number;
              port = own;
              replier = own.address;
              looper = own.address;
              side = side;
              flow = number;
              mp = mp;
              taglen = taglen;
              heading = h;
            }

        number_is : number ≡ (flow_of_set own.number set (state_of b).plan).number
        number_is = read ∙ ap (λ (f : Flow). f.number) flow_of_lem

        in_plan_lem : in_plan (flow_of_set own.number set (state_of b).plan).number ≡ true
        unfolding in_plan
        in_plan_lem = le-leb 1 (flow_of_set own.number set (state_of b).plan).number (omega (arith, number_is, some))

        of_number : flow_numbered number (state_of b).plan ≡ flow_of_set own.number set (state_of b).plan
        of_number =
            let p : InPlace frame set = in_place frame own.kind set taglen there in
            rw number_is
            (of_set (state_of b).plan own.number set (valid_parts (state_of b) (ok_valid b k.ok)).plan_kept
            p.kind_small p.vid_small in_plan_lem).numbered

        arrived_is : arrived_in b arrival frame ≡ arrived_at (state_of b).plan own side frame set taglen
        unfolding arrived_in arrived_at
        arrived_is = rw of_number

        number_fits : number ≤ 32
        unfolding flow_of_set
        number_fits = rw number_is
            (number_few (λ f. eqb (flow_key f) (set_key own.number set.kind set.vid)) (state_of b).plan.flows
            (ok_numbers b k.ok))

        mp_right : soam taglen frame ≡ true → mp ≡ mp_of (arrived_in b arrival frame)
        unfolding mp_of pdu arrived_in
        mp_right oam = mped ∙ rw (heading, heading_level taglen frame oam, flow_of_lem, of_number)

        pub known : source frame < 2 ^ 48 → h.level < 8 → Known b arrival frame
        known small low =
            record {
              ok = k.ok;
              quiet = k.quiet;
              long = k.long;
              flow_some = omega (arith, some);
              flow_fits = number_fits;
              flow_same = ap (λ (f : Flow). f.number) of_number ∙ sym number_is;
              side_known = k.side_known;
              tag_few = tag_few frame own.kind there k.frame_some;
              tag_whole = tag_whole frame own.kind there k.frame_some;
              read_once = heading;
              source_fits = rw (heading, heading_source taglen frame) small;
              level_fits = low;
              mp_same = mp_right;
              frame_fits = k.frame_fits;
            }

        in_flow_lem : in_plan (arrived_at (state_of b).plan own side frame set taglen).flow.number ≡ true
        unfolding arrived_at
        in_flow_lem = in_plan_lem

        pub of_flow_lem : {answer : Answer} {left after : List ℕ}
            → Served (by_whom (state_of b) (arrived_in b arrival frame) (for_mp (arrived_in b arrival frame))) answer left out after
            → Serves answer left after
        unfolding in_sets sets_in in_flow
        of_flow_lem s n known = rw (in_sets_lem n known, inside, in_flow_lem) (rw arrived_is at s)

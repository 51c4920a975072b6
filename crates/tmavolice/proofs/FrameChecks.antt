-- How each way through the checks of a frame call makes what they tell.
use mathlib.Core.Path.{◌≡◌, sym, ◌∙◌}
use mathlib.Core.Bool.{Bool, true, false}
use mathlib.Core.List.{List}
use Prim.Native.Nat.{ℕ, ◌≤◌, ◌<◌}
use native.Mathlib.Omega.{arith}
use lib.ListN.{length}
use borrow.Author.Tests.{lt-ltb, le-ltb, le-leb, lt-leb}
use Rattle.octets.specs.Lists.{within}
use Rattle.plan.specs.declared.Port.{Port}
use Rattle.plan.specs.Plan.{port_numbered, in_plan}
use Rattle.state.specs.State.{State, notice_due}
use Rattle.state.specs.Image.{state_of, ok_image}
use Rattle.state.proofs.ImageLaws.{ok_length}
use Rattle.calls.specs.Calls.{frame, refusal, no_such_place, bad_length, short_output}
use Rattle.calls_serving.specs.Preconditions.{Fair}
use Rattle.tmavolice.specs.Checks.{Checked}
use Rattle.tmavolice.proofs.CheckLaws.{refused, passed}

abbrev There : State → ℕ → Type 0
There s port = in_plan (port_numbered port s.plan).number ≡ true

port_there : (s : State) (port : ℕ) {p : Port} → p ≡ port_numbered port s.plan → (p.number ≡ 0 → ⊥) → There s port
unfolding in_plan
port_there s port {p} found some = rw (← found) (le-leb 1 p.number (omega arith))

place_there : (s : State) (port side : ℕ) → There s port → side ≤ 1 → no_such_place s port side ≡ false
unfolding no_such_place within
place_there s port side there h = simp (there, le-leb side 1 h, le-leb 0 side (omega arith))

length_right : (octets : List ℕ) → 14 ≤ length octets → length octets ≤ 2000 → bad_length octets ≡ false
unfolding bad_length within
length_right octets low high = simp (le-leb 14 (length octets) low, le-leb (length octets) 2000 high)

module _ {l : List ℕ} {port side : ℕ} {octets out : List ℕ} {p : Port} (ok : ok_image l ≡ true)
    (found : p ≡ port_numbered port (state_of l).plan) where
  pub frame_portless : p.number ≡ 0 → Checked l (frame port side octets out) (Fair l side octets out) 1
  unfolding refusal no_such_place in_plan
  frame_portless z = refused ok 1 (omega arith) (rw (← found, z))

  module _ (some : p.number ≡ 0 → ⊥) where
    pub frame_sideless : 1 < side → Checked l (frame port side octets out) (Fair l side octets out) 1
    unfolding refusal no_such_place within
    frame_sideless h =
        refused ok 1 (omega arith)
        (simp (port_there (state_of l) port found some, lt-leb side 1 h, le-leb 0 side (omega arith)))

    module _ (facing : side ≤ 1) where
      pub frame_short : length octets < 14 → Checked l (frame port side octets out) (Fair l side octets out) 2
      unfolding refusal bad_length within
      frame_short h =
          let there : There (state_of l) port = port_there (state_of l) port found some in
          refused ok 2 (omega arith)
          (simp (place_there (state_of l) port side there facing, lt-leb 14 (length octets) h))

      module _ (low : 14 ≤ length octets) where
        pub frame_long : 2000 < length octets → Checked l (frame port side octets out) (Fair l side octets out) 2
        unfolding refusal bad_length within
        frame_long h =
            let there : There (state_of l) port = port_there (state_of l) port found some in
            refused ok 2 (omega arith)
            (simp (place_there (state_of l) port side there facing, le-leb 14 (length octets) low, lt-leb (length octets) 2000 h))

        module _ (high : length octets ≤ 2000) where
          pub frame_roomless : length out < 2008 → Checked l (frame port side octets out) (Fair l side octets out) 3
          unfolding refusal short_output
          frame_roomless h =
              let there : There (state_of l) port = port_there (state_of l) port found some in
              refused ok 3 (omega arith)
              (rw (place_there (state_of l) port side there facing, length_right octets low high, lt-ltb (length out) 2008 h))

          module _ (room : 2008 ≤ length out) {due : Bool} (asked : due ≡ notice_due (state_of l)) where
            pub frame_notice : due ≡ true → Checked l (frame port side octets out) (Fair l side octets out) 4
            unfolding refusal short_output
            frame_notice d =
                let there : There (state_of l) port = port_there (state_of l) port found some in
                refused ok 4 (omega arith)
                (rw (
                  place_there (state_of l) port side there facing,
                  length_right octets low high,
                  le-ltb (length out) 2008 room,
                  sym asked ∙ d,
                ))

            pub frame_passes : due ≡ false → Checked l (frame port side octets out) (Fair l side octets out) 0
            unfolding refusal short_output
            frame_passes d =
                let there : There (state_of l) port = port_there (state_of l) port found some in
                passed ok
                (rw (
                  place_there (state_of l) port side there facing,
                  length_right octets low high,
                  le-ltb (length out) 2008 room,
                  sym asked ∙ d,
                ))
                (record {
                  ok = ok;
                  long = ok_length l ok;
                  side_known = facing;
                  frame_some = low;
                  frame_fits = high;
                  room = room;
                  quiet = sym asked ∙ d;
                })

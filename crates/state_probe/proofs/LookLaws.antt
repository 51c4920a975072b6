-- What is looked up in an image, part by part.
use mathlib.Core.Path.{◌≡◌, ap, ◌∙◌}
use mathlib.Core.Bool.{true, false}
use mathlib.Core.List.{List}
use Prim.Native.Nat.{ℕ, ◌+◌, ◌*◌, ◌^◌}
use Rattle.std.specs.Prelude.{Option}
use Rattle.codec.specs.declared.FrameSet.{FrameSet}
use Rattle.codec.specs.FrameSet.{set_of}
use Rattle.machine.specs.declared.Machine.{Machine}
use Rattle.plan.specs.Plan.{flow_of_set, mp_at}
use Rattle.state.specs.Image.{state_of, ok_image}
use Rattle.state.specs.Rows.{row_found, flow_at, flow_of_row}
use Rattle.state.proofs.Answers.{flow_found}
use Rattle.state_probe.specs.Probe.{session_part, machine_at, found, looked}

module _ (l : List ℕ) (port kind vid level source : ℕ) where
  pub look_found : {row : Option ℕ} {number mp low high : ℕ} {m : Machine} → ok_image l ≡ true
      → row ≡ row_found (flow_at port (record { kind = kind; vid = vid }) l) → number ≡ (flow_of_row row l).number
      → m ≡ machine_at (state_of l) number source → mp ≡ mp_at level (flow_of_row row l)
      → low ≡ 1 + number * 2 ^ 8 + mp * 2 ^ 16 → high ≡ session_part m
      → low + high ≡ looked l port kind vid level source
  unfolding looked found set_of
  look_found {row} ok at n em emp el eh =
      let set : FrameSet = record { kind = kind; vid = vid } in
      let f : flow_of_row row l ≡ flow_of_set port set (state_of l).plan
      = ap (λ (q : Option ℕ). flow_of_row q l) at ∙ flow_found l port set in
      rw (ok, el, eh, em, emp, n, f)

  pub look_nothing : ok_image l ≡ false → 0 ≡ looked l port kind vid level source
  unfolding looked
  look_nothing bad = rw bad

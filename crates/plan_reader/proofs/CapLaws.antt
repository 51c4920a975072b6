-- A line as it is held, its numbers capped, is judged and added as the line itself.
use mathlib.Core.Path.{◌≡◌, refl, sym, ◌∙◌}
use mathlib.Core.Bool.{Bool, true, false, not, ◌&&◌, ◌||◌}
use Prim.Native.Nat.{ℕ, ◌<◌, ◌≤◌}
use native.Mathlib.Omega.{arith}
use lib.Dec.{leb}
use borrow.Author.Tests.{lt-leb}
use Rattle.octets.specs.Lists.{within}
use Rattle.octets.proofs.Cases.{by_eq, by_le}
use Rattle.octets.proofs.ListLaws.{within_high}
use Rattle.codec.specs.FrameSet.{untagged}
use Rattle.plan.specs.Plan.{Plan, good_vid}
use Rattle.plan.specs.Line.{Line, unreadable, port_line, flow_line, mp_line}
use Rattle.plan.specs.PlanText.{port_reason, flow_reason, mp_reason, reason_of, added}
use Rattle.plan.proofs.Faultless.{port_cleared, flow_cleared, mp_cleared}
use Rattle.plan_lines.specs.CappedLine.{capped, said}
use Rattle.plan_lines.specs.declared.Said.{Said}
use Rattle.plan_lines.specs.declared.Said.TheVariants.{OfPort, OfFlow, OfMp}
use Rattle.std.specs.Prelude.{None, Some}
use Rattle.plan_reader.specs.ReadPlan.{said_reason, said_added}
use Rattle.plan_reader.proofs.ReasonLaws.{vid_high}

capped_low : (n : ℕ) → n ≤ 9999 → capped n ≡ n
unfolding capped
capped_low n h = omega arith

capped_high : (n : ℕ) → 9999 < n → capped n ≡ 9999
unfolding capped
capped_high n h = omega arith

-- a number in range is held itself, and one out of range is held out of range
in_range : (low high n : ℕ) → high < 9999 → within low high n ≡ true → capped n ≡ n
in_range low high n h w = let k : n ≤ high = within_high low high n w in capped_low n (omega arith)

out_range : (low high n : ℕ) → high < 9999 → within low high n ≡ false → within low high (capped n) ≡ false
unfolding within
out_range low high n h w =
    by_le n 9999 (λ e s. rw (capped_low n s) w) (λ e s. rw (capped_high n s, lt-leb 9999 high h) (none (leb low 9999)))
  where
    none : (b : Bool) → (b && false) ≡ false
    none true = refl
    none false = refl

out_vid : (kind vid : ℕ) → good_vid kind vid ≡ false → good_vid kind (capped vid) ≡ false
unfolding good_vid within
out_vid kind vid w =
    by_le vid 9999 (λ e s. rw (capped_low vid s) w)
    (λ e s. rw (capped_high vid s) (by_eq kind untagged (λ f t. rw f) (λ f t. rw f)))

or_mid : (a b c : Bool) → b ≡ true → (a || b || c) ≡ true
or_mid true b c e = refl
or_mid false b c e = rw e

or_last : (a b c : Bool) → c ≡ true → (a || b || c) ≡ true
or_last true b c e = refl
or_last false true c e = refl
or_last false false c e = e

module _ (plan : Plan) where
  port_capped : (number address : ℕ) → port_reason plan (capped number) address ≡ port_reason plan number address
  unfolding port_reason
  port_capped number address = go (within 1 8 number) refl
    where
      go : (b : Bool) → within 1 8 number ≡ b → port_reason plan (capped number) address ≡ port_reason plan number address
      go true e = rw (in_range 1 8 number (omega arith) e)
      go false e = rw (out_range 1 8 number (omega arith) e, e)

  flow_two : (number port kind vid : ℕ) → (not (within 1 32 number) || not (within 1 8 port) || not (good_vid kind vid)) ≡ true
      → flow_reason plan number port kind vid ≡ 2
  unfolding flow_reason
  flow_two number port kind vid e = rw e

  number_capped : (number port kind vid : ℕ)
      → flow_reason plan (capped number) port kind vid ≡ flow_reason plan number port kind vid
  unfolding flow_reason
  number_capped number port kind vid = go (within 1 32 number) refl
    where
      go : (b : Bool) → within 1 32 number ≡ b
          → flow_reason plan (capped number) port kind vid ≡ flow_reason plan number port kind vid
      go true e = rw (in_range 1 32 number (omega arith) e)
      go false e = rw (out_range 1 32 number (omega arith) e, e)

  port_number_capped : (number port kind vid : ℕ)
      → flow_reason plan number (capped port) kind vid ≡ flow_reason plan number port kind vid
  port_number_capped number port kind vid = go (within 1 8 port) refl
    where
      go : (b : Bool) → within 1 8 port ≡ b → flow_reason plan number (capped port) kind vid ≡ flow_reason plan number port kind vid
      go true e = rw (in_range 1 8 port (omega arith) e)
      go false e =
          flow_two number (capped port) kind vid
          (or_mid (not (within 1 32 number)) _ (not (good_vid kind vid)) (rw (out_range 1 8 port (omega arith) e)))
          ∙ sym (flow_two number port kind vid (or_mid (not (within 1 32 number)) _ (not (good_vid kind vid)) (rw e)))

  vid_capped : (number port kind vid : ℕ) → flow_reason plan number port kind (capped vid) ≡ flow_reason plan number port kind vid
  vid_capped number port kind vid = go (good_vid kind vid) refl
    where
      go : (b : Bool) → good_vid kind vid ≡ b
          → flow_reason plan number port kind (capped vid) ≡ flow_reason plan number port kind vid
      go true e = let k : vid ≤ 4094 = vid_high kind vid e in rw (capped_low vid (omega arith))
      go false e =
          flow_two number port kind (capped vid)
          (or_last (not (within 1 32 number)) (not (within 1 8 port)) _ (rw (out_vid kind vid e)))
          ∙ sym (flow_two number port kind vid (or_last (not (within 1 32 number)) (not (within 1 8 port)) _ (rw e)))

  mp_flow_capped : (flow level : ℕ) → mp_reason plan (capped flow) level ≡ mp_reason plan flow level
  unfolding mp_reason
  mp_flow_capped flow level = go (within 1 32 flow) refl
    where
      go : (b : Bool) → within 1 32 flow ≡ b → mp_reason plan (capped flow) level ≡ mp_reason plan flow level
      go true e = rw (in_range 1 32 flow (omega arith) e)
      go false e = rw (out_range 1 32 flow (omega arith) e, e)

  mp_level_capped : (flow level : ℕ) → mp_reason plan flow (capped level) ≡ mp_reason plan flow level
  unfolding mp_reason
  mp_level_capped flow level = go (within 0 7 level) refl
    where
      two : (l : ℕ) → within 0 7 l ≡ false → mp_reason plan flow l ≡ 2
      two l e = half (within 1 32 flow) refl
        where
          half : (b : Bool) → within 1 32 flow ≡ b → mp_reason plan flow l ≡ 2
          half true f = rw (f, e)
          half false f = rw f

      go : (b : Bool) → within 0 7 level ≡ b → mp_reason plan flow (capped level) ≡ mp_reason plan flow level
      go true e = rw (in_range 0 7 level (omega arith) e)
      go false e = two (capped level) (out_range 0 7 level (omega arith) e) ∙ sym (two level e)

  pub unsaid : (line : Line) → None ≡ said line → reason_of plan line ≡ 1
  unfolding said reason_of
  unsaid unreadable e = refl
  unsaid (port_line number kind address) e = cc
  unsaid (flow_line number port kind vid) e = cc
  unsaid (mp_line flow kind level) e = cc

  pub said_reason_lem : (line : Line) {s : Said} → Some s ≡ said line → said_reason plan s ≡ reason_of plan line
  unfolding said said_reason reason_of
  said_reason_lem unreadable e = cc
  said_reason_lem (port_line number kind address) {s} e =
      let k : s ≡ OfPort (capped number) kind address = cc in
      rw k (port_capped number address)
  said_reason_lem (flow_line number port kind vid) {s} e =
      let k : s ≡ OfFlow (capped number) (capped port) kind (capped vid) = cc in
      rw k
      (number_capped number (capped port) kind (capped vid) ∙ port_number_capped number port kind (capped vid)
      ∙ vid_capped number port kind vid)
  said_reason_lem (mp_line flow kind level) {s} e =
      let k : s ≡ OfMp (capped flow) kind (capped level) = cc in
      rw k (mp_flow_capped flow (capped level) ∙ mp_level_capped flow level)

  pub said_added_lem : (line : Line) {s : Said} → Some s ≡ said line → reason_of plan line ≡ 0 → said_added s plan ≡ added line plan
  unfolding said said_added reason_of added
  said_added_lem unreadable h e = cc
  said_added_lem (port_line number kind address) {s} h e =
      let k : s ≡ OfPort (capped number) kind address = cc in
      rw (k, in_range 1 8 number (omega arith) (port_cleared plan number address e).number_fits)
  said_added_lem (flow_line number port kind vid) {s} h e =
      let k : s ≡ OfFlow (capped number) (capped port) kind (capped vid) = cc in
      let f : _ = flow_cleared plan number port kind vid e in
      let v : vid ≤ 4094 = vid_high kind vid f.vid_fits in
      rw (
        k,
        in_range 1 32 number (omega arith) f.number_fits,
        in_range 1 8 port (omega arith) f.port_fits,
        capped_low vid (omega arith),
      )
  said_added_lem (mp_line flow kind level) {s} h e =
      let k : s ≡ OfMp (capped flow) kind (capped level) = cc in
      let f : _ = mp_cleared plan flow level e in
      rw (k, in_range 1 32 flow (omega arith) f.flow_fits, in_range 0 7 level (omega arith) f.level_fits)

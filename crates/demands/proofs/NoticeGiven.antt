-- The notice that the C entries give next is that of the first machine of the image that owes one.
use mathlib.Core.Path.{◌≡◌, ap, ◌∙◌}
use mathlib.Core.Bool.{true, false≢true}
use mathlib.Core.List.{List, [], ◌∷◌}
use Prim.Native.Nat.{ℕ, ◌*◌, ◌≤◌, ◌<◌, ◌^◌}
use lib.ListN.{length}
use Rattle.octets.specs.Octets.{over}
use Rattle.codec.specs.declared.FrameSet.{FrameSet}
use Rattle.codec.specs.FrameSet.{set_of}
use Rattle.codec_replies.specs.Reply.{reply_frame, reply_pdu}
use Rattle.machine.specs.Machine.{key}
use Rattle.plan.specs.declared.Flow.{Flow}
use Rattle.plan.specs.Plan.{Plan, port_numbered, flow_of_set, in_plan}
use Rattle.state.specs.State.{State, valid}
use Rattle.state.specs.Image.{state_of, ok_image}
use Rattle.state.proofs.ImageLaws.{ok_valid}
use Rattle.state.proofs.OwedRow.{by_test}
use Rattle.state.proofs.Rules.{valid_parts}
use Rattle.calls.specs.declared.Answer.TheVariants.{Noticed}
use Rattle.calls.specs.Answer.{number_of}
use Rattle.calls.specs.Calls.{Call, notice, lent}
use Rattle.calls.proofs.SetFlows.{OfSet}
use Rattle.demands.specs.Machine.{notice as owing, idle, owed_by, is_notice}
use Rattle.demands.specs.World.{at_flow, flow_of, source_of, at, first_owing}
use Rattle.demands.specs.Frame.{sends}
use Rattle.demands.specs.Calls.{refusal, call, served, noticed, notice_served}
use Rattle.demands.specs.Shown.{machine_at, world_of}
use Rattle.demands.specs.Runs.{Seen, seen, EntriesRun}
use Rattle.demands.proofs.Shows.{SmallSet}
use Rattle.demands.proofs.Flows.{flow_set, found_set, found_port}
use Rattle.demands.proofs.Keys.{key_flow, key_source}
use Rattle.demands.proofs.Served.{served_is}
use Rattle.demands.proofs.ImageShown.{world_in, first_shown}

-- a type 2 reply with this code to a session's source, by the port of its machine
abbrev pub notice_of : Plan → ℕ → ℕ → ℕ → ℕ → List ℕ → List ℕ
notice_of plan p source code level tag =
    let port = port_numbered p plan in
    reply_frame source port.address tag (reply_pdu level 2 code port.address idle [])

module _ (s : State) (ok : valid s ≡ true) (p : ℕ) (set : FrameSet) (x : ℕ) (small : SmallSet set) (low : x < 2 ^ 48) where
  abbrev flow : Flow
  flow = flow_of_set p set s.plan

  abbrev k : ℕ
  k = key flow.number x

  -- A machine that owes a notice is of a flow of the plan,
  planned : {code level side : ℕ} {tag : List ℕ} → owed_by ((world_of s).machine p set x) ≡ owing code level side tag
      → in_plan flow.number ≡ true
  unfolding world_of machine_at owed_by is_notice
  planned m =
      by_test (in_plan flow.number) (λ t. t)
      (λ gone. absurd (false≢true (ap is_notice (rw gone at m))))

  -- and is found by its flow and source as one number.
  module _ (there : in_plan flow.number ≡ true) where
    flow_is : flow_of k (world_of s) ≡ flow
    unfolding flow_of world_of
    flow_is = rw (key_flow flow.number x low) (found_set s.plan (valid_parts s ok).plan_kept p set small there).numbered

    set_is : flow_set flow ≡ set
    unfolding set_of
    set_is =
        let f : OfSet s.plan set flow = found_set s.plan (valid_parts s ok).plan_kept p set small there in
        let parts : set_of flow.kind flow.vid ≡ set_of set.kind set.vid = rw (f.kind_same, f.vid_same) in
        parts

    at_is : at k (world_of s) ≡ (world_of s).machine p set x
    unfolding at at_flow source_of world_of
    at_is = rw (flow_is, set_is, found_port s.plan (valid_parts s ok).plan_kept p set small there, key_source flow.number x low)

  notice_told : (keys : ℕ) (out : List ℕ) {code level side : ℕ} {tag : List ℕ}
      → owed_by ((world_of s).machine p set x) ≡ owing code level side tag
      → refusal keys (world_of s) (notice out) ≡ 0
      → first_owing keys (world_of s) ≡ k
      → seen (notice out) (call keys (world_of s) (notice out))
      ≡ record {
        number = number_of (Noticed (port_numbered p s.plan).number side (length (notice_of s.plan p x code level tag)));
        out = over (notice_of s.plan p x code level tag) out;
      }
  unfolding served notice_served noticed sends seen lent source_of world_of
  notice_told keys out m free first =
      let there : in_plan flow.number ≡ true = planned m in
      let port : flow.port ≡ p = found_port s.plan (valid_parts s ok).plan_kept p set small there in
      rw (
        served_is keys (world_of s) (notice out) (rw free),
        first,
        flow_is there,
        at_is there,
        m,
        port,
        key_source flow.number x low,
      )

-- The first call of a run on a valid image takes the notice of the machine that is the first to owe one.
pub entries_notice : (keys : ℕ) → 33 * 2 ^ 48 ≤ keys
    → {l left : List ℕ} {cs : List Call} {x : Seen} {xs : List Seen} {ls : List (List ℕ)} (out : List ℕ)
    → EntriesRun l (notice out ∷ cs) (x ∷ xs) (left ∷ ls)
    → ok_image l ≡ true
    → (p : ℕ) (set : FrameSet) (y : ℕ)
    → SmallSet set
    → y < 2 ^ 48
    → {code level side : ℕ} {tag : List ℕ}
    → owed_by ((world_in l).machine p set y) ≡ owing code level side tag
    → refusal keys (world_in l) (notice out) ≡ 0
    → first_owing keys (world_in l) ≡ key (flow_of_set p set (world_in l).plan).number y
    → x
    ≡ record {
      number = number_of (Noticed (port_numbered p (world_in l).plan).number side (length (notice_of (world_in l).plan p y code level tag)));
      out = over (notice_of (world_in l).plan p y code level tag) out;
    }
unfolding world_of
entries_notice keys big {l = l} out run ok p set y small low m free first =
    (first_shown keys big run ok tt).told ∙ notice_told (state_of l) (ok_valid l ok) p set y small low keys out m free first

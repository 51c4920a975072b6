-- What becomes of a data frame, read from its parts as the code reads them.
use mathlib.Core.Path.{◌≡◌, refl, sym}
use mathlib.Core.Bool.{false}
use mathlib.Core.List.{List}
use Prim.Native.Nat.{ℕ}
use native.Mathlib.Omega.{arith}
use lib.ListN.{length}
use Rattle.octets.specs.Octets.{over}
use Rattle.codec.specs.FrameSet.{soam, pdu_of}
use Rattle.codec.specs.Request.{level_of}
use Rattle.codec.proofs.Headings.{by_soam, heading_soam}
use Rattle.machine.specs.declared.Machine.{Machine}
use Rattle.machine.specs.declared.Machine.TheVariants.{Inactive, Active}
use Rattle.machine.specs.declared.Fate.{Fate}
use Rattle.machine.specs.declared.Fate.TheVariants.{Forward, Drop, Loop}
use Rattle.machine.specs.Table.{action_of}
use Rattle.machine.specs.Machine.{key, condition_of, data_event, passes, turned, fate_of}
use Rattle.codec_replies.specs.Reply.{looped}
use Rattle.codec_replies.proofs.Lengths.{looped_length}
use Rattle.state.specs.State.{is_allowed, machine_of}
use Rattle.state.specs.Image.{state_of}
use Rattle.state.proofs.ImageLaws.{image_state}
use Rattle.calls.specs.declared.Answer.TheVariants.{Forwarded, Dropped, Looped}
use Rattle.calls.specs.Answer.{sends}
use Rattle.calls.specs.Frame.{pdu, own, own_action, by_fate, data_served}
use Rattle.calls_requests.specs.declared.Arrival.{Arrival}
use Rattle.calls_requests.specs.Arrival.{Known, Served, arrived_in}
use Rattle.calls_requests.proofs.Arrivals.{key_is, level_is}
use Rattle.calls_requests.proofs.Ways.{stays}

-- what is no service OAM has a fate without a level
level_alike : (act level other side : ℕ) (m : Machine) → fate_of act false level side m ≡ fate_of act false other side m
unfolding fate_of turned passes
level_alike act level other side Inactive = refl
level_alike act level other side (Active x) = refl

module _ (b : List ℕ) (a : Arrival) (frame out : List ℕ) (k : Known b a frame)
    {at act : ℕ} {m : Machine} {fate : Fate}
    (keyed : at ≡ key a.flow a.heading.source)
    (machine : m ≡ machine_of at (state_of b).sessions)
    (entry : act ≡ action_of (condition_of (is_allowed a.flow (state_of b)) m) (data_event a.side))
    (told : fate ≡ fate_of act a.heading.soam a.heading.level a.side m) where
  soam_is : a.heading.soam ≡ soam a.taglen frame
  soam_is = rw k.read_once (heading_soam a.taglen frame)

  -- the level matters where it is service OAM
  level_right : fate_of act (soam a.taglen frame) a.heading.level a.side m
      ≡ fate_of act (soam a.taglen frame) (level_of (pdu_of a.taglen frame)) a.side m
  level_right =
      by_soam a.taglen frame (λ oam. rw (level_is k oam))
      (λ other. rw other (level_alike act a.heading.level (level_of (pdu_of a.taglen frame)) a.side m))

  by_fate_lem : data_served (state_of b) (arrived_in b a frame) ≡ by_fate (state_of b) (arrived_in b a frame) fate
  unfolding data_served own_action own arrived_in pdu
  by_fate_lem = rw (told, soam_is, level_right, entry, machine, keyed, key_is k, k.flow_same)

  pub data_forwarded : fate ≡ Forward → Served (data_served (state_of b) (arrived_in b a frame)) Forwarded b out out
  unfolding by_fate
  data_forwarded e = rw (by_fate_lem, e) (stays Forwarded out k.ok)

  pub data_dropped : fate ≡ Drop → Served (data_served (state_of b) (arrived_in b a frame)) Dropped b out out
  unfolding by_fate
  data_dropped e = rw (by_fate_lem, e) (stays Dropped out k.ok)

  pub data_looped : fate ≡ Loop → {n : ℕ} {after : List ℕ}
      → n ≡ length frame → after ≡ over (looped a.looper frame) out
      → Served (data_served (state_of b) (arrived_in b a frame)) (Looped n) b out after
  unfolding by_fate sends arrived_in
  data_looped e long written =
      rw (by_fate_lem, e)
      (record {
        answered = rw (long, looped_length a.looper frame (omega (arith, k.tag_whole)));
        stored = sym (image_state b k.ok);
        written = written;
      })

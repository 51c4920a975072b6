-- What was read of a frame once is what the frame says.
use mathlib.Core.Path.{◌≡◌, refl}
use mathlib.Core.Bool.{true}
use mathlib.Core.List.{List}
use Prim.Native.Nat.{ℕ}
use Rattle.codec.specs.declared.Addressed.{Addressed}
use Rattle.codec.specs.declared.Addressed.TheVariants.{Elsewhere, Unicast, Multicast}
use Rattle.codec.specs.FrameSet.{destination, source, soam, pdu_of}
use Rattle.codec.specs.Request.{level_of, type_of, read_of}
use Rattle.codec.proofs.Headings.{heading_destination, heading_source, heading_level, heading_kind}
use Rattle.codec.specs.declared.Read.{Read}
use Rattle.machine.specs.Machine.{key}
use Rattle.state.specs.State.{is_allowed}
use Rattle.state.specs.Image.{state_of}
use Rattle.calls.specs.Frame.{pdu, own_key, new_session, goes_on}
use Rattle.calls_requests.specs.declared.Arrival.{Arrival}
use Rattle.calls_requests.specs.Arrival.{Known, arrived_in, session_of, onward}

module _ {b : List ℕ} {a : Arrival} {frame : List ℕ} (k : Known b a frame) where
  pub source_is : a.heading.source ≡ source frame
  source_is = rw k.read_once (heading_source a.taglen frame)

  pub destination_is : a.heading.destination ≡ destination frame
  destination_is = rw k.read_once (heading_destination a.taglen frame)

  pub key_is : key a.flow a.heading.source ≡ own_key (arrived_in b a frame)
  unfolding own_key arrived_in
  key_is = rw (k.flow_same, source_is)

  pub allowed_is : is_allowed (arrived_in b a frame).flow.number (state_of b) ≡ is_allowed a.flow (state_of b)
  unfolding arrived_in
  allowed_is = rw k.flow_same

  -- a request read by its heading's destination
  pub read_is : (whom : Addressed) {r : Read} → r ≡ read_of whom a.heading.destination (pdu_of a.taglen frame)
      → r ≡ read_of whom (destination frame) (pdu_of a.taglen frame)
  read_is whom e = rw destination_is at e

  -- where it is service OAM
  module _ (oam : soam a.taglen frame ≡ true) where
    pub level_is : a.heading.level ≡ level_of (pdu_of a.taglen frame)
    level_is = rw k.read_once (heading_level a.taglen frame oam)

    pub kind_is : a.heading.kind ≡ type_of (pdu_of a.taglen frame)
    kind_is = rw k.read_once (heading_kind a.taglen frame oam)

    pub session_is : session_of a frame ≡ new_session (arrived_in b a frame)
    unfolding session_of new_session pdu arrived_in
    session_is = rw (k.flow_same, source_is, level_is)

    pub onward_is : (whom : Addressed) → onward a whom ≡ goes_on (arrived_in b a frame) whom
    unfolding onward goes_on
    onward_is Elsewhere = refl
    onward_is Unicast = refl
    onward_is Multicast = rw (← k.mp_same oam)

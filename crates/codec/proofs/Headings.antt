-- What was read of a frame once is what the frame says: its addresses always, what its PDU says where it is service OAM.
use mathlib.Core.Path.{◌≡◌, refl}
use mathlib.Core.Bool.{Bool, true, false}
use mathlib.Core.List.{List}
use Prim.Native.Nat.{ℕ}
use Rattle.codec.specs.FrameSet.{destination, source, soam, pdu_of}
use Rattle.codec.specs.Request.{is_request, level_of, type_of, heading_of}

module _ (taglen : ℕ) (frame : List ℕ) where
  pub by_soam : {A : Type 0} → (soam taglen frame ≡ true → A) → (soam taglen frame ≡ false → A) → A
  by_soam {A = A} oam other = go (soam taglen frame) refl
    where
      go : (b : Bool) → soam taglen frame ≡ b → A
      go true e = oam e
      go false e = other e

  pub heading_destination : (heading_of taglen frame).destination ≡ destination frame
  unfolding heading_of
  heading_destination = by_soam (λ e. rw e) (λ e. rw e)

  pub heading_source : (heading_of taglen frame).source ≡ source frame
  unfolding heading_of
  heading_source = by_soam (λ e. rw e) (λ e. rw e)

  pub heading_soam : (heading_of taglen frame).soam ≡ soam taglen frame
  unfolding heading_of
  heading_soam = by_soam (λ e. rw e) (λ e. rw e)

  pub heading_request : (heading_of taglen frame).request ≡ is_request taglen frame
  unfolding heading_of is_request
  heading_request = by_soam (λ e. rw e) (λ e. rw e)

  module _ (oam : soam taglen frame ≡ true) where
    pub heading_level : (heading_of taglen frame).level ≡ level_of (pdu_of taglen frame)
    unfolding heading_of
    heading_level = rw oam

    pub heading_kind : (heading_of taglen frame).kind ≡ type_of (pdu_of taglen frame)
    unfolding heading_of
    heading_kind = rw oam

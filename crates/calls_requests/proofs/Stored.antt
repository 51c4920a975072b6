-- The image that each change of a session leaves.
use mathlib.Core.Path.{◌≡◌, sym, ap, ◌∙◌}
use mathlib.Core.Bool.{true}
use mathlib.Core.Logic.{◌⊎◌, inl, inr}
use mathlib.Core.List.{List}
use Prim.Native.Nat.{ℕ, ◌≤◌}
use lib.ListN.{length}
use Rattle.std.specs.Prelude.{Option}
use Rattle.octets.specs.Lists.{put}
use Rattle.machine.specs.declared.Session.{Session}
use Rattle.machine.specs.declared.Machine.TheVariants.{Inactive, Active}
use Rattle.machine.specs.declared.Change.{Change}
use Rattle.machine.specs.declared.Change.TheVariants.{Same, Opened, Restarted, Closed}
use Rattle.machine.specs.Machine.{key_of, after}
use Rattle.state.specs.State.{State, with_sessions}
use Rattle.state.specs.Image.{image, state_of, ok_image}
use Rattle.state.specs.Rows.{row_found, session_at}
use Rattle.state.proofs.ImageLaws.{ok_valid, image_state}
use Rattle.state_store.specs.StoredRows.{session_put, row_removed, session_removed}
use Rattle.state_store.proofs.Images.{Laid, laid, put_image, removed_image}
use Rattle.calls.specs.Frame.{changed}

-- a change that puts a session in
abbrev pub Keeps : Change → Session → Type 0
Keeps change x = (change ≡ Opened x) ⊎ (change ≡ Restarted x)

pub keeps_active : {change : Change} {x : Session} → Keeps change x → after change Inactive ≡ Active x
unfolding after
keeps_active (inl e) = rw e
keeps_active (inr e) = rw e

module _ (b : List ℕ) (ok : ok_image b ≡ true) (key : ℕ) where
  abbrev s : State
  s = state_of b

  rows : Laid s
  rows = laid s (ok_valid b ok)

  pub same_left : {change : Change} → change ≡ Same → b ≡ image (changed key change s)
  unfolding changed
  same_left e = rw e (sym (image_state b ok))

  module _ {c : List ℕ} where
    pub closed_left : {change : Change} {row : Option ℕ} → change ≡ Closed → row ≡ row_found (session_at key b) → c ≡ row_removed row b
        → c ≡ image (changed key change s)
    unfolding changed session_removed
    closed_left e er h = rw e (rw er at h ∙ ap (session_removed key) (sym (image_state b ok)) ∙ removed_image s rows key)

    module _ (x : Session) (h : c ≡ session_put x b) (room : length (put key_of x s.sessions) ≤ 16) where
      put_left : c ≡ image (with_sessions (put key_of x s.sessions) s)
      put_left = h ∙ ap (session_put x) (sym (image_state b ok)) ∙ put_image s rows x room

      pub kept_left : {change : Change} → Keeps change x → c ≡ image (changed key change s)
      unfolding changed
      kept_left (inl e) = rw e put_left
      kept_left (inr e) = rw e put_left

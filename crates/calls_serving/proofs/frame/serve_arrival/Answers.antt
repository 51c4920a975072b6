use mathlib.Core.Path.{◌≡◌, sym, ◌∙◌}
use mathlib.Core.Logic.{◌⊎◌, ⊎_elim}
use Rattle.codec.specs.declared.Addressed.{Addressed}
use Rattle.codec.specs.declared.Addressed.TheVariants.{Elsewhere, Unicast, Multicast}
use Rattle.state.specs.State.{State}
use Rattle.calls.specs.Frame.{Arrived, by_whom, request_served}
use Rattle.calls_serving.proofs.FrameLaws.{for_oam, by_whom_lem}
use Rattle.calls_serving.proofs.frame.serve_arrival.Goals as goal

-- neither of the two that are here is nobody
not_elsewhere : (whom : Addressed) → (whom ≡ Unicast) ⊎ (whom ≡ Multicast) → whom ≡ Elsewhere → ⊥
not_elsewhere whom k e = ⊎_elim (λ (u : whom ≡ Unicast). cc) (λ (m : whom ≡ Multicast). cc) k

-- either of them is asked
asked : (s : State) (x : Arrived) (whom : Addressed) → (whom ≡ Unicast) ⊎ (whom ≡ Multicast)
    → by_whom s x whom ≡ request_served s x whom
unfolding by_whom
asked s x whom k = ⊎_elim (λ (u : whom ≡ Unicast). rw u) (λ (m : whom ≡ Multicast). rw m) k

pub for_mp-whom-requires : goal.for_mp-whom-requires
for_mp-whom-requires c =
    let k : _ = c.requires.0 in
    (k.tag_whole, k.level_fits)

pub serve_data-requires : goal.serve_data-requires
serve_data-requires c = c.requires

pub serve_request-requires : goal.serve_request-requires
serve_request-requires c =
    let p : _ = c.requires in
    (p.0, (p.1, for_oam p.0 (λ e. not_elsewhere c.for_mp-whom.result c.in-Unicast.is (c.for_mp-whom.ensures _ p.0 ∙ e))))

pub returns-in-Elsewhere : goal.returns-in-Elsewhere
unfolding by_whom
returns-in-Elsewhere c =
    by_whom_lem _ _ _ Elsewhere (sym c.in-Elsewhere.is ∙ c.for_mp-whom.ensures _ c.requires.0) c.serve_data.ensures

pub returns-in-Unicast : goal.returns-in-Unicast
returns-in-Unicast c =
    by_whom_lem _ _ _ c.for_mp-whom.result (c.for_mp-whom.ensures _ c.requires.0)
    (rw (asked _ _ c.for_mp-whom.result c.in-Unicast.is) c.serve_request.ensures)

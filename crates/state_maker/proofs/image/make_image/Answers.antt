use Rattle.plan.specs.Records.{plan_of}
use Rattle.state.specs.State.{made}
use Rattle.state_maker.proofs.Made.{made_image}
use Rattle.state_maker.proofs.image.make_image.Goals as goal

pub returns : goal.returns
unfolding plan_of made
returns c =
    let a : _ = c.args in
    made_image (plan_of a.r.now) a.clock c.requires a.b.now c.told-b c.clear.ensures c.put_low4.ensures
    c.put_rows.ensures c.put_rows-2.ensures c.put_places.ensures

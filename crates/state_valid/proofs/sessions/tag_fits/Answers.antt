use native.Mathlib.Omega.{arith}
use Rattle.std.proofs.lemmas.Grind.{common_steps}
use Rattle.codec.specs.FrameSet.{tag_fits, set_of, vid_of}
use Rattle.state_valid.proofs.sessions.tag_fits.Goals as goal

pub returns-then-taglen-eq0 : goal.returns-then-taglen-eq0
unfolding tag_fits set_of vid_of
returns-then-taglen-eq0 c = grind (arith, common_steps)

pub returns-else-taglen-eq0 : goal.returns-else-taglen-eq0
unfolding tag_fits set_of vid_of
returns-else-taglen-eq0 c = grind (arith, common_steps)

pub returns-then-tag-tag_type : goal.returns-then-tag-tag_type
unfolding tag_fits set_of vid_of
returns-then-tag-tag_type c = grind (arith, common_steps)

pub returns-else-tag-tag_type : goal.returns-else-tag-tag_type
unfolding tag_fits set_of vid_of
returns-else-tag-tag_type c = grind (arith, common_steps)

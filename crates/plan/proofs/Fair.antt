-- What every line that is read keeps by its form: listed kinds, and addresses of 12 digits.
use mathlib.Core.Bool.{Bool, true, ◌&&◌}
use Prim.Native.Nat.{◌^◌}
use lib.Dec.{ltb}
use Rattle.octets.specs.Lists.{within}
use Rattle.codec.specs.FrameSet.{uni, enni, untagged, s_tagged}
use Rattle.plan.specs.Plan.{up, mip}
use Rattle.plan.specs.Line.{Line, unreadable, port_line, flow_line, mp_line}

unfoldable pub fair_line : Line → Bool
fair_line unreadable = true
fair_line (port_line number kind address) = within uni enni kind && ltb address (2 ^ 48)
fair_line (flow_line number port kind vid) = within untagged s_tagged kind
fair_line (mp_line flow kind level) = within up mip kind

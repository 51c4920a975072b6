use Rattle.calls_requests.specs.Arrival.{onward}
use Rattle.calls_requests.proofs.request.goes_on.Goals as goal

pub returns-in-Elsewhere : goal.returns-in-Elsewhere
unfolding onward
returns-in-Elsewhere c = rw c.in-Elsewhere.is

pub returns-in-Unicast : goal.returns-in-Unicast
unfolding onward
returns-in-Unicast c = rw c.in-Unicast.is

pub returns-in-Multicast : goal.returns-in-Multicast
unfolding onward
returns-in-Multicast c = rw c.in-Multicast.is

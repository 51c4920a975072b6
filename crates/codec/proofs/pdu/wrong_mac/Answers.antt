use Rattle.codec.specs.Request.{wrong_mac, port_mac_of}
use Rattle.codec.proofs.pdu.wrong_mac.Goals as goal

pub returns-in-Elsewhere : goal.returns-in-Elsewhere
unfolding wrong_mac
returns-in-Elsewhere c = rw c.in-Elsewhere.is

pub returns-in-Unicast : goal.returns-in-Unicast
unfolding wrong_mac port_mac_of
returns-in-Unicast c = rw (c.in-Unicast.is, c.number6.ensures.0)

pub returns-in-Multicast : goal.returns-in-Multicast
unfolding wrong_mac
returns-in-Multicast c = rw c.in-Multicast.is

-- A grant changes nothing of what calls do.
use Rattle.std.proofs.Common.{◌≡◌, subst, sym}
use Rattle.datagram_ports.specs.Calls.{Call, Received, Sent}
use Rattle.datagram_ports.specs.Granted.{DoesAsBefore}
use Rattle.datagram_ports.specs.declared.told.Told.{Told}
use Rattle.udp.specs.Calls.{DoesOverUdp, IsSamePort}
use Rattle.udp.specs.declared.udp_port.UdpPort.{UdpPort}

module _ {C : Type 0} (old : UdpPort C) (granted : Told) where
  -- the port after a grant
  abbrev then : UdpPort C
  then = record old { granted = granted }

  -- it is the same port
  same_port : (after : UdpPort C) → IsSamePort then after → IsSamePort old after
  same_port after same = record {
    setup = same.setup;
    heard = same.heard;
    sent = same.sent;
    noticed = same.noticed;
    listing = same.listing;
  }

  -- what a call does to it
  done_before : (call : Call) (after : UdpPort C) → DoesOverUdp then call after → DoesOverUdp old call after
  done_before (Received answer) after done = record { same = same_port after done.same; notices = done.notices; left = done.left }
  done_before (Sent parcel answer) after done = record {
    same = same_port after done.same;
    notices = done.notices;
    handed = done.handed;
    taken = done.taken;
  }

  pub does_as_before : (new : UdpPort C) → new ≡ then → DoesAsBefore DoesOverUdp old new
  does_as_before new is = λ call after.
      subst (λ (port : UdpPort C). DoesOverUdp port call after → DoesOverUdp old call after) (sym is) (done_before call after)

use Rattle.std.proofs.Common.{◌≡◌, arith}
use Rattle.udp.proofs.Coming.{CountUp-more, longer}
use Rattle.udp.specs.declared.sockets.Seat.{Seat}
use Rattle.udp.proofs.udp_port.UdpPort.together_behind.Goals as goal

pub loop-node-preserved : goal.loop-node-preserved
loop-node-preserved g c =
    let before = c.loop-node.seats.items in
    let seat = c.in_ok-seat.seat in
    record {
      seats = longer before c.push-in-loop-node.new.self.items seat c.loop-node.node c.in_ok-push-2.ensures.items c.loop-node.invariant.seats;
      addresses = longer c.loop-node.addresses.items c.push.new.self.items c.in_ok-address_of.field-0 c.loop-node.node c.in_ok-push.ensures.items c.loop-node.invariant.addresses;
      few = omega arith;
      in_order = rw c.in_ok-push-2.ensures.items (CountUp-more (λ node (s : Seat). s.node ≡ node) 0 before seat c.loop-node.invariant.in_order
          (omega (arith, c.in_ok-seat.ensures.node, c.loop-node.invariant.seats)));
    }

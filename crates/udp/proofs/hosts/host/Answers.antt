use Rattle.std.specs.Net.Addr.{IsUnspecifiedV4}
use Rattle.std.specs.declared.net.ipv4_addr.Ipv4Addr.{Ipv4Addr}
use Rattle.udp.proofs.FirstBad.{no_host-no_address, no_host-port_0, no_host-unspecified}
use Rattle.std.proofs.Common.{◌∙◌, subst, sym}
use Rattle.udp.proofs.hosts.host.Goals as goal

pub returns-in_default : goal.returns-in_default
returns-in_default c = no_host-no_address c.args.part.now c.in_default.ensures.value

pub returns-then-port-eq0 : goal.returns-then-port-eq0
returns-then-port-eq0 c = no_host-port_0 c.args.part.now c.in-Ok.host c.in-Ok.ensures.value (sym c.port.ensures ∙ c.if-port-eq0.true)

pub returns-then-is_unspecified : goal.returns-then-is_unspecified
returns-then-is_unspecified c =
    no_host-unspecified c.args.part.now c.in-Ok.host c.in-Ok.ensures.value
    (subst (λ (ip : Ipv4Addr). IsUnspecifiedV4 ip) c.ip.ensures (c.is_unspecified.ensures.0 c.if-is_unspecified.true))

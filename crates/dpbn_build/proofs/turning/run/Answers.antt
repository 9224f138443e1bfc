use Rattle.std.proofs.Common.{◌∙◌, ap, refl}
use Rattle.std.specs.declared.rt.LibcRuntime.{LibcRuntime}
use Rattle.udp.specs.Calls.{setup_of}
use Rattle.udp.specs.declared.udp_port.UdpPort.{UdpPort}
use Rattle.dpbn_build.proofs.turning.run.Goals as goal

pub returns : goal.returns
returns g c =
    let seen = c.port-2.ensures.value in
    λ ended. record {
      last = c.take_turns-is_ended.new.solo;
      turned = c.take_turns-is_ended.ensures ended;
      flushed = record {
        same = refl;
        setup = rw seen (c.flush.ensures.setup
            ∙ ap (λ (p : UdpPort LibcRuntime). setup_of p) c.port.ensures.value);
        inbox = rw seen (c.flush.ensures.seal_stays.0
            ∙ ap (λ (p : UdpPort LibcRuntime). p.inbox) c.port.ensures.value);
        outbox = rw seen (c.flush.ensures.seal_stays.1
            ∙ ap (λ (p : UdpPort LibcRuntime). p.outbox) c.port.ensures.value);
        left = rw seen c.flush.ensures.left;
        handed = rw (seen, c.flush.ensures.handed, c.port.ensures.value) refl;
      };
    }

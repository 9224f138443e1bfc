use Rattle.std.proofs.Common.{ap, refl, sym, []}
use Rattle.std.specs.Prelude.{option_to_list}
use Rattle.std.proofs.lemmas.List.{append-nil}
use Rattle.udp.specs.Notices.{NoticesState}
use Rattle.udp.specs.Ways.{in_line}
use Rattle.udp.proofs.udp_port.UdpPort.take_notice.Goals as goal

pub returns-clause-notified : goal.returns-clause-notified
returns-clause-notified g c =
    let same = c.take_first.ensures.same in
    record {
      same = record {
        setup = refl;
        heard = refl;
        sent = refl;
        noticed = ap (λ (s : NoticesState). s.key) same;
        listing = ap (λ (s : NoticesState). s.listing) same;
      };
      inbox = refl;
      handed = refl;
      granted = refl;
      failures = refl;
      sends = refl;
      hurry = refl;
      sent = [];
      queued = sym (append-nil (in_line c.args.self.now.leaving.waiting.items));
      notices = tt;
      came = ap (λ (s : NoticesState). s.came) same;
      taken = option_to_list c.take_first.result;
      rest = c.take_first.ensures.first;
    }

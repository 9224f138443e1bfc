use Rattle.std.proofs.Common.{None, Some, ap, length, sym, ◌∙◌}
use Rattle.std.specs.List.{range_with_len}
use Rattle.std.proofs.lemmas.Bool.{false≢true}
use Rattle.claims.specs.Quorums.{nobody}
use Rattle.ballots.specs.Support.{Support, set_of}
use Rattle.ballots.specs.declared.message.Body.TheVariants.{Offer}
use Rattle.protocol.specs.Answers.{message_of}
use Rattle.protocol.specs.InTheAgreement.{members_in}
use Rattle.protocol.specs.Sends.{sent_to}
use Rattle.protocol.specs.State.{Gathering, State}
use Rattle.member.specs.OpenClaims.{joined_in}
use Rattle.member.proofs.member.Member.opening.Goals as goal

pub returns : goal.returns
returns c =
    let s = c.args.self.now in
    let u = c.args.unit in
    let round = c.args.round in
    let me = ap (λ (s : State). s.me) c.self.view_is in
    let weights = ap (λ (s : State). s.weights) c.self.view_is in
    let all =
    c.everyone.ensures ∙ ap (λ (s : State). range_with_len 0 (length s.weights)) c.self.view_is in
    let sends =
    c.in_ok-sends.ensures
    ∙ (ap (λ m. sent_to (Some (message_of s u (Offer (record { round = round; member = m }))))
    c.everyone.result.items) me
    ∙ ap (sent_to (Some (message_of s u (Offer (record { round = round; member = s.me }))))) all) in
    let joined = ap joined_in c.new.ensures ∙ ap (λ ws. members_in (length ws) nobody) weights in
    record {
      is = λ i. record {
        note = Some (c.in_ok-note.ensures i);
        sends = sends i;
        job = None;
        claim = Some (record {
          unit = u;
          host = c.args.host;
          progress = Gathering (record { round = round; member = me i }) (joined i) None;
        });
      };
      weighed = record {
        same = ap (λ (t : Support). t.weights) c.new.ensures ∙ weights;
        within = λ k e.
            absurd (false≢true (sym (ap (λ (t : Support). set_of t k) c.new.ensures) ∙ e));
      };
    }

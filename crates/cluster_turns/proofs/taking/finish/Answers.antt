use Rattle.std.proofs.Common.{Err, ap, subst, ◌∙◌}
use Rattle.std.proofs.lemmas.Result.{err_from_is_err_and}
use Rattle.one_list.proofs.nodes.NodeSteps.{sends_answered}
use Rattle.node.specs.Parcels.{datagrams_to}
use Rattle.node.specs.Step.{taken_by}
use Rattle.turn_rules.specs.Offered.{WasOffered, parcels_from}
use Rattle.datagram_ports.specs.Kept.{GoesOnBy}
use Rattle.cluster_turns.proofs.Settling.{not_taken}
use Rattle.cluster_turns.proofs.taking.finish.Goals as goal

pub offer-requires : goal.offer-requires
offer-requires g c = record {
  before = c.args.node.now;
  logged = c.member-node.ensures.node;
  asked = c.requires.present.asked;
  taken = taken_by c.args.node.now.node c.args.ready;
  takes = c.requires.present.takes;
  state = c.in_ok-out.ensures.taken.state;
  sends = c.in_ok-out.ensures.taken.tells.sends;
  on_log = c.in_ok-out.ensures.on_log;
}

pub returns-clause-taken : goal.returns-clause-taken
returns-clause-taken g c = record {
  state = c.in_ok-out.ensures.taken.state;
  room = c.in_ok-out.ensures.within;
  kept = c.in_ok-out.ensures.kept;
  on_log = c.in_ok-out.ensures.on_log;
  any_moment = c.in_ok-out.ensures.any_moment;
}

pub returns-clause-offered : goal.returns-clause-offered
returns-clause-offered g c =
    let sends = c.in_ok-out.ensures.taken.tells.sends
    ∙ ap datagrams_to (sends_answered c.args.node.now.node.member c.args.ready.step) in
    subst (λ s. GoesOnBy (parcels_from c.args.number s) (g.P.Port.offered c.args.port.now)
    (g.P.Port.offered c.offer.new.port)) sends c.offer.ensures.offered

pub returns-clause-calls : goal.returns-clause-calls
returns-clause-calls g c =
    let sends = c.in_ok-out.ensures.taken.tells.sends
    ∙ ap datagrams_to (sends_answered c.args.node.now.node.member c.args.ready.step) in
    subst (λ s. WasOffered g.P.Port.does c.args.port.now (parcels_from c.args.number s)
    c.offer.new.port) sends c.offer.ensures.calls

pub returns-in_err-out-clause-refused : goal.returns-in_err-out-clause-refused
returns-in_err-out-clause-refused g c =
    let p = err_from_is_err_and c.from_residual.result c.from_residual.ensures.1 in
    rw (p.1, p.2)
    (not_taken g.D.Disk c.args.node.now
    c.finish.new.self c.args.ready c.in_err-out.ensures.kept c.in_err-out.field-0.0
    c.in_err-out.ensures.causes c.in_err-out.ensures.refused c.in_err-out.ensures.still_on_log
    (λ e. c.in_err-out.ensures.stops (ap (λ x. Err x) e))
    (λ e. c.in_err-out.ensures.device (ap (λ x. Err x) e))
    c.in_err-out.ensures.any_moment)

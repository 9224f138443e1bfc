use Rattle.std.proofs.Common.{[], None, Some, inl, map, refl, subst, sym}
use Rattle.std.proofs.lemmas.Result.{err_from_is_err_and}
use Rattle.cluster_turns.specs.Choosing.{HasChosen}
use Rattle.cluster_turns.specs.Unfailed.{EachFailedBelow}
use Rattle.turn_rules.specs.Calls.{came_by, no_calls}
use Rattle.turn_rules.specs.Offered.{sends_of}
use Rattle.datagram_ports.proofs.Calls.{WentThrough-append}
use Rattle.datagram_ports.specs.Calls.{Received}
use Rattle.cluster_turns.proofs.ByCalls.{receives_alone}
use Rattle.cluster_turns.proofs.Settling.{goes_on, ready_as, turned, turned_not}
use Rattle.cluster_turns.proofs.turning.take_turn.Goals as goal
use Rattle.cluster_turns.specs.Calls.{calls_as_port}

pub take-requires-clause-readied : goal.take-requires-clause-readied
take-requires-clause-readied g c =
    let made = subst (HasChosen c.choose.new.nodes.items c.args.sent.now c.args.pending.now
    c.args.builds.now (g.P.Port.given c.args.port.now) (g.P.Port.given c.choose.new.port))
    c.in-Some.is c.in_ok-chosen.ensures.chosen in
    ready_as c.choose.new.nodes.items c.args.sent.now c.args.pending.now c.args.builds.now
    (g.P.Port.given c.args.port.now) (g.P.Port.given c.choose.new.port) c.in-Some.chosen made

pub returns-in_err-event-in-Some-clause-turn : goal.returns-in_err-event-in-Some-clause-turn
returns-in_err-event-in-Some-clause-turn g c =
    let made = subst (HasChosen c.choose.new.nodes.items c.args.sent.now c.args.pending.now
    c.args.builds.now (g.P.Port.given c.args.port.now) (g.P.Port.given c.choose.new.port))
    c.in-Some.is c.in_ok-chosen.ensures.chosen in
    let p = err_from_is_err_and c.from_residual-in_err-event-in-Some.result
    c.from_residual-in_err-event-in-Some.ensures.1 in
    rw (p.1, p.2)
    (turned_not g.D.Disk g.P.Port (record {
      nodes = c.choose.new.nodes.items;
      sent = c.args.sent.now;
      events = c.args.events.now.items;
      pending = c.args.pending.now;
      port = c.choose.new.port;
    })
    (record {
      nodes = c.take.new.nodes.items;
      sent = c.take.new.sent;
      events = c.take.new.events.items;
      pending = c.take.new.pending;
      port = c.take.new.port;
    })
    c.args.port.now c.choose.ensures.offered c.in-Some.chosen c.args.builds.now
    c.args.nodes.now.items c.choose.ensures.same made c.take.ensures.given
    c.in_err-event-in-Some.field-0.0 c.in_err-event-in-Some.ensures.taken)

pub returns-in_ok-event-in-Some-clause-turn : goal.returns-in_ok-event-in-Some-clause-turn
returns-in_ok-event-in-Some-clause-turn g c =
    let made = subst (HasChosen c.choose.new.nodes.items c.args.sent.now c.args.pending.now
    c.args.builds.now (g.P.Port.given c.args.port.now) (g.P.Port.given c.choose.new.port))
    c.in-Some.is c.in_ok-chosen.ensures.chosen in
    turned g.D.Disk g.P.Port (record {
      nodes = c.choose.new.nodes.items;
      sent = c.args.sent.now;
      events = c.args.events.now.items;
      pending = c.args.pending.now;
      port = c.choose.new.port;
    })
    (record {
      nodes = c.take.new.nodes.items;
      sent = c.take.new.sent;
      events = c.take.new.events.items;
      pending = c.take.new.pending;
      port = c.take.new.port;
    })
    c.args.port.now c.choose.ensures.offered c.in-Some.chosen c.args.builds.now
    c.args.nodes.now.items c.choose.ensures.same made c.take.ensures.given
    c.in_ok-event-in-Some.event c.in_ok-event-in-Some.ensures.taken

-- ---- the results by the port's calls

pub returns-in_err-event-in-Some-clause-calls : goal.returns-in_err-event-in-Some-clause-calls
returns-in_err-event-in-Some-clause-calls g c =
    let asked = c.in_ok-chosen.ensures.calls in
    let made = subst (HasChosen c.choose.new.nodes.items c.args.sent.now c.args.pending.now
    c.args.builds.now (Some []) (Some (map came_by asked.received))) c.in-Some.is asked.so in
    let p = err_from_is_err_and c.from_residual-in_err-event-in-Some.result
    c.from_residual-in_err-event-in-Some.ensures.1 in
    let offered = c.in_err-event-in-Some.ensures.calls in
    rw (p.1, p.2) (record {
      calls = record { received = asked.received; offered = offered.offered };
      went = WentThrough-append g.P.Port.does c.args.port.now c.choose.new.port c.take.new.port
          (map Received asked.received) (sends_of offered.offered) asked.went offered.went;
      so = turned_not g.D.Disk calls_as_port (record {
        nodes = c.choose.new.nodes.items;
        sent = c.args.sent.now;
        events = c.args.events.now.items;
        pending = c.args.pending.now;
        port = record { received = asked.received; offered = [] };
      })
          (record {
            nodes = c.take.new.nodes.items;
            sent = c.take.new.sent;
            events = c.take.new.events.items;
            pending = c.take.new.pending;
            port = record { received = asked.received; offered = offered.offered };
          })
          no_calls refl c.in-Some.chosen c.args.builds.now
          c.args.nodes.now.items c.choose.ensures.same made
          (goes_on (Some (map came_by asked.received)))
          c.in_err-event-in-Some.field-0.0 (offered.so asked.received);
    })

pub returns-in_ok-event-in-Some-clause-calls : goal.returns-in_ok-event-in-Some-clause-calls
returns-in_ok-event-in-Some-clause-calls g c =
    let asked = c.in_ok-chosen.ensures.calls in
    let made = subst (HasChosen c.choose.new.nodes.items c.args.sent.now c.args.pending.now
    c.args.builds.now (Some []) (Some (map came_by asked.received))) c.in-Some.is asked.so in
    let offered = c.in_ok-event-in-Some.ensures.calls in
    record {
      calls = record { received = asked.received; offered = offered.offered };
      went = WentThrough-append g.P.Port.does c.args.port.now c.choose.new.port c.take.new.port
          (map Received asked.received) (sends_of offered.offered) asked.went offered.went;
      so = turned g.D.Disk calls_as_port (record {
        nodes = c.choose.new.nodes.items;
        sent = c.args.sent.now;
        events = c.args.events.now.items;
        pending = c.args.pending.now;
        port = record { received = asked.received; offered = [] };
      })
          (record {
            nodes = c.take.new.nodes.items;
            sent = c.take.new.sent;
            events = c.take.new.events.items;
            pending = c.take.new.pending;
            port = record { received = asked.received; offered = offered.offered };
          })
          no_calls refl c.in-Some.chosen c.args.builds.now
          c.args.nodes.now.items c.choose.ensures.same made
          (goes_on (Some (map came_by asked.received)))
          c.in_ok-event-in-Some.event (offered.so asked.received);
    }

pub returns-in_err-chosen-clause-calls : goal.returns-in_err-chosen-clause-calls
returns-in_err-chosen-clause-calls g c =
    let asked = c.in_err-chosen.ensures.calls_refused in
    let p = err_from_is_err_and c.from_residual.result c.from_residual.ensures.1 in
    rw (p.1, p.2) (record {
      calls = record { received = asked.received; offered = [] };
      went = receives_alone g.P.Port.does c.args.port.now c.choose.new.port asked.received
          asked.went;
      so = inl (
        asked.so,
        record {
          nodes = inl c.choose.ensures.same;
          sent = refl;
          events = refl;
          pending = refl;
          offers = refl;
        },
      );
    })

pub returns-in-None-clause-calls : goal.returns-in-None-clause-calls
returns-in-None-clause-calls g c =
    let asked = c.in_ok-chosen.ensures.calls in
    let made = subst (HasChosen c.choose.new.nodes.items c.args.sent.now c.args.pending.now
    c.args.builds.now (Some []) (Some (map came_by asked.received))) c.in-None.is asked.so in
    record {
      calls = record { received = asked.received; offered = [] };
      went = receives_alone g.P.Port.does c.args.port.now c.choose.new.port asked.received
          asked.went;
      so = (
        subst (λ ns. HasChosen ns c.args.sent.now c.args.pending.now c.args.builds.now (Some [])
            (Some (map came_by asked.received)) None) c.choose.ensures.same made,
        record {
          nodes = inl c.choose.ensures.same;
          sent = refl;
          events = refl;
          pending = refl;
          offers = refl;
        },
      );
    }

-- ---- below its position, all of each node's queued units failed

pub take-requires-clause-below : goal.take-requires-clause-below
take-requires-clause-below g c =
    subst (λ ns. EachFailedBelow ns c.args.pending.now c.choose.new.unfailed)
    (sym c.choose.ensures.same) c.choose.ensures.below

pub returns-in_err-chosen-clause-below : goal.returns-in_err-chosen-clause-below
returns-in_err-chosen-clause-below g c =
    subst (λ ns. EachFailedBelow ns c.args.pending.now c.choose.new.unfailed)
    (sym c.choose.ensures.same) c.choose.ensures.below

pub returns-in-None-clause-below : goal.returns-in-None-clause-below
returns-in-None-clause-below g c =
    subst (λ ns. EachFailedBelow ns c.args.pending.now c.choose.new.unfailed)
    (sym c.choose.ensures.same) c.choose.ensures.below

use Rattle.std.proofs.Common.{[], ◌∷◌, Some, refl, subst, sym}
use Rattle.std.proofs.lemmas.Result.{IfErr-weaker, IfOk-weaker, err_from_is_err_and}
use Rattle.turn_rules.specs.Calls.{came_by}
use Rattle.cluster_turns.proofs.ByCase.{goes_on}
use Rattle.cluster_turns.proofs.Asking.{in_calls}
use Rattle.cluster_turns.proofs.Choosings.{arrival_denied, arrival_taken, job_answered, job_wants, own_denied, own_taken}
use Rattle.cluster_turns.specs.Choosing.{NoneIsForeign}
use Rattle.cluster_turns.specs.inside.Cases.{arrived}
use Rattle.cluster_turns.proofs.chosen.choose.Goals as goal

pub returns-in_err-chosen-clause-refused : goal.returns-in_err-chosen-clause-refused
returns-in_err-chosen-clause-refused g c =
    let p = err_from_is_err_and c.from_residual.result c.from_residual.ensures.1 in
    let given = g.P.Port.given c.args.port.now in
    rw (p.1, p.2) (job_wants c.args.nodes.now.items c.args.sent.now c.args.pending.now
    c.args.builds.now given given (goes_on given) c.in_err-chosen.field-0.0
    c.in_err-chosen.ensures.refused)

pub returns-in-Some-clause-chosen : goal.returns-in-Some-clause-chosen
returns-in-Some-clause-chosen g c =
    let given = g.P.Port.given c.args.port.now in
    job_answered c.args.nodes.now.items c.args.sent.now c.args.pending.now c.args.builds.now
    given given (goes_on given) c.answered.new.nodes.items c.answered.ensures.same
    c.in_ok-chosen.field-0 c.in-Some.chosen c.in-Some.is c.in_ok-chosen.ensures.chosen

pub taken_in-requires : goal.taken_in-requires
taken_in-requires g c = record {
  known = subst (λ xs. NoneIsForeign xs c.args.sent.now) (sym c.answered.ensures.same)
      c.requires.known;
}

pub returns-in_err-chosen-2-clause-refused : goal.returns-in_err-chosen-2-clause-refused
returns-in_err-chosen-2-clause-refused g c =
    let p = err_from_is_err_and c.from_residual-in_err-chosen-2.result
    c.from_residual-in_err-chosen-2.ensures.1 in
    rw (p.1, p.2) (arrival_denied c.args.nodes.now.items c.args.sent.now c.args.pending.now
    c.args.builds.now (g.P.Port.given c.args.port.now) (g.P.Port.given c.received-came.new.port)
    c.answered.new.nodes.items c.answered.ensures.same c.in_ok-chosen.field-0 c.in_default.is
    c.in_ok-chosen.ensures.chosen (arrived c.received-came.result)
    c.received-came.ensures.given c.in_err-chosen-2.field-0.0
    c.in_err-chosen-2.ensures.refused)

pub returns-in-Some-2-clause-chosen : goal.returns-in-Some-2-clause-chosen
returns-in-Some-2-clause-chosen g c =
    arrival_taken c.args.nodes.now.items c.args.sent.now c.args.pending.now
    c.args.builds.now (g.P.Port.given c.args.port.now) (g.P.Port.given c.received-came.new.port)
    c.answered.new.nodes.items c.answered.ensures.same c.in_ok-chosen.field-0 c.in_default.is
    c.in_ok-chosen.ensures.chosen (arrived c.received-came.result)
    c.received-came.ensures.given c.taken_in.new.nodes.items c.taken_in.ensures.same
    c.in_ok-chosen-2.field-0 c.in_ok-chosen-2.ensures.chosen c.in-Some-2.chosen c.in-Some-2.is
    c.in_ok-chosen-2.ensures.sent

pub returns-clause-chosen : goal.returns-clause-chosen
returns-clause-chosen g c =
    IfOk-weaker c.own_in_turn.result _ _
    (own_taken c.args.nodes.now.items c.args.sent.now c.args.pending.now
    c.args.builds.now (g.P.Port.given c.args.port.now) (g.P.Port.given c.received-came.new.port)
    c.answered.new.nodes.items c.answered.ensures.same c.in_ok-chosen.field-0 c.in_default.is
    c.in_ok-chosen.ensures.chosen (arrived c.received-came.result)
    c.received-came.ensures.given c.taken_in.new.nodes.items c.taken_in.ensures.same
    c.in_ok-chosen-2.field-0 c.in_ok-chosen-2.ensures.chosen c.in_default-2.is
    c.own_in_turn.new.nodes.items c.own_in_turn.ensures.same) c.own_in_turn.ensures.chosen

pub returns-clause-refused : goal.returns-clause-refused
returns-clause-refused g c =
    IfErr-weaker c.own_in_turn.result _ _
    (own_denied c.args.nodes.now.items c.args.sent.now c.args.pending.now
    c.args.builds.now (g.P.Port.given c.args.port.now) (g.P.Port.given c.received-came.new.port)
    c.answered.new.nodes.items c.answered.ensures.same c.in_ok-chosen.field-0 c.in_default.is
    c.in_ok-chosen.ensures.chosen (arrived c.received-came.result)
    c.received-came.ensures.given c.taken_in.new.nodes.items c.taken_in.ensures.same
    c.in_ok-chosen-2.field-0 c.in_ok-chosen-2.ensures.chosen c.in_default-2.is)
    c.own_in_turn.ensures.refused

-- ---- the results by the port's calls

pub returns-in_err-chosen-clause-calls_refused : goal.returns-in_err-chosen-clause-calls_refused
returns-in_err-chosen-clause-calls_refused g c =
    let p = err_from_is_err_and c.from_residual.result c.from_residual.ensures.1 in
    rw (p.1, p.2) (record {
      received = [];
      went = refl;
      so = job_wants c.args.nodes.now.items c.args.sent.now c.args.pending.now
          c.args.builds.now (Some []) (Some []) refl c.in_err-chosen.field-0.0
          c.in_err-chosen.ensures.refused;
    })

pub returns-in-Some-clause-calls : goal.returns-in-Some-clause-calls
returns-in-Some-clause-calls g c = record {
  received = [];
  went = refl;
  so = job_answered c.args.nodes.now.items c.args.sent.now c.args.pending.now
      c.args.builds.now (Some []) (Some []) refl c.answered.new.nodes.items
      c.answered.ensures.same c.in_ok-chosen.field-0 c.in-Some.chosen c.in-Some.is
      c.in_ok-chosen.ensures.chosen;
}

pub returns-in_err-chosen-2-clause-calls_refused : goal.returns-in_err-chosen-2-clause-calls_refused
returns-in_err-chosen-2-clause-calls_refused g c =
    let p = err_from_is_err_and c.from_residual-in_err-chosen-2.result
    c.from_residual-in_err-chosen-2.ensures.1 in
    let came = arrived c.received-came.result in
    let r = c.received-came.ensures.calls in
    rw (p.1, p.2) (record {
      received = r.0 ∷ [];
      went = r.2;
      so = arrival_denied c.args.nodes.now.items c.args.sent.now c.args.pending.now
          c.args.builds.now (Some []) (Some (came_by r.0 ∷ [])) c.answered.new.nodes.items
          c.answered.ensures.same c.in_ok-chosen.field-0 c.in_default.is
          c.in_ok-chosen.ensures.chosen came (in_calls came r.0 r.1)
          c.in_err-chosen-2.field-0.0 c.in_err-chosen-2.ensures.refused;
    })

pub returns-in-Some-2-clause-calls : goal.returns-in-Some-2-clause-calls
returns-in-Some-2-clause-calls g c =
    let came = arrived c.received-came.result in
    let r = c.received-came.ensures.calls in
    record {
      received = r.0 ∷ [];
      went = r.2;
      so = arrival_taken c.args.nodes.now.items c.args.sent.now c.args.pending.now
          c.args.builds.now (Some []) (Some (came_by r.0 ∷ [])) c.answered.new.nodes.items
          c.answered.ensures.same c.in_ok-chosen.field-0 c.in_default.is
          c.in_ok-chosen.ensures.chosen came (in_calls came r.0 r.1) c.taken_in.new.nodes.items
          c.taken_in.ensures.same c.in_ok-chosen-2.field-0 c.in_ok-chosen-2.ensures.chosen
          c.in-Some-2.chosen c.in-Some-2.is c.in_ok-chosen-2.ensures.sent;
    }

pub returns-clause-calls : goal.returns-clause-calls
returns-clause-calls g c =
    let came = arrived c.received-came.result in
    let r = c.received-came.ensures.calls in
    IfOk-weaker c.own_in_turn.result _ _
    (λ o own. record {
      received = r.0 ∷ [];
      went = r.2;
      so = own_taken c.args.nodes.now.items c.args.sent.now c.args.pending.now
          c.args.builds.now (Some []) (Some (came_by r.0 ∷ [])) c.answered.new.nodes.items
          c.answered.ensures.same c.in_ok-chosen.field-0 c.in_default.is
          c.in_ok-chosen.ensures.chosen came (in_calls came r.0 r.1) c.taken_in.new.nodes.items
          c.taken_in.ensures.same c.in_ok-chosen-2.field-0 c.in_ok-chosen-2.ensures.chosen
          c.in_default-2.is c.own_in_turn.new.nodes.items c.own_in_turn.ensures.same o own;
    }) c.own_in_turn.ensures.chosen

pub returns-clause-calls_refused : goal.returns-clause-calls_refused
returns-clause-calls_refused g c =
    let came = arrived c.received-came.result in
    let r = c.received-came.ensures.calls in
    IfErr-weaker c.own_in_turn.result _ _
    (λ f own. record {
      received = r.0 ∷ [];
      went = r.2;
      so = own_denied c.args.nodes.now.items c.args.sent.now c.args.pending.now
          c.args.builds.now (Some []) (Some (came_by r.0 ∷ [])) c.answered.new.nodes.items
          c.answered.ensures.same c.in_ok-chosen.field-0 c.in_default.is
          c.in_ok-chosen.ensures.chosen came (in_calls came r.0 r.1) c.taken_in.new.nodes.items
          c.taken_in.ensures.same c.in_ok-chosen-2.field-0 c.in_ok-chosen-2.ensures.chosen
          c.in_default-2.is f own;
    }) c.own_in_turn.ensures.refused

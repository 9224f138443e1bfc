use Rattle.std.proofs.Common.{◌≡◌, ◌≤◌, arith, length}
use Rattle.std.proofs.lemmas.Result.{IfErr-weaker, IfOk-weaker, err_from_is_err_and}
use Rattle.cluster_turns.proofs.Owns.{first_refused, first_turn, later_refused, later_turn}
use Rattle.cluster_turns.proofs.chosen.own_in_turn.Goals as goal

pub returns-in_err-chosen-clause-refused : goal.returns-in_err-chosen-clause-refused
returns-in_err-chosen-clause-refused g c =
    let p = err_from_is_err_and c.from_residual.result c.from_residual.ensures.1 in
    let nodes = c.args.nodes.now.items in
    let all : c.len.result ≡ length nodes = omega (arith, c.args.nodes.now.ok.0) in
    let within : c.next-next.result ≤ length nodes = omega (arith, c.requires.next) in
    rw (p.1, p.2) (first_refused nodes c.args.pending.now c.next-next.result c.len.result
    c.next-next.ensures all within c.in_err-chosen.field-0.0 c.in_err-chosen.ensures.refused)

pub returns-in-Some-clause-chosen : goal.returns-in-Some-clause-chosen
returns-in-Some-clause-chosen g c =
    let nodes = c.args.nodes.now.items in
    let all : c.len.result ≡ length nodes = omega (arith, c.args.nodes.now.ok.0) in
    let within : c.next-next.result ≤ length nodes = omega (arith, c.requires.next) in
    first_turn nodes c.args.pending.now c.next-next.result c.len.result c.next-next.ensures all
    within c.in_ok-chosen.field-0 c.in-Some.chosen c.in-Some.is
    c.in_ok-chosen.ensures.chosen

pub returns-clause-chosen : goal.returns-clause-chosen
returns-clause-chosen g c =
    let nodes = c.args.nodes.now.items in
    let all : c.len.result ≡ length nodes = omega (arith, c.args.nodes.now.ok.0) in
    let within : c.next-next.result ≤ length nodes = omega (arith, c.requires.next) in
    IfOk-weaker c.own_among-2.result _ _
    (later_turn nodes c.args.pending.now c.next-next.result c.len.result c.next-next.ensures all
    within c.own_among.new.nodes.items c.own_among.ensures.same c.in_ok-chosen.field-0
    c.in_default.is c.in_ok-chosen.ensures.chosen)
    c.own_among-2.ensures.chosen

pub returns-clause-refused : goal.returns-clause-refused
returns-clause-refused g c =
    let nodes = c.args.nodes.now.items in
    let all : c.len.result ≡ length nodes = omega (arith, c.args.nodes.now.ok.0) in
    let within : c.next-next.result ≤ length nodes = omega (arith, c.requires.next) in
    IfErr-weaker c.own_among-2.result _ _
    (later_refused nodes c.args.pending.now c.next-next.result c.len.result c.next-next.ensures
    all within c.own_among.new.nodes.items c.own_among.ensures.same c.in_ok-chosen.field-0
    c.in_default.is c.in_ok-chosen.ensures.chosen) c.own_among-2.ensures.refused

use Rattle.std.proofs.Common.{◌∙◌, ap, inl, refl}
use Rattle.std.proofs.lemmas.Result.{err_from_is_err_and}
use Rattle.cluster_turns.proofs.Arrivals.{known_lent, sent_seen, some_came, some_comes, stays_lent, taken_lent, wants_lent}
use Rattle.cluster_turns.proofs.Places.{up_seen}
use Rattle.cluster_turns.specs.Choosing.{told}
use Rattle.cluster_turns.specs.Here.{here_in}
use Rattle.cluster_turns.specs.inside.Cases.{arrived}
use Rattle.cluster_turns.proofs.chosen.taken_in.Goals as goal

pub returns-in_err-is_sent-clause-refused : goal.returns-in_err-is_sent-clause-refused
returns-in_err-is_sent-clause-refused g c =
    let p = err_from_is_err_and c.from_residual.result c.from_residual.ensures.1 in
    let nodes = c.args.nodes.now.items in
    let to = c.in-Some.to in
    rw (p.1, p.2) (inl (
      refl,
      some_came (here_in nodes) to c.in-Some.bytes.items (arrived c.args.came)
          (ap arrived c.in-Some.is)
          (up_seen nodes c.as_slice.result.now to c.is_up.result c.as_slice.ensures.value
          c.is_up.ensures c.if-not-is_up.false),
    ))

pub returns-in-Ok-clause-chosen : goal.returns-in-Ok-clause-chosen
returns-in-Ok-clause-chosen g c =
    let nodes = c.args.nodes.now.items in
    let to = c.in-Some.to in
    let some = up_seen nodes c.as_slice.result.now to c.is_up.result c.as_slice.ensures.value
    c.is_up.ensures c.if-not-is_up.false in
    taken_lent nodes to c.in-Some.bytes.items (arrived c.args.came)
    (ap arrived c.in-Some.is)
    c.index_mut.result.now c.take_in.new.node c.index_mut.ensures.value some
    c.in-Ok.ensures.readied.0 (record { node = to; readied = c.in-Ok.readied }) refl
    c.in-Ok.ensures.readied.1

pub returns-in-Ok-clause-sent : goal.returns-in-Ok-clause-sent
returns-in-Ok-clause-sent g c =
    let nodes = c.args.nodes.now.items in
    let to = c.in-Some.to in
    let some = up_seen nodes c.as_slice.result.now to c.is_up.result c.as_slice.ensures.value
    c.is_up.ensures c.if-not-is_up.false in
    let among = sent_seen c.args.sent.now c.in-Some.bytes.items c.as_slice-2.result.now
    c.in_ok-is_sent.field-0 c.as_slice-2.ensures.value c.in_ok-is_sent.ensures
    c.if-not-branch.false in
    known_lent nodes to c.in-Some.bytes.items (arrived c.args.came)
    (ap arrived c.in-Some.is)
    c.index_mut.result.now c.take_in.new.node c.index_mut.ensures.value some c.args.sent.now among

pub returns-in-Err-clause-same : goal.returns-in-Err-clause-same
returns-in-Err-clause-same g c =
    let nodes = c.args.nodes.now.items in
    let to = c.in-Some.to in
    let some = up_seen nodes c.as_slice.result.now to c.is_up.result c.as_slice.ensures.value
    c.is_up.ensures c.if-not-is_up.false in
    let among = sent_seen c.args.sent.now c.in-Some.bytes.items c.as_slice-2.result.now
    c.in_ok-is_sent.field-0 c.as_slice-2.ensures.value c.in_ok-is_sent.ensures
    c.if-not-branch.false in
    stays_lent nodes to c.in-Some.bytes.items (arrived c.args.came)
    (ap arrived c.in-Some.is)
    c.index_mut.result.now c.take_in.new.node c.index_mut.ensures.value some c.args.sent.now among
    c.requires.known c.in-Err.fault c.in-Err.ensures.refused c.in-Err.ensures.log
    c.in-Err.ensures.left

pub returns-in-Err-clause-refused : goal.returns-in-Err-clause-refused
returns-in-Err-clause-refused g c =
    let nodes = c.args.nodes.now.items in
    let to = c.in-Some.to in
    let some = up_seen nodes c.as_slice.result.now to c.is_up.result c.as_slice.ensures.value
    c.is_up.ensures c.if-not-is_up.false in
    let among = sent_seen c.args.sent.now c.in-Some.bytes.items c.as_slice-2.result.now
    c.in_ok-is_sent.field-0 c.as_slice-2.ensures.value c.in_ok-is_sent.ensures
    c.if-not-branch.false in
    inl (
      c.told.ensures ∙ ap told (wants_lent nodes to c.in-Some.bytes.items
          (arrived c.args.came)
          (ap arrived c.in-Some.is)
          c.index_mut.result.now c.take_in.new.node c.index_mut.ensures.value some c.args.sent.now
          among c.requires.known c.in-Err.fault c.in-Err.ensures.refused),
      some_comes nodes to c.in-Some.bytes.items (arrived c.args.came) (ap arrived c.in-Some.is)
          c.index_mut.result.now c.take_in.new.node c.index_mut.ensures.value some,
    )

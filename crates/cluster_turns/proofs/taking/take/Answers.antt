use Rattle.std.proofs.Common.{[], ◌++◌, ◌∷◌, ◌<◌, ◌^◌, ap, arith, inl, refl, slice_get, slice_set, subst, sym, ◌∙◌}
use Rattle.node.specs.State.{LoggedNode}
use Rattle.std.proofs.Math.Facts.{Fits-of_lt}
use Rattle.std.proofs.lemmas.Option.{slice_get_within}
use Rattle.turn_rules.specs.Acts.{asked_by}
use Rattle.node.specs.Step.{IsReadyFor, note_in}
use Rattle.turn_rules.specs.Unfailed.{notes_held}
use Rattle.cluster_turns.proofs.Below.{lowered_each, member_stays, not_taken_each, taken_each}
use Rattle.cluster_turns.proofs.Settling.{index_is, is_not_taken, is_taken}
use Rattle.cluster_turns.specs.inside.Turning.{HasNotTaken, HasTaken, StopsAs}
use Rattle.cluster_turns.proofs.taking.take.Goals as goal
use Rattle.cluster_turns.specs.Calls.{calls_as_port}

-- ---- the chosen node is one of at most nine

pub grown_for-requires-clause-there : goal.grown_for-requires-clause-there
grown_for-requires-clause-there g c =
    let at = c.requires.readied in
    slice_get_within c.as_slice.result.now c.args.chosen.node at.node
    (ap (λ l. slice_get l c.args.chosen.node) c.as_slice.ensures.value ∙ at.stands)

pub overflow_cast-number : goal.overflow_cast-number
overflow_cast-number g c =
    let at = c.requires.readied in
    let there = slice_get_within c.args.nodes.now.items c.args.chosen.node at.node at.stands in
    let small : c.args.chosen.node < 2 ^ 8 = omega (arith, there, c.requires.few) in
    Fits-of_lt small

pub index_mut-requires : goal.index_mut-requires
index_mut-requires g c =
    let at = c.requires.readied in
    let there = slice_get_within c.args.nodes.now.items c.args.chosen.node at.node at.stands in
    omega (arith, there, c.args.nodes.now.ok.0)

-- ---- the result of its step

pub finish-requires : goal.finish-requires
finish-requires g c =
    let at = c.requires.readied in
    let here = index_is c.args.nodes.now.items c.args.chosen.node at.node c.index_mut.result.now
    at.stands c.index_mut.ensures.value in
    record {
      present = subst (λ (n : LoggedNode g.row.D.Denot). IsReadyFor n.node c.args.chosen.readied.ready) here
          at.readied.may;
    }

pub returns-in-Ok-finish-clause-taken : goal.returns-in-Ok-finish-clause-taken
returns-in-Ok-finish-clause-taken g c =
    let at = c.requires.readied in
    let here = index_is c.args.nodes.now.items c.args.chosen.node at.node c.index_mut.result.now
    at.stands c.index_mut.ensures.value in
    let there = ap (λ l. slice_get l c.args.chosen.node) c.as_slice.ensures.value ∙ at.stands in
    is_taken g.D.Disk g.P.Port
    (record {
      nodes = c.args.nodes.now.items;
      sent = c.args.sent.now;
      events = c.args.events.now.items;
      pending = c.args.pending.now;
      port = c.args.port.now;
    })
    (record {
      nodes = slice_set c.args.nodes.now.items c.args.chosen.node c.finish.new.node;
      sent = c.grown_for.new.sent;
      events = c.keep.new.events.items;
      pending = c.grown_for.new.pending;
      port = c.finish.new.port;
    })
    c.args.chosen at c.in-Ok.grown.recorded c.in-Ok.ensures.recorded c.host_fits.ensures
    (c.in-Ok.ensures.logged at.node there) c.finish.new.node refl
    (subst (λ n. HasTaken g.D.Disk n c.finish.new.node
    c.args.chosen.readied.ready) (sym here) c.in-Ok-finish.ensures.taken)
    c.in-Ok.ensures.sent (c.in-Ok.ensures.pending at.node there)
    (c.keep.ensures.kept ∙ ap (λ l. l ++ c.in-Ok.grown.recorded.kept ∷ []) c.in-Ok.ensures.events)
    c.in-Ok-finish.ensures.offered c.keep.result c.keep.ensures.answered

pub returns-in-Err-finish-clause-taken : goal.returns-in-Err-finish-clause-taken
returns-in-Err-finish-clause-taken g c =
    let at = c.requires.readied in
    let here = index_is c.args.nodes.now.items c.args.chosen.node at.node c.index_mut.result.now
    at.stands c.index_mut.ensures.value in
    let there = ap (λ l. slice_get l c.args.chosen.node) c.as_slice.ensures.value ∙ at.stands in
    is_not_taken g.D.Disk g.P.Port
    (record {
      nodes = c.args.nodes.now.items;
      sent = c.args.sent.now;
      events = c.args.events.now.items;
      pending = c.args.pending.now;
      port = c.args.port.now;
    })
    (record {
      nodes = slice_set c.args.nodes.now.items c.args.chosen.node c.finish.new.node;
      sent = c.cut_back.new.self;
      events = c.stopped.new.events.items;
      pending = c.put_back.new.self;
      port = c.finish.new.port;
    })
    c.args.chosen at c.in-Ok.grown.recorded c.in-Ok.ensures.recorded c.host_fits.ensures
    (c.in-Ok.ensures.logged at.node there) c.finish.new.node refl c.in-Err-finish.fault
    c.stopped.result
    (subst (λ n. HasNotTaken g.D.Disk n
    c.finish.new.node c.args.chosen.readied.ready c.in-Err-finish.fault) (sym here)
    c.in-Err-finish.ensures.refused)
    (subst (λ l. StopsAs c.args.chosen.node c.in-Ok.grown.recorded.stop l
    c.stopped.new.events.items c.in-Err-finish.fault c.stopped.result) c.in-Ok.ensures.events
    c.stopped.ensures)
    (c.cut_back.ensures ∙ c.in-Ok.ensures.count) (c.put_back.ensures ∙ c.in-Ok.ensures.before.0)
    c.in-Err-finish.ensures.silent

-- ---- the results by the port's calls

pub returns-in-Ok-finish-clause-calls : goal.returns-in-Ok-finish-clause-calls
returns-in-Ok-finish-clause-calls g c =
    let at = c.requires.readied in
    let here = index_is c.args.nodes.now.items c.args.chosen.node at.node c.index_mut.result.now
    at.stands c.index_mut.ensures.value in
    let there = ap (λ l. slice_get l c.args.chosen.node) c.as_slice.ensures.value ∙ at.stands in
    let offered = c.in-Ok-finish.ensures.calls in
    record {
      offered = offered.0;
      went = offered.2;
      so = λ received.
          is_taken g.D.Disk calls_as_port
          (record {
            nodes = c.args.nodes.now.items;
            sent = c.args.sent.now;
            events = c.args.events.now.items;
            pending = c.args.pending.now;
            port = record { received = received; offered = [] };
          })
          (record {
            nodes = slice_set c.args.nodes.now.items c.args.chosen.node c.finish.new.node;
            sent = c.grown_for.new.sent;
            events = c.keep.new.events.items;
            pending = c.grown_for.new.pending;
            port = record { received = received; offered = offered.0 };
          })
          c.args.chosen at c.in-Ok.grown.recorded c.in-Ok.ensures.recorded c.host_fits.ensures
          (c.in-Ok.ensures.logged at.node there) c.finish.new.node refl
          (subst (λ n. HasTaken g.D.Disk n c.finish.new.node
          c.args.chosen.readied.ready) (sym here) c.in-Ok-finish.ensures.taken)
          c.in-Ok.ensures.sent (c.in-Ok.ensures.pending at.node there)
          (c.keep.ensures.kept
          ∙ ap (λ l. l ++ c.in-Ok.grown.recorded.kept ∷ []) c.in-Ok.ensures.events)
          offered.1 c.keep.result c.keep.ensures.answered;
    }

pub returns-in-Err-finish-clause-calls : goal.returns-in-Err-finish-clause-calls
returns-in-Err-finish-clause-calls g c =
    let at = c.requires.readied in
    let here = index_is c.args.nodes.now.items c.args.chosen.node at.node c.index_mut.result.now
    at.stands c.index_mut.ensures.value in
    let there = ap (λ l. slice_get l c.args.chosen.node) c.as_slice.ensures.value ∙ at.stands in
    record {
      offered = [];
      went = c.in-Err-finish.ensures.uncalled;
      so = λ received.
          is_not_taken g.D.Disk calls_as_port
          (record {
            nodes = c.args.nodes.now.items;
            sent = c.args.sent.now;
            events = c.args.events.now.items;
            pending = c.args.pending.now;
            port = record { received = received; offered = [] };
          })
          (record {
            nodes = slice_set c.args.nodes.now.items c.args.chosen.node c.finish.new.node;
            sent = c.cut_back.new.self;
            events = c.stopped.new.events.items;
            pending = c.put_back.new.self;
            port = record { received = received; offered = [] };
          })
          c.args.chosen at c.in-Ok.grown.recorded c.in-Ok.ensures.recorded c.host_fits.ensures
          (c.in-Ok.ensures.logged at.node there) c.finish.new.node refl c.in-Err-finish.fault
          c.stopped.result
          (subst (λ n. HasNotTaken g.D.Disk n
          c.finish.new.node c.args.chosen.readied.ready c.in-Err-finish.fault) (sym here)
          c.in-Err-finish.ensures.refused)
          (subst (λ l. StopsAs c.args.chosen.node c.in-Ok.grown.recorded.stop l
          c.stopped.new.events.items c.in-Err-finish.fault c.stopped.result) c.in-Ok.ensures.events
          c.stopped.ensures)
          (c.cut_back.ensures ∙ c.in-Ok.ensures.count)
          (c.put_back.ensures ∙ c.in-Ok.ensures.before.0) refl;
    }

pub returns-in-Err-clause-calls : goal.returns-in-Err-clause-calls
returns-in-Err-clause-calls g c =
    rw c.from.ensures (record {
      offered = [];
      went = refl;
      so = λ received. record {
        nodes = inl refl;
        sent = c.in-Err.ensures.same.0;
        events = c.grown_for.ensures.events;
        pending = c.in-Err.ensures.same.1;
        offers = refl;
      };
    })

-- ---- below its position, all of each node's queued units failed

pub returns-in-Ok-finish-clause-below : goal.returns-in-Ok-finish-clause-below
returns-in-Ok-finish-clause-below g c =
    let nodes = c.args.nodes.now.items in
    let k = c.args.chosen.node in
    let ready = c.args.chosen.readied.ready in
    let at = c.requires.readied in
    let here = index_is nodes k at.node c.index_mut.result.now at.stands c.index_mut.ensures.value in
    let there = ap (λ l. slice_get l k) c.as_slice.ensures.value ∙ at.stands in
    let took = subst (λ n. HasTaken g.D.Disk n c.finish.new.node ready)
    (sym here) c.in-Ok-finish.ensures.taken in
    taken_each nodes c.args.pending.now c.args.unfailed.now c.requires.below k at.node at.stands
    c.finish.new.node ready c.grown_for.new.pending (asked_by c.args.chosen.readied.act)
    c.unfailed_after.result took.state (c.in-Ok.ensures.pending at.node there)
    (c.unfailed_after.ensures.taken at.node.node c.args.pending.now
    (c.in-Ok.ensures.logged at.node there).node (c.requires.below k at.node at.stands))

pub returns-in-Err-finish-clause-below : goal.returns-in-Err-finish-clause-below
returns-in-Err-finish-clause-below g c =
    let nodes = c.args.nodes.now.items in
    let k = c.args.chosen.node in
    let ready = c.args.chosen.readied.ready in
    let at = c.requires.readied in
    let here = index_is nodes k at.node c.index_mut.result.now at.stands c.index_mut.ensures.value in
    let left = subst (λ n. HasNotTaken g.D.Disk n
    c.finish.new.node ready c.in-Err-finish.fault) (sym here) c.in-Err-finish.ensures.refused in
    not_taken_each nodes c.args.pending.now c.args.unfailed.now c.requires.below k at.node at.stands
    c.finish.new.node c.put_back.new.self (notes_held (note_in ready.step))
    c.unfailed_after.result
    (member_stays g.D.Disk at.node c.finish.new.node
    ready c.in-Err-finish.fault left)
    (c.put_back.ensures ∙ c.in-Ok.ensures.before.0) c.unfailed_after.ensures.value

pub returns-in-Err-clause-below : goal.returns-in-Err-clause-below
returns-in-Err-clause-below g c =
    let at = c.requires.readied in
    lowered_each c.args.nodes.now.items c.args.pending.now c.args.unfailed.now c.requires.below
    c.args.chosen.node at.node at.stands c.grown_for.new.pending
    (notes_held (note_in c.args.chosen.readied.ready.step)) c.unfailed_after.result
    c.in-Err.ensures.same.1 c.unfailed_after.ensures.value

use Rattle.std.proofs.Common.{◌∙◌, arith, refl, subst, sym}
use Rattle.std.proofs.lemmas.List.{length-set}
use Rattle.std.proofs.lemmas.Option.{slice_get_within}
use Rattle.std.proofs.lemmas.Result.{err_from_is_err_and}
use Rattle.simulator.proofs.PutBack.{one_there, stands_at}
use Rattle.simulator.specs.inside.Stops.{IsReady}
use Rattle.simulator.proofs.stops.stop_behind.Goals as goal

pub index_mut-requires : goal.index_mut-requires
index_mut-requires c =
    let nodes = c.args.nodes.now.items in
    let within = slice_get_within nodes c.args.place c.requires.node c.requires.stands in
    omega (arith, c.args.nodes.now.ok.0, within)

pub finish_in_slot-requires : goal.finish_in_slot-requires
finish_in_slot-requires c =
    let nodes = c.args.nodes.now.items in
    let within = slice_get_within nodes c.args.place c.requires.node c.requires.stands in
    let stands = stands_at nodes c.args.place c.index_mut.result.now c.index_mut.ensures.value within in
    subst (λ node. IsReady node c.args.ready)
    (one_there nodes c.args.place c.requires.node c.index_mut.result.now c.requires.stands stands)
    c.requires.ready

pub returns-in_err-finish_in_slot-clause-none : goal.returns-in_err-finish_in_slot-clause-none
returns-in_err-finish_in_slot-clause-none c =
    let nodes = c.args.nodes.now.items in
    let within = slice_get_within nodes c.args.place c.requires.node c.requires.stands in
    let p = err_from_is_err_and c.from_residual.result c.from_residual.ensures.1 in
    rw (p.1, p.2) (record {
      node = c.index_mut.result.now;
      stood = stands_at nodes c.args.place c.index_mut.result.now c.index_mut.ensures.value within;
      then = c.finish_in_slot.new.slot;
      none = c.in_err-finish_in_slot.ensures.none;
      nodes = refl;
    })

pub stop-requires : goal.stop-requires
stop-requires c =
    let nodes = c.args.nodes.now.items in
    let within = slice_get_within nodes c.args.place c.requires.node c.requires.stands in
    omega (arith, within, length-set nodes c.args.place c.finish_in_slot.new.slot)

pub returns-clause-stopped : goal.returns-clause-stopped
returns-clause-stopped c =
    let nodes = c.args.nodes.now.items in
    let within = slice_get_within nodes c.args.place c.requires.node c.requires.stands in
    record {
      node = c.index_mut.result.now;
      stood = stands_at nodes c.args.place c.index_mut.result.now c.index_mut.ensures.value within;
      then = c.finish_in_slot.new.slot;
      took = c.in_ok-finish_in_slot.ensures.took;
      stopped = c.stop.ensures;
    }

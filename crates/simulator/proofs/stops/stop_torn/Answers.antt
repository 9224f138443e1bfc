use Rattle.std.proofs.Common.{◌∙◌, ap, length, refl}
use Rattle.simulator.proofs.PutBack.{one_there, put_back, stands_at}
use Rattle.simulator.proofs.stops.stop_torn.Goals as goal
use Rattle.simulator.specs.declared.slot.Slot.TheVariants.{Down}
use Rattle.simulator.specs.declared.slot.DownNode.{DownNode}
use Rattle.simulator.specs.inside.Standing.{node_view}

pub returns-clause-stopped : goal.returns-clause-stopped
returns-clause-stopped c =
    let done = rw (c.unwrap.ensures, c.remove.ensures.items) at c.insert.ensures.items in
    let down : DownNode = record {
      disk = c.in_ok-disk.disk;
      noted = c.into_down-noted.result.noted;
      behind = length c.args.torn.now;
    } in
    let xs = c.args.nodes.now.items in
    let here = stands_at xs c.args.place c.index.result.now c.index.ensures c.requires in
    let same = one_there xs c.args.place c.remove.result c.index.result.now
    (stands_at xs c.args.place c.remove.result c.remove.ensures.value c.requires) here in
    record {
      node = c.index.result.now;
      stood = here;
      down = down;
      nodes = done ∙ put_back xs c.args.place (Down down) c.requires;
      disk = c.in_ok-disk.ensures;
      notes = c.into_down-noted.ensures.notes ∙ ap (λ x. (node_view x).notes) same;
      behind = refl;
    }

use Rattle.std.proofs.Common.{◌∙◌, ap, sym, Some}
use Rattle.std.proofs.lemmas.Option.{slice_get-get_or}
use Rattle.simulator.proofs.PutBack.{put_back}
use Rattle.simulator.proofs.stops.stop.Goals as goal
use Rattle.simulator.specs.declared.slot.Slot.TheVariants.{Down}

pub returns : goal.returns
returns c =
    let done = rw (c.unwrap.ensures, c.remove.ensures.items) at c.insert.ensures.items in
    record {
      node = c.remove.result;
      stood = slice_get-get_or c.args.nodes.now.items c.args.place c.remove.result c.requires
          ∙ ap Some (sym c.remove.ensures.value);
      down = c.into_down-down.result;
      nodes = done ∙ put_back c.args.nodes.now.items c.args.place
          (Down c.into_down-down.result) c.requires;
      disk = c.into_down-down.ensures.disk;
      notes = c.into_down-down.ensures.notes;
      behind = c.into_down-down.ensures.behind;
    }

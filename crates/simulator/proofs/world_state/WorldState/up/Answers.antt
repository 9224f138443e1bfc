use Rattle.std.proofs.Common.{Some, ap, refl, ◌∙◌}
use Rattle.std.proofs.lemmas.Option.{slice_get_read}
use Rattle.simulator.proofs.Shown.{node_shown, up_within}
use Rattle.simulator.proofs.world_state.WorldState.up.Goals as goal

pub returns : goal.returns
returns c = λ x at.
    let s = c.args.self.now in
    let within = up_within s.nodes.items c.args.node c.requires.up in
    let there = slice_get_read s.nodes.items _ c.args.node c.index.result.now refl within
    c.index.ensures in
    node_shown s c.requires.standing c.args.node x at c.in-Up.node (there ∙ ap Some c.in-Up.is)

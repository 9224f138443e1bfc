use Rattle.std.proofs.Common.{◌≡◌, ◌<◌, ◌∙◌, Some, ap, arith, length, refl, slice_get, subst, sym}
use Rattle.std.proofs.lemmas.List.{length-map}
use Rattle.std.proofs.lemmas.Option.{slice_get_read}
use Rattle.world.specs.World.{WorldNode}
use Rattle.simulator.proofs.Shown.{file_shown}
use Rattle.simulator.specs.History.{History, file_length}
use Rattle.simulator.specs.inside.Standing.{history_of, node_view}
use Rattle.simulator.proofs.running_world.World.log_len.Goals as goal

pub returns : goal.returns
returns c =
    let s = c.self.inside.state in
    let k = c.args.node in
    let counted : k < length (history_of c.self.inside).world.nodes =
    subst (λ (h : History). k < length h.world.nodes) (sym c.self.view_is) c.requires in
    let within : k < length s.nodes.items = omega
    (arith, counted, length-map s.nodes.items node_view) in
    let there = slice_get_read s.nodes.items _ k c.index.result.now refl within c.index.ensures in
    subst (λ (h : History). (x : WorldNode) → slice_get h.world.nodes k ≡ Some x
    → length c.file.result.now ≡ file_length h.world k x) c.self.view_is
    (λ x at. ap length c.file.ensures ∙ file_shown s c.self.invariant.standing k x at
    c.index.result.now there)

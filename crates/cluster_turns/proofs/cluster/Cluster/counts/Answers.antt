use Rattle.std.proofs.Common.{◌≡◌, ap, length, refl, slice_get, sym, ◌∙◌, Some}
use Rattle.std.proofs.lemmas.Option.{slice_get_read}
use Rattle.cluster_turns.proofs.Standing.{here_up}
use Rattle.cluster_turns.specs.State.{ClusterState}
use Rattle.cluster_turns.proofs.cluster.Cluster.counts.Goals as goal

pub returns : goal.returns
returns g c =
    let n = c.in_ok-node.node.now in
    let nodes = c.deref.result.now in
    let is = c.in_ok-node.ensures.lookup in
    let at : slice_get c.args.self.now.nodes c.args.node ≡ Some n =
    ap (λ (s : ClusterState g.row.D.Denot g.row.P.Denot). slice_get s.nodes c.args.node) (sym c.self.view_is)
    ∙ ap (λ ns. slice_get ns c.args.node) (sym c.deref.ensures.value)
    ∙ slice_get_read nodes (length nodes) c.args.node n refl is.3.0 is.1 in
    (n.node.member, here_up c.args.self.now c.args.node n at (sym c.if-is_stopped.ensures), c.counts.ensures.counts)

use Rattle.node.proofs.Pieces.{others_kept}
use Rattle.node.proofs.ranges.Leaving.{other_pieces}
use Rattle.node.proofs.node.Node.drop_strange.Goals as goal

pub invariant_of-self : goal.invariant_of-self
invariant_of-self g c =
    let is = c.self.invariant in
    rw c.drop_pieces.ensures (record {
      node = other_pieces _ _ is.node (others_kept _ c.args.header.now _ (record { each = is.node.pieces; once = is.node.once; let_through = is.node.let_through }));
      together = is.together;
      owner = is.owner;
      end = is.end;
    })

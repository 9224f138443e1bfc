use Rattle.std.proofs.Common.{inr}
use Rattle.dpbn_node.specs.Keys.{AnyKeyFile}
use Rattle.dpbn_node.specs.Node.{IsTold}
use Rattle.dpbn_node.specs.Runs.{run_at}
use Rattle.dpbn_node.proofs.answering.node_of_words.Goals as goal

pub returns-clause-refused : goal.returns-clause-refused
returns-clause-refused g c =
    let place = c.in_ok-place.place in
    let of = run_at c.in_ok-tree.tree c.in_ok-given.given.weights place in
    let is_of : IsTold AnyKeyFile c.args.files.now c.args.peers.now c.args.run.now of = record {
      described = c.in_ok-tree.ensures.ok;
      told = c.in_ok-given.ensures.weights;
      listen = c.in_ok-place.ensures.listen;
      has_key = c.in_ok-place.ensures.key;
      open_to = c.in_ok-place.ensures.open_to;
      continued = c.in_ok-place.ensures.continued;
    } in
    inr (inr (inr (of, is_of, c.in-Err.ensures.refused)))

use Rattle.std.proofs.Common.{rules, ◌<◌, length, map}
use Rattle.std.proofs.lemmas.List.Elements.{All-contains}
use Rattle.engine.specs.Tree.{path_at}
use Rattle.engine.proofs.InOrder.{paths_differ, sorted_as_set}
use Rattle.member.proofs.packages.in_order.Goals as goal

pub returns : goal.returns
returns c =
    let tree = c.args.tree.now in
    let ps = c.args.positions.now in
    let asked = c.requires.positions in
    sorted_as_set (λ path. path.now) c.in_ok-paths.paths.items c.sort.new.self.items
    (map (path_at tree) ps) c.in_ok-paths.ensures
    (paths_differ tree c.requires.is_tree ps
    (λ p member. All-contains (λ q. q < length tree) ps p asked.within member) asked.rising)
    c.in_ok-sort.ensures.permutation c.in_ok-sort.ensures.sorted

pub returns-in_err-paths : goal.returns-in_err-paths
returns-in_err-paths c = search rules

pub returns-in_err-sort : goal.returns-in_err-sort
returns-in_err-sort c = search rules

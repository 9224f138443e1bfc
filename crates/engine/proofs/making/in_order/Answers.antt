use Rattle.std.proofs.Common.{◌∙◌, None, Some, append-nil, get_or, map, ap, sym, arith}
use Rattle.std.proofs.lemmas.List.{take_all}
use Rattle.std.proofs.lemmas.List.Elements.{Contains-get_or}
use Rattle.std.specs.Prelude.{filter_map}
use Rattle.listing.specs.Tree.{path_at, position_of}
use Rattle.engine.proofs.InOrder.{given_ref, paths_differ, sorted_as_set}
use Rattle.engine.proofs.making.in_order.Goals as goal
use Rattle.engine.proofs.making.in_order.Goals.{in-Some+in_ok-push, in_default}

pub paths_at-requires : goal.paths_at-requires
paths_at-requires c = λ k d lt. c.requires.alike.listed (get_or c.args.packages.now k d) (Contains-get_or c.args.packages.now k d lt)

pub loop-path-preserved : goal.loop-path-preserved
loop-path-preserved c =
    let find = position_of c.args.tree.now in
    let items = c.as_slice-path-items.result.now in
    let k = c.loop-path.path-index in
    let before = c.loop-path.sorted.items in
    let after = c.match-position.sorted.items in
    elim c.match-position.branch [
      | in-Some+in_ok-push w ↦
          given_ref (λ path. path.now) find items k c.path-item.result (Some w.in-Some.position) before after c.loop-path-test.true c.path-item.is
          (sym c.position.ensures ∙ w.in-Some.is) c.loop-path.invariant (ap (λ v. v.items) w.sorted-is ∙ w.in_ok-push.ensures.items)
      | in_default w ↦
          given_ref (λ path. path.now) find items k c.path-item.result None before after c.loop-path-test.true c.path-item.is
          (sym c.position.ensures ∙ w.in_default.is) c.loop-path.invariant (ap (λ v. v.items) w.sorted-is ∙ sym (append-nil before))
    ]

pub returns : goal.returns
returns c =
    let tree = c.args.tree.now in
    let ps = c.args.packages.now in
    let items = c.as_slice-path-items.result.now in
    let sorted = c.sort.new.self.items in
    let set =
    sorted_as_set (λ path. path.now) c.in_ok-paths.paths.items sorted (map (path_at tree) ps) c.in_ok-paths.ensures
    (paths_differ tree c.requires.is_tree ps c.requires.alike.listed c.requires.alike.rising) c.in_ok-sort.ensures.permutation c.in_ok-sort.ensures.sorted in
    c.loop-path.invariant
    ∙ ap (λ xs. filter_map (position_of tree) (map (λ path. path.now) xs)) (take_all c.loop-path.path-index items (omega (arith, c.loop-path-test.false)) ∙ c.as_slice-path-items.ensures.value)
    ∙ ap (filter_map (position_of tree)) set

use Rattle.std.proofs.Common.{◌∙◌, [], ap}
use Rattle.graph.specs.inside.Links.{linked_lists}
use Rattle.graph.proofs.Links.{linked_lists-none}
use Rattle.graph.proofs.naming.Naming.new.Goals as goal

pub returns : goal.returns
returns c =
    ap (λ links. linked_lists links c.in_ok-latest.latest.items) c.new-links.ensures.items
    ∙ ap (linked_lists []) (c.in_ok-latest.ensures.items_if_clones_equal (λ y e. e))
    ∙ linked_lists-none c.args.len

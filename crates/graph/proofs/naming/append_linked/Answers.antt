use Rattle.std.proofs.Common.{◌≡◌, ◌+◌, ◌-◌, ◌≤◌, ◌<◌, ◌++◌, ◌∷◌, ◌∙◌, [], ap, append_assoc, arith, length, sym}
use Rattle.graph.specs.inside.Links.{link_behind, linked_list}
use Rattle.graph.proofs.Links.{linked_list-more}
use Rattle.graph.proofs.naming.append_linked.Goals as goal

pub links-preserved : goal.links-preserved
links-preserved c =
    let links = c.args.links.now in
    let k = c.links.left - 1 in
    let left : c.links.left ≡ k + 1 = omega (arith, c.links-test.true) in
    let inside : k < length links = omega (arith, left, c.links.invariant.within) in
    let earlier : (link_behind links k).earlier ≤ k = c.requires.linked k inside in
    let rest = linked_list links (link_behind links k).earlier in
    record {
      within = omega (arith, earlier, inside);
      named = ap (λ names. names ++ rest) c.in_ok-push.ensures.items
          ∙ append_assoc c.links.names.items ((link_behind links k).who ∷ []) rest
          ∙ ap (λ ps. c.links.names.items ++ ps) (sym (linked_list-more links k c.links.left left earlier))
          ∙ c.links.invariant.named;
    }

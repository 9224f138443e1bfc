use Rattle.std.proofs.Common.{◌≡◌, ◌+◌, ◌++◌, ◌∷◌, ◌∙◌, [], ap, arith, get_or, length, sym, take}
use Rattle.std.proofs.lemmas.List.{map_more}
use Rattle.graph.specs.inside.Links.{linked_list, linked_lists}
use Rattle.graph.proofs.Ranges.{AreWithin-more, parts-more}
use Rattle.graph.proofs.naming.Naming.turned.Goals as goal

pub loop-latest-preserved : goal.loop-latest-preserved
loop-latest-preserved c =
    let links = c.self.inside.links.items in
    let latest = c.deref-latest-items.result.now in
    let same : latest ≡ c.self.inside.latest.items = c.deref-latest-items.ensures.value in
    let i = c.loop-latest.latest-index in
    let names = c.loop-latest.names.items in
    let ranges = c.loop-latest.ranges.items in
    let more = linked_list links (get_or latest i 0) in
    let is : c.append_linked.new.names.items ≡ names ++ more =
    c.in_ok-append_linked.ensures ∙ ap (λ ls. names ++ linked_list ls (get_or latest i 0)) c.as_slice.ensures.value in
    let from : c.in_ok-from.from ≡ length names = omega (arith, c.in_ok-from.ensures, c.len-in-loop-latest.ensures, c.loop-latest.names.ok) in
    let to : c.in_ok-to.to ≡ length (names ++ more) =
    omega (arith, c.in_ok-to.ensures, c.len-in-loop-latest-2.ensures, c.append_linked.new.names.ok, ap length is) in
    rw (c.in_ok-push.ensures.items, is) (record {
      within = AreWithin-more names more ranges _ c.loop-latest.invariant.within from to;
      named = parts-more names more ranges _ c.loop-latest.invariant.within from to
          ∙ ap (λ lists. lists ++ more ∷ []) (c.loop-latest.invariant.named ∙ ap (λ hs. linked_lists links (take i hs)) (sym same))
          ∙ sym (map_more (linked_list links) latest i 0 c.loop-latest-test.true)
          ∙ ap (λ hs. linked_lists links (take (i + 1) hs)) same;
    })

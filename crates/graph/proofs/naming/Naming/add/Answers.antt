use Rattle.std.proofs.Common.{◌≡◌, ◌+◌, ◌<◌, ◌∙◌, ℕ, ap, arith, get_or, length, nat_eq, take}
use Rattle.std.proofs.lemmas.List.{get_or_read, length-map, length-set, length_push}
use Rattle.graph.specs.declared.naming.Link.{Link}
use Rattle.graph.specs.Lists.{list_at, times}
use Rattle.graph.specs.inside.Links.{linked_list, linked_lists}
use Rattle.graph.proofs.Lists.{list_at-more, times-added, times-more}
use Rattle.graph.proofs.Links.{AreLinked-more, linked_lists-more}
use Rattle.graph.proofs.naming.Naming.add.Goals as goal

pub loop-other-preserved : goal.loop-other-preserved
loop-other-preserved c =
    let o : ℕ = get_or c.args.named.now c.loop-other.other-index 0 in
    let links = c.loop-other.self-inside.links.items in
    let latest = c.loop-other.self-inside.latest.items in
    let link : Link = record { who = c.args.position; earlier = c.index_mut-latest.result.now } in
    let are = c.loop-other.invariant.linked in
    let inside : o < length latest = omega (arith, c.requires c.loop-other.other-index 0 c.loop-other-test.true, c.loop-other.invariant.each) in
    let earlier : c.index_mut-latest.result.now ≡ get_or latest o 0 = get_or_read latest o c.index_mut-latest.result.now inside c.index_mut-latest.ensures.value 0 in
    let len : c.len-in-loop-other.result ≡ length links + 1 = omega (arith, c.len-in-loop-other.ensures, c.push_reserved.ensures.len, c.loop-other.self-inside.links.ok) in
    rw (c.push_reserved.ensures.items, len) (record {
      linked = AreLinked-more are o inside link earlier;
      each = length-set latest o _ ∙ c.loop-other.invariant.each;
      named = λ d x. ap (λ lists. times x (list_at lists d)) (linked_lists-more are o inside link earlier)
          ∙ list_at-more (linked_lists links latest) o c.args.position d x (omega (arith, inside, length-map latest (linked_list links)))
          ∙ times-added (nat_eq c.args.position x) _ _ (times d (take c.loop-other.other-index c.args.named.now)) _ _ (c.loop-other.invariant.named d x)
          (times-more d c.args.named.now c.loop-other.other-index c.loop-other-test.true);
      len = omega (arith, length_push links link, c.loop-other.invariant.len);
      room = c.push_reserved.ensures.capacity ∙ c.loop-other.invariant.room;
    })

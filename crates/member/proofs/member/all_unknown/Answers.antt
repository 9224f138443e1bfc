use Rattle.std.proofs.Common.{◌∷◌, ◌++◌, ◌∙◌, [], ap, map}
use Rattle.std.proofs.lemmas.List.{map-append, replicate_more}
use Rattle.claims.specs.Member.{no_facts}
use Rattle.member.specs.shared.Fields.{facts_of_known}
use Rattle.member.proofs.member.all_unknown.Goals as goal

pub loop-unit-preserved : goal.loop-unit-preserved
loop-unit-preserved c =
    ap (map facts_of_known) c.in_ok-push.ensures.items
    ∙ (map-append facts_of_known c.loop-unit.known.items (c.nothing.result ∷ [])
    ∙ ((λ i. c.loop-unit.invariant i ++ c.nothing.ensures i ∷ [])
    ∙ replicate_more c.loop-unit._unit no_facts))

use Rattle.std.proofs.Common.{◌≡◌, ◌++◌, take, ap, subst, ◌∙◌, arith}
use Rattle.std.specs.List.{flat_map}
use Rattle.std.proofs.lemmas.List.{take_all}
use Rattle.sha2.specs.Hashers.{Holds256}
use Rattle.listing.specs.Digest.{digest_text, package_lines, packages_text}
use Rattle.listing.specs.inside.Groups.{lines_of_groups}
use Rattle.listing.proofs.GroupLines.{digest_is}
use Rattle.listing.proofs.tree.Tree.digest.Goals as goal

pub returns : goal.returns
returns c =
    let tree = c.args.self.now in
    let end : take c.loop-position.position tree ≡ tree =
    take_all c.loop-position.position tree (omega (arith, c.loop-position-test.false, c.loop-position.auto.position-end, c.len-position-end.ensures.count)) in
    let packages : Holds256 c.loop-position.hasher (packages_text tree) =
    subst (λ xs. Holds256 c.loop-position.hasher (flat_map (package_lines tree) xs)) end c.loop-position.invariant in
    let text : packages_text tree ++ lines_of_groups c.groups.result.now ≡ digest_text tree =
    ap (λ gs. packages_text tree ++ lines_of_groups gs) c.groups.ensures ∙ digest_is tree in
    c.finalize.ensures (digest_text tree) (subst (Holds256 c.put_lines.new.hasher) text (c.put_lines.ensures.more (packages_text tree) packages))

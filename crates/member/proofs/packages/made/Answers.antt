use Rattle.std.proofs.lemmas.Grind.{common_steps}
use Rattle.std.proofs.Common.{◌≡◌, ◌∙◌, ◌∷◌, [], List, Option, Some, sym, ap, arith, map}
use Rattle.std.specs.Prelude.{is_some, unwrap_or}
use Rattle.std.specs.List.{slice_index_or}
use Rattle.std.specs.Str.{bytes_eq}
use Rattle.std.proofs.lemmas.List.{map-append}
use Rattle.indexmap.specs.IndexMap.{get}
use Rattle.engine.specs.Tree.{path_at}
use Rattle.package_record.specs.Content.{NamedFile}
use Rattle.member.specs.inside.Packages.{made_at, made_of}
use Rattle.member.proofs.MadePackages.{apart, found_more, made_more}
use Rattle.member.proofs.packages.made.Goals as goal

pub loop-position-preserved : goal.loop-position-preserved
loop-position-preserved c =
    let tree = c.args.tree.now in
    let ps = c.args.positions.now in
    let i = c.loop-position.position-index in
    let lt = c.loop-position-test.true in
    let files = get bytes_eq c.args.files.now in
    let before = c.loop-position.invariant in
    let given : files (path_at tree (slice_index_or ps i 0)) ≡ Some c.in-Some.given =
    sym (before.left i (omega arith) lt)
    ∙ (ap (get bytes_eq c.loop-position.files) (sym c.path.ensures)
    ∙ (sym c.swap_remove.ensures.value ∙ c.in-Some.is)) in
    let new = c.in_ok-package_at.field-0 in
    let told = c.in_ok-package_at.ensures in
    let is : made_of new ≡ made_at tree files (slice_index_or ps i 0) =
    λ j. record {
      path = told.path j;
      name = told.name j;
      run = told.run j;
      files = (told.files ∙ ap (λ o. unwrap_or o []) (sym given)) j;
    } in
    record {
      found = found_more tree files ps i lt before.found
          (ap (λ (o : Option (List NamedFile)). is_some o) given);
      made = ap (map made_of) c.in_ok-push.ensures.items
          ∙ (map-append made_of c.loop-position.packages.items (new ∷ [])
          ∙ made_more tree files ps i lt _ (made_of new) before.made is);
      left = λ k above within.
          c.swap_remove.ensures.updates.2 (path_at tree (slice_index_or ps k 0))
          (ap (λ t. bytes_eq t (path_at tree (slice_index_or ps k 0))) c.path.ensures
          ∙ apart tree ps i k c.requires.order (omega (arith, above)) within)
          ∙ before.left k (omega (arith, above)) within;
    }

pub returns : goal.returns
returns c = grind (arith, common_steps)

pub returns-in_default : goal.returns-in_default
returns-in_default c = grind (arith, common_steps)

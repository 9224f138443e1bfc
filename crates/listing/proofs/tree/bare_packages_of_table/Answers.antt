use Rattle.std.proofs.Common.{◌≡◌, length, get_or, ap, sym, subst, ◌∙◌, arith}
use Rattle.std.proofs.lemmas.List.{length-map}
use Rattle.listing.specs.inside.BarePackages.{HasNumbersBelow, resolution_of_word}
use Rattle.listing.proofs.BarePackageLemmas.{within_row}
use Rattle.listing.proofs.tree.bare_packages_of_table.Goals as goal

pub bare_packages_of-requires : goal.bare_packages_of-requires
bare_packages_of-requires c = λ k d l.
    let table = c.args.table.now in
    let words = table.dependencies in
    let rows = c.as_slice-rows.result.now in
    let same : rows ≡ table.rows.items = c.as_slice-rows.ensures.value in
    let size : length words ≡ length c.as_slice.result.now =
    sym (ap length c.as_slice.ensures.value ∙ ap length c.in_ok-resolutions.ensures ∙ length-map words (resolution_of_word table.paths.keys rows)) in
    let below : HasNumbersBelow (length words) (get_or table.rows.items k d) =
    within_row c.requires.0 words _ _ (c.requires.1.each k d (omega (arith, l, ap length same, c.requires.1.lengths))) in
    subst (λ n. HasNumbersBelow n (get_or rows k d)) size (subst (λ rs. HasNumbersBelow (length words) (get_or rs k d)) (sym same) below)

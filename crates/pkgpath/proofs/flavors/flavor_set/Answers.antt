use Rattle.std.proofs.Common.{◌≡◌, ℕ, Ok, eqb, filter, map, rules, tests, ap, ◌∙◌, Bor}
use Rattle.std.proofs.lemmas.Iterator.Consumers.{YieldsList-at, YieldsList-from_filter, map_from_collect}
use Rattle.std.proofs.lemmas.Iterator.Splits.{YieldsList-from_slice_split}
use Rattle.faults.specs.Bytes.{Text, comma}
use Rattle.faults.specs.Pieces.{pieces_at, set_of}
use Rattle.faults.proofs.Sets.{set_by_sorting}
use Rattle.pkgpath.specs.PkgPath.{is_flavor}
use Rattle.pkgpath.proofs.flavors.flavor_set.Goals as goal

pub returns : goal.returns
returns c =
    let flavors = c.in_ok-flavors.flavors.items in
    let collected : map (λ (x : Bor Text). x.now) flavors ≡ filter is_flavor (pieces_at comma c.args.parts.now) =
    map_from_collect {E = ℕ} (Ok c.in_ok-flavors.flavors) c.in_ok-flavors.ensures.ran
    (YieldsList-from_filter _ is_flavor (YieldsList-at c.filter.ensures.source (YieldsList-from_slice_split _ (λ b. eqb b 44) c.args.parts.now c.split.ensures.rest c.split.ensures.done c.split.ensures.closure (λ x b q k. search (rules, tests)))) c.filter.ensures.closure (λ x b q k. search (rules, tests))) in
    set_by_sorting (λ (x : Bor Text). x.now) flavors _ _ c.sort_unstable.ensures.permutation c.sort_unstable.ensures.sorted c.dedup.ensures.filtered
    ∙ ap set_of collected

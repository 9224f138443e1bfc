use Rattle.std.proofs.Common.{◌≡◌, None, Some, is_some, if◌then◌else◌, length, ap, sym, subst, ◌∙◌, inl, inr, arith}
use Rattle.std.proofs.lemmas.List.Elements.{All-get_or}
use Rattle.std.proofs.lemmas.Result.{err_from_is_err_and}
use Rattle.listing.specs.inside.BarePackages.{HasNumbersBelow}
use Rattle.listing.specs.inside.Table.{row_fault}
use Rattle.listing.specs.declared.ListingFault.TheVariants.{NoName}
use Rattle.listing.proofs.First.{given_at, none_given_at_all, none_given_more}
use Rattle.listing.proofs.BarePackageLemmas.{bare_package_more}
use Rattle.listing.proofs.bare_package.bare_packages_of.Goals as goal

pub of_row-requires : goal.of_row-requires
of_row-requires c =
    let row = c.row-item.result in
    let below = HasNumbersBelow (length c.args.resolutions.now) in
    subst below (sym c.row-item.is) (All-get_or below c.args.rows.now c.loop-row.row-index row c.loop-row-test.true c.requires)

pub loop-row-preserved : goal.loop-row-preserved
loop-row-preserved c =
    let rows = c.args.rows.now in
    let k = c.loop-row.row-index in
    let row = c.row-item.result in
    let bare_package = c.in_ok-of_row.ensures in
    let more =
    bare_package_more c.args.resolutions.now rows c.loop-row.bare_packages.items c.push.new.self.items k row c.in_ok-of_row.field-0
    c.row-item.is c.loop-row-test.true bare_package c.in_ok-push.ensures.items c.loop-row.invariant.counted c.loop-row.invariant.each in
    record {
      named = none_given_more row_fault rows k row c.loop-row-test.true c.loop-row.invariant.named
          (ap row_fault (sym c.row-item.is) ∙ ap (λ o. if is_some o then None else Some (NoName row.line)) bare_package.name);
      counted = more.0;
      each = more.1;
    }

pub returns-in_err-of_row : goal.returns-in_err-of_row
returns-in_err-of_row c =
    let row = c.row-item.result in
    let e = c.in_err-of_row.field-0.0 in
    let p = err_from_is_err_and c.from_residual-in_err-of_row.result c.from_residual-in_err-of_row.ensures.1 in
    rw (p.1, p.2) (elim c.in_err-of_row.ensures [
      | inl m ↦ inl m
      | inr bad ↦ inr (given_at row_fault c.args.rows.now c.loop-row.row-index row e c.loop-row-test.true c.loop-row.invariant.named (ap row_fault (sym c.row-item.is) ∙ bad))
    ])

pub returns : goal.returns
returns c =
    let rows = c.args.rows.now in
    let k = c.loop-row.row-index in
    let size : length c.loop-row.bare_packages.items ≡ length rows = omega (arith, c.loop-row.invariant.counted, c.loop-row-test.false, c.loop-row.auto.row-index-end) in (
      none_given_at_all row_fault rows k (omega (arith, c.loop-row-test.false)) c.loop-row.invariant.named,
      record {
        lengths = size;
        each = λ i d e within. c.loop-row.invariant.each i d e (omega (arith, within, size, c.loop-row.invariant.counted));
      },
    )

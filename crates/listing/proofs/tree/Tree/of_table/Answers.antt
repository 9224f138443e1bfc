use Rattle.std.proofs.Common.{ap, map, length, refl, sym, subst, ◌∙◌, arith, inl, inr}
use Rattle.std.proofs.lemmas.Result.{err_from_is_err_and}
use Rattle.listing.specs.inside.BarePackages.{resolutions_in}
use Rattle.listing.specs.Rules.{group_by}
use Rattle.listing.specs.Tree.{IsTree}
use Rattle.listing.proofs.BarePackageLemmas.{is_tree, named_by, tree_is}
use Rattle.listing.proofs.Rows.{nameless_by_rows}
use Rattle.listing.proofs.tree.Tree.of_table.Goals as goal

pub of-requires : goal.of-requires
of-requires c = omega (arith, c.requires.1.few, ap length c.as_slice.ensures.keys)

pub invariant_of-result : goal.invariant_of-result
invariant_of-result c =
    let table = c.args.table in
    let keys = table.paths.keys in
    let rows = table.rows.items in
    let bare_packages = c.in_ok-bare_packages.bare_packages.items in
    let made = c.in_ok-bare_packages.ensures.1 in
    let tree = tree_is (group_by c.args.is_single) c.requires.0 table.dependencies keys rows (resolutions_in table) bare_packages c.requires.1 refl made.lengths made.each in (
      made.lengths ∙ c.requires.1.lengths,
      subst IsTree (sym tree)
          (is_tree c.args.is_single c.requires.0 table.dependencies keys rows c.requires.1 (named_by (resolutions_in table) rows bare_packages made.lengths made.each)),
      c.in_ok-groups.ensures ∙ ap (map (group_by c.args.is_single)) c.as_slice.ensures.keys,
    )

pub returns-in_err-bare_packages : goal.returns-in_err-bare_packages
returns-in_err-bare_packages c = λ settings h.
    let table = c.args.table in
    let p = err_from_is_err_and c.from_residual.result c.from_residual.ensures.1 in
    rw (p.1, p.2) (elim c.in_err-bare_packages.ensures [
      | inl m ↦ inl m
      | inr bad ↦ inr (sym (nameless_by_rows settings table.dependencies table.paths.keys table.rows.items h) ∙ bad)
    ])

pub returns : goal.returns
returns c = λ settings h.
    let table = c.args.table in
    let keys = table.paths.keys in
    let rows = table.rows.items in
    let made = c.in_ok-bare_packages.ensures.1 in (
      sym (nameless_by_rows settings table.dependencies keys rows h) ∙ c.in_ok-bare_packages.ensures.0,
      tree_is (group_by c.args.is_single) settings table.dependencies keys rows (resolutions_in table) c.in_ok-bare_packages.bare_packages.items h refl made.lengths made.each,
    )

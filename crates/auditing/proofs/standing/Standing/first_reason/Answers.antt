use Rattle.std.proofs.Common.{◌∙◌, sym, subst}
use Rattle.std.proofs.lemmas.Bool.{iff_false}
use Rattle.listing.specs.Tree.{name_at}
use Rattle.auditing.specs.Allowed.{IsNew}
use Rattle.engine.proofs.Places.{listed_at, same_bytes}
use Rattle.auditing.proofs.Reasons.{first_reason_by}
use Rattle.auditing.proofs.Signatures.{none_part, not_new, some_part}
use Rattle.auditing.proofs.standing.Standing.first_reason.Goals as goal

pub returns-then-is_some : goal.returns-then-is_some
returns-then-is_some c =
    let tree = c.args.self.now.tree.now in
    let earlier = c.args.earlier.now in
    let path = (listed_at tree c.args.entry.now.path c.in-Some.position (sym c.in-Some.ensures)).1 in
    let one = some_part c.entry_at.result _ _ c.entry_at.ensures (sym c.is_some.ensures ∙ c.if-is_some.true) in (
      c.in-Some.position,
      sym c.in-Some.ensures,
      (
        iff_false c.is_ignored.ensures c.if-is_ignored.false,
        same_bytes c.args.entry.now.name (name_at tree c.in-Some.position) (sym c.if-not-is_name_of.ensures),
        λ new. not_new earlier _ one.0.now one.1 (subst (IsNew earlier) (sym path) new),
      ),
    )

pub returns : goal.returns
returns c =
    let tree = c.args.self.now.tree.now in
    let earlier = c.args.earlier.now in
    let path = (listed_at tree c.args.entry.now.path c.in-Some.position (sym c.in-Some.ensures)).1 in
    let new = none_part c.entry_at.result _ _ c.entry_at.ensures (sym c.is_some.ensures ∙ c.if-is_some.false) in
    first_reason_by tree earlier c.args.entry.now c.in-Some.position c.as_slice.result.now c.reason_in_built.result c.as_slice.ensures (sym c.in-Some.ensures)
    (iff_false c.is_ignored.ensures c.if-is_ignored.false) (same_bytes c.args.entry.now.name (name_at tree c.in-Some.position) (sym c.if-not-is_name_of.ensures))
    (subst (IsNew earlier) path new) c.reason_in_built.ensures

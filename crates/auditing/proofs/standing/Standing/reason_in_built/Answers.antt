use Rattle.std.proofs.Common.{◌<◌, length, refl, sym, subst, inl, inr}
use Rattle.std.proofs.lemmas.Bool.{iff_false}
use Rattle.std.proofs.lemmas.Option.{MatchOption-at_none, MatchOption-at_some}
use Rattle.listing.specs.Tree.{Tree}
use Rattle.engine.specs.Ignored.{IsIgnored}
use Rattle.engine.proofs.WellMade.{well_made}
use Rattle.auditing.specs.inside.Standing.{AreNeeded}
use Rattle.auditing.proofs.Built.{not_unlisted}
use Rattle.auditing.proofs.Needed.{its_from_needed, needed_from_its}
use Rattle.auditing.proofs.standing.Standing.reason_in_built.Goals as goal

pub returns-in_default : goal.returns-in_default
returns-in_default c =
    let tree = c.args.self.now.tree.now in
    let is_tree = c.requires.read.is_tree in
    let unlisted = MatchOption-at_none _ _ c.in_default.is c.in_ok-positions.ensures in
    inl (
      refl,
      λ are.
          not_unlisted tree are.unit.build c.args.built.now is_tree (well_made tree c.args.position are.unit is_tree are.of_unit).needs unlisted are.are,
    )

pub are_needed-requires-clause-listed : goal.are_needed-requires-clause-listed
are_needed-requires-clause-listed c = subst (λ (t : Tree). c.args.position < length t) (sym c.requires.read.units) c.requires.listed

pub are_needed-requires-clause-not_ignored : goal.are_needed-requires-clause-not_ignored
are_needed-requires-clause-not_ignored c = subst (λ (t : Tree). ¬ IsIgnored t c.args.position) (sym c.requires.read.units) c.requires.not_ignored

pub returns-then-not-are_needed : goal.returns-then-not-are_needed
returns-then-not-are_needed c =
    let s = c.args.self.now in
    let built = c.args.built.now in
    let listed = MatchOption-at_some _ _ c.in-Some.positions c.in-Some.is c.in_ok-positions.ensures in
    let qs = c.sort_unstable.new.self.items in
    inl (
      refl,
      λ its.
          iff_false c.are_needed.ensures c.if-not-are_needed.true
          (subst (AreNeeded s.units.tree c.args.position) (sym c.as_slice-2.ensures.value)
          (needed_from_its s.tree.now s.units.tree c.args.position built c.in-Some.positions.items qs c.requires.read.units c.requires.read.is_tree listed
          c.sort_unstable.ensures.permutation c.sort_unstable.ensures.sorted its)),
    )

pub returns-then-stood : goal.returns-then-stood
returns-then-stood c =
    let s = c.args.self.now in
    let listed = MatchOption-at_some _ _ c.in-Some.positions c.in-Some.is c.in_ok-positions.ensures in
    let needed = subst (AreNeeded s.units.tree c.args.position) c.as_slice-2.ensures.value (c.are_needed.ensures.0 c.if-not-are_needed.false) in (
      its_from_needed s.tree.now s.units.tree c.args.position c.args.built.now c.in-Some.positions.items c.sort_unstable.new.self.items
          c.requires.read.units c.requires.read.is_tree listed c.sort_unstable.ensures.permutation needed,
      c.stood_earlier-stood.ensures.0 c.if-stood.true,
    )

pub returns : goal.returns
returns c =
    let s = c.args.self.now in
    let listed = MatchOption-at_some _ _ c.in-Some.positions c.in-Some.is c.in_ok-positions.ensures in
    let needed = subst (AreNeeded s.units.tree c.args.position) c.as_slice-2.ensures.value (c.are_needed.ensures.0 c.if-not-are_needed.false) in
    let its = its_from_needed s.tree.now s.units.tree c.args.position c.args.built.now c.in-Some.positions.items c.sort_unstable.new.self.items
    c.requires.read.units c.requires.read.is_tree listed c.sort_unstable.ensures.permutation needed in
    inr (refl, its, iff_false c.stood_earlier-stood.ensures c.if-stood.false)

use Rattle.std.proofs.Common.{◌≡◌, [], is_some, Some, ap, get_or, sym, subst, ◌∙◌, position}
use Rattle.std.specs.Str.{bytes_eq}
use Rattle.std.proofs.lemmas.List.Quantifiers.{position-Some}
use Rattle.listing.specs.inside.Table.{IsTakenIn, setting}
use Rattle.listing.proofs.Settings.{same_text}
use Rattle.listing.proofs.table.Table.set.Goals as goal

pub returns-in-Some : goal.returns-in-Some
returns-in-Some c =
    let keys = c.args.self.now.paths.keys in
    let at : position (bytes_eq c.args.path) keys ≡ Some c.in-Some.position = sym c.get_index_of.ensures.index ∙ c.in-Some.is in
    let place = position-Some (bytes_eq c.args.path) keys c.in-Some.position [] at in
    let same = same_text c.args.path (get_or keys c.in-Some.position []) place.1 in
    subst (λ p. IsTakenIn c.args.self.now (setting c.args.line p c.args.variable c.args.text.now) c.set_at.result c.set_at.new.self) (sym same) c.set_at.ensures

pub set_first-requires-clause-new : goal.set_first-requires-clause-new
set_first-requires-clause-new c = sym c.get_index_of.ensures.found ∙ ap is_some c.in-None.is

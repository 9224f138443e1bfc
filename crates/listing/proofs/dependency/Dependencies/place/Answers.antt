use Rattle.std.proofs.Common.{◌≡◌, None, sym, subst, ◌∙◌}
use Rattle.std.proofs.lemmas.List.{length-map}
use Rattle.indexmap.proofs.CallerLemmas.{insert_entry-new}
use Rattle.listing.specs.inside.Entries.{Entry, IsRead, words_of_entries}
use Rattle.listing.specs.Listing.{word_fault}
use Rattle.listing.specs.inside.Parts.{IsNumberOf}
use Rattle.listing.specs.Rules.{names_and_specs}
use Rattle.listing.proofs.Numbers.{entries_good, entries_grow, none_from_is_some, number_of_new, number_there, no_word_fault, place_of_new}
use Rattle.listing.proofs.dependency.Dependencies.place.Goals as goal

pub returns-in-Some-clause-answer : goal.returns-in-Some-clause-answer
returns-in-Some-clause-answer c =
    subst (λ ws. (word_fault names_and_specs c.args.line c.args.word.now ≡ None) × IsNumberOf ws c.in-Some.number c.args.word.now) c.self.view_is
    (subst (λ w. (word_fault names_and_specs c.args.line w ≡ None) × IsNumberOf (words_of_entries c.self.inside.read.entries) c.in-Some.number w) c.new-key.ensures
    (number_there c.args.line c.self.inside.read.entries c.new-key.result c.in-Some.number c.self.invariant (sym c.in-Some.ensures.index)))

pub invariant_of-self-in-None : goal.invariant_of-self-in-None
invariant_of-self-in-None c =
    let new = c.in_ok-number-in-None.ensures.entries ∙ insert_entry-new _ c.self.inside.read c.new-key.result c.in_ok-dependency-in-None.dependency (none_from_is_some _ c.in-None.ensures.found) in
    entries_good c.self.inside.read.entries _ (c.new-key.result, c.in_ok-dependency-in-None.dependency) new c.self.invariant
    (subst (λ w. IsRead w c.in_ok-dependency-in-None.dependency) (sym c.new-key.ensures) c.in_ok-dependency-in-None.ensures)

pub returns-in_ok-number-in-None-clause-answer : goal.returns-in_ok-number-in-None-clause-answer
returns-in_ok-number-in-None-clause-answer c =
    let new = c.in_ok-number-in-None.ensures.entries ∙ insert_entry-new _ c.self.inside.read c.new-key.result c.in_ok-dependency-in-None.dependency (none_from_is_some _ c.in-None.ensures.found) in
    let place = c.in_ok-number-in-None.ensures.index ∙ place_of_new _ _ c.in-None.ensures.index ∙ length-map c.self.inside.read.entries (λ (e : Entry). e.0) in (
      no_word_fault c.args.line c.args.word.now c.in_ok-dependency-in-None.dependency c.in_ok-dependency-in-None.ensures,
      number_of_new c.self.inside.read.entries _ c.in_ok-number-in-None.number c.args.word.now (c.new-key.result, c.in_ok-dependency-in-None.dependency) new place c.new-key.ensures,
    )

pub returns-in_ok-number-in-None-clause-grows : goal.returns-in_ok-number-in-None-clause-grows
returns-in_ok-number-in-None-clause-grows c =
    let new = c.in_ok-number-in-None.ensures.entries ∙ insert_entry-new _ c.self.inside.read c.new-key.result c.in_ok-dependency-in-None.dependency (none_from_is_some _ c.in-None.ensures.found) in
    entries_grow c.self.inside.read.entries _ c.args.self.now (c.new-key.result, c.in_ok-dependency-in-None.dependency) c.self.view_is new

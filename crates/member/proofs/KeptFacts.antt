-- A fact is kept for the unit that its path names.
use Rattle.std.proofs.Common.{◌≡◌, ◌<◌, ℕ, List, Some, get_or, length, map, sym}
use Rattle.std.proofs.Common.{ap, ◌∙◌}
use Rattle.std.specs.Prelude.{slice_set}
use Rattle.std.specs.List.{slice_index_or}
use Rattle.std.specs.Str.{bytes_eq}
use Rattle.std.proofs.lemmas.List.{get_or-map, map-set}
use Rattle.std.proofs.lemmas.List.Quantifiers.{position-Some}
use Rattle.faults.specs.Bytes.{Text}
use Rattle.claims.specs.Member.{Facts, no_facts, noted}
use Rattle.ballots.specs.InTheAgreement.{note_of}
use Rattle.ballots.specs.declared.message.Fact.{Fact}
use Rattle.ballots.specs.declared.message.Note.{Note}
use Rattle.engine.specs.Division.{Division, no_unit, number_named}
use Rattle.engine.specs.Units.{Unit}
use Rattle.protocol.specs.State.{Value, noted_at}
use Rattle.member.specs.shared.Fields.{facts_of_known}
use Rattle.member.specs.declared.known.Known.{Known}

-- a named unit exists
pub named_within : (d : Division) (path : Text) (u : ℕ) → Some u ≡ number_named d path
    → u < length d.units
named_within d path u named =
    (position-Some (λ (x : Unit). bytes_eq x.name path) d.units u no_unit (sym named)).0

module _ (d : Division) (known : List Known) (path : Text) (fact : Fact Value) (u : ℕ)
    (old new : Known) (lt : u < length known) (named : Some u ≡ number_named d path)
    (kept : facts_of_known new ≡ noted (facts_of_known (get_or known u old)) (note_of fact)) where
  -- all facts
  abbrev facts : List (Facts Value)
  facts = map facts_of_known known

  -- what is noted
  abbrev note : Note Value
  note = record { path = path; fact = fact }

  -- the facts of the unit include it
  known_so : facts_of_known new ≡ noted (slice_index_or facts u no_facts) (note_of fact)
  known_so =
      kept
      ∙ ap (λ f. noted f (note_of fact))
      (sym (get_or-map facts_of_known known u old no_facts lt))

  pub at_unit : map facts_of_known (slice_set known u new) ≡ noted_at (Some u) facts note
  at_unit =
      map-set facts_of_known known u new ∙ ap (λ f. slice_set facts u f) known_so

  pub fact_kept : map facts_of_known (slice_set known u new)
      ≡ noted_at (number_named d path) facts note
  fact_kept = at_unit ∙ ap (λ v. noted_at v facts note) named

-- What the notes of a member restore.
use Rattle.std.proofs.Common.{◌≡◌, ◌<◌, ℕ, Bool, true, All, List, [], ◌∷◌, append_assoc, filter}
use Rattle.std.proofs.Common.{length, map, None, Some, refl, sym, ap, subst, ◌∙◌, inl, inr}
use Rattle.std.proofs.Common.{if◌then◌else◌}
use Rattle.std.specs.Prelude.{fold, reverse, unwrap_or, ◌⊎◌, ◌++◌}
use Rattle.std.specs.List.{slice_index_or}
use Rattle.std.specs.Str.{bytes_eq}
use Rattle.std.proofs.lemmas.Bool.{cases_eq, false_from_ne_true}
use Rattle.std.proofs.lemmas.List.{append-nil, get_or-map, get_or-set_other, get_or-set_same}
use Rattle.std.proofs.lemmas.List.{length-map, reverse-append}
use Rattle.std.proofs.lemmas.List.Elements.{All-head, All-map, All-tail}
use Rattle.std.proofs.lemmas.List.Quantifiers.{position-Some}
use Rattle.faults.specs.Bytes.{Text}
use Rattle.claims.specs.Member as members
use Rattle.claims.specs.Member.{Facts, no_facts, noted}
use Rattle.ballots.specs.InTheAgreement.{note_of}
use Rattle.ballots.specs.declared.message.Note.{Note}
use Rattle.engine.specs.Division.{Division, IsDivision, no_unit, number_named, unit_at}
use Rattle.engine.proofs.Names.{name_is_found}
use Rattle.engine.proofs.Places.{equal_bytes, same_bytes}
use Rattle.protocol.specs.State.{Value, facts_then, noted_at}
use Rattle.protocol.specs.Laws.{NotesRestoreFacts}
use Rattle.protocol.specs.Restoring.{AreOnUnits}
use Rattle.protocol.proofs.Known.{Pledged, each_then, pledged_then}

-- the notes in the theory's order, latest first
restored_in_turn : (xs ys : List (members.Note Value))
    → members.restored (reverse xs ++ ys) ≡ fold noted (members.restored ys) xs
restored_in_turn [] ys = refl
restored_in_turn (x ∷ xs) ys =
    ap members.restored (ap (λ l. l ++ ys) (reverse-append (x ∷ []) xs)
    ∙ append_assoc (reverse xs) (x ∷ []) ys)
    ∙ restored_in_turn xs (x ∷ ys)

module _ (d : Division) where
  -- all facts after these notes
  abbrev all_noted : List (Facts Value) → List (Note Value) → List (Facts Value)
  all_noted facts notes = fold (λ facts n. facts_then d facts (Some n)) facts notes

  each_noted : (facts : List (Facts Value)) (notes : List (Note Value))
      → length (all_noted facts notes) ≡ length facts
  each_noted facts [] = refl
  each_noted facts (n ∷ notes) = each_noted (facts_then d facts (Some n)) notes
      ∙ each_then d facts (Some n)

  pledged_noted : (facts : List (Facts Value)) (notes : List (Note Value)) → All Pledged facts
      → All Pledged (all_noted facts notes)
  pledged_noted facts [] are = are
  pledged_noted facts (n ∷ notes) are =
      pledged_noted (facts_then d facts (Some n)) notes (pledged_then d facts (Some n) are)

  module _ (is : IsDivision d) (u : ℕ) (lt : u < length d.units) where
    abbrev name : Text
    name = (unit_at d u).name

    -- the notes about the unit
    abbrev on_unit : List (Note Value) → List (Note Value)
    on_unit notes = filter (λ n. bytes_eq n.path name) notes

    -- what these notes say
    abbrev facts_in : List (Note Value) → List (members.Note Value)
    facts_in notes = map (λ n. note_of n.fact) notes

    -- a note about the unit is noted there
    noted_here : (facts : List (Facts Value)) (n : Note Value) → u < length facts
        → number_named d n.path ≡ Some u
        → slice_index_or (facts_then d facts (Some n)) u no_facts ≡ noted
        (slice_index_or facts u no_facts) (note_of n.fact)
    noted_here facts n within e =
        ap (λ v. slice_index_or (noted_at v facts n) u no_facts) e
        ∙ get_or-set_same facts u _ no_facts within

    -- a note about another unit is not noted there
    noted_elsewhere : (facts : List (Facts Value)) (n : Note Value) (v : ℕ)
        → number_named d n.path ≡ Some v → (u ≡ v → ⊥)
        → slice_index_or (facts_then d facts (Some n)) u no_facts ≡ slice_index_or facts u no_facts
    noted_elsewhere facts n v e other =
        ap (λ v. slice_index_or (noted_at v facts n) u no_facts) e
        ∙ get_or-set_other facts v u _ no_facts other

    -- a note is about the unit if and only if its path is the unit's name
    is_name : (n : Note Value) → number_named d n.path ≡ Some u → bytes_eq n.path name ≡ true
    is_name n e =
        let at = position-Some (λ x. bytes_eq x.name n.path) d.units u no_unit e in
        equal_bytes n.path name (sym (same_bytes name n.path at.1))

    names_unit : (n : Note Value) (v : ℕ) → number_named d n.path ≡ Some v
        → bytes_eq n.path name ≡ true → u ≡ v
    names_unit n v e same =
        let found : Some u ≡ Some v = sym (name_is_found d u is lt)
        ∙ (ap (number_named d) (sym (same_bytes n.path name same)) ∙ e) in
        ap (λ o. unwrap_or o u) found

    restored_at : (facts : List (Facts Value)) (notes : List (Note Value)) → u < length facts
        → AreOnUnits d notes
        → slice_index_or (all_noted facts notes) u no_facts ≡ fold noted
        (slice_index_or facts u no_facts) (facts_in (on_unit notes))
    restored_at facts [] within are = refl
    restored_at facts (n ∷ notes) within are =
        let first = All-head (λ (n : Note Value). (v : ℕ) × (number_named d n.path ≡ Some v)) n
        notes are in
        let rest = All-tail (λ (n : Note Value). (v : ℕ) × (number_named d n.path ≡ Some v)) n notes
        are in
        let later = restored_at (facts_then d facts (Some n)) notes
        (subst (λ k. u < k) (sym (each_then d facts (Some n))) within) rest in
        later ∙ by_unit (cases_eq u first.0) first.1
      where
        here : Facts Value
        here = slice_index_or facts u no_facts

        next : Facts Value
        next = slice_index_or (facts_then d facts (Some n)) u no_facts

        kept : Bool → List (Note Value)
        kept b = if b then n ∷ on_unit notes else on_unit notes

        by_unit : {v : ℕ} → (u ≡ v) ⊎ (u ≡ v → ⊥) → number_named d n.path ≡ Some v
            → fold noted next (facts_in (on_unit notes)) ≡ fold noted here
            (facts_in (kept (bytes_eq n.path name)))
        by_unit {v} (inl same) e =
            let named = e ∙ ap (λ k. Some k) (sym same) in
            ap (λ f. fold noted f (facts_in (on_unit notes))) (noted_here facts n within named)
            ∙ ap (λ b. fold noted here (facts_in (kept b))) (sym (is_name n named))
        by_unit {v} (inr other) e =
            ap (λ f. fold noted f (facts_in (on_unit notes))) (noted_elsewhere facts n v e other)
            ∙ ap (λ b. fold noted here (facts_in (kept b)))
            (sym (false_from_ne_true (bytes_eq n.path name)
            (λ same. other (names_unit n v e same))))

-- initially nothing is known of any unit
abbrev all_unknown : Division → List (Facts Value)
all_unknown d = map (λ x. no_facts) d.units

each_unknown : (d : Division) → length (all_unknown d) ≡ length d.units
each_unknown d = length-map d.units (λ x. let f : Facts Value = no_facts in f)

nothing_known : (d : Division) (u : ℕ) → u < length d.units
    → slice_index_or (all_unknown d) u no_facts ≡ no_facts
nothing_known d u lt = get_or-map (λ x. no_facts) d.units u no_unit no_facts lt

pub notes_restore : NotesRestoreFacts
notes_restore d weights me notes is are_weights lt are = record {
  member = record {
    division = is;
    weights = are_weights;
    one_of_them = lt;
    each = each_noted d (all_unknown d) notes ∙ each_unknown d;
    pledged = pledged_noted d (all_unknown d) notes
        (All-map Pledged (λ x. no_facts) d.units (λ k x within e. refl));
    claim = λ o e. absurd (let no : None ≡ Some o = e in cc);
  };
  facts = λ u within.
      restored_at d is u within (all_unknown d) notes
      (subst (λ k. u < k) (sym (each_unknown d)) within) are
      ∙ ap (λ f. fold noted f (facts_in d is u within (on_unit d is u within notes)))
      (nothing_known d u within)
      ∙ sym (ap members.restored (sym (append-nil (reverse (noted_on u within))))
      ∙ restored_in_turn (noted_on u within) []);
}
  where
    noted_on : (u : ℕ) → u < length d.units → List (members.Note Value)
    noted_on u within = facts_in d is u within (on_unit d is u within notes)

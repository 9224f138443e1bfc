-- Facts that are restored from notes that can be encoded can be encoded.
use Rattle.std.proofs.Common.{All, List, [], ◌∷◌, filter, map, sym, subst}
use Rattle.std.specs.Prelude.{reverse}
use Rattle.std.specs.Str.{bytes_eq}
use Rattle.std.proofs.lemmas.Bool.{cond_both}
use Rattle.std.proofs.lemmas.List.{reverse-append}
use Rattle.std.proofs.lemmas.List.Elements.{All-append, All-cons, All-head, All-nil, All-tail}
use Rattle.faults.specs.Bytes.{Text}
use Rattle.claims.specs.Member as members
use Rattle.ballots.specs.InTheAgreement.{note_of}
use Rattle.ballots.specs.declared.message.Fact.{Fact}
use Rattle.ballots.specs.declared.message.Fact.TheVariants as facts
use Rattle.ballots.specs.declared.message.Note.{Note}
use Rattle.engine.specs.Division.{unit_at}
use Rattle.engine.proofs.Places.{same_bytes}
use Rattle.protocol.specs.State.{Value}
use Rattle.protocol.proofs.Restored.{notes_restore}
use Rattle.wire.specs.Messages.{IsFact, IsNote}
use Rattle.node.specs.Ranges.{AreFactsOf, IsProgressOf, IsTold, WhatIsRestoredCanBeWritten}
use Rattle.node.proofs.ranges.Outcomes.{for_none, restored_facts}

all_reversed : {X : Type 0} (P : X → Type 0) (xs : List X) → All P xs → All P (reverse xs)
all_reversed P [] all = All-nil P
all_reversed P (x ∷ xs) all =
    subst (All P) (sym (reverse-append (x ∷ []) xs))
    (All-append P (reverse xs) (x ∷ []) (all_reversed P xs (All-tail P x xs all)) (All-cons P x [] (All-head P x xs all) (All-nil P)))

told_of : (name : Text) (f : Fact Value) → IsFact name f → IsTold name (note_of f)
told_of name (facts.Opened round) is = is
told_of name (facts.Promised c) is = is
told_of name (facts.Voted c v) is = is
told_of name (facts.Held v) is = is

-- the abstract note of a note
abbrev told : Note Value → members.Note Value
told n = note_of n.fact

-- the notes about a unit
abbrev on_unit : Text → List (Note Value) → List (Note Value)
on_unit name notes = filter (λ n. bytes_eq n.path name) notes

told_of_notes : (name : Text) (ns : List (Note Value)) → All IsNote ns → All (IsTold name) (map told (on_unit name ns))
told_of_notes name [] are = All-nil (IsTold name)
told_of_notes name (n ∷ ns) are =
    let rest = told_of_notes name ns (All-tail IsNote n ns are) in
    cond_both (bytes_eq n.path name) (n ∷ on_unit name ns) (on_unit name ns) (λ (l : List (Note Value)). All (IsTold name) (map told l))
    (λ same. All-cons (IsTold name) (told n) (map told (on_unit name ns))
    (told_of name n.fact (subst (λ p. IsFact p n.fact) (same_bytes n.path name same) (All-head IsNote n ns are).fact)) rest)
    (λ other. rest)

pub restored_written : WhatIsRestoredCanBeWritten
restored_written d weights me notes is are lt on_units good = record {
  facts = λ u within.
      let name = (unit_at d u).name in
      subst (AreFactsOf name) (sym ((notes_restore d weights me notes is are lt on_units).facts u within))
      (restored_facts name (reverse (map told (on_unit name notes))) (all_reversed (IsTold name) _ (told_of_notes name notes good)));
  claim = for_none (λ o. IsProgressOf _ o.progress);
}

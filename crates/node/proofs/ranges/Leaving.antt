-- A step leaves a valid node.
use Rattle.std.proofs.Common.{◌≡◌, ℕ, All, List, [], ◌∷◌, Option, None, Some, Ok, refl, sym, subst, ap, ◌∙◌}
use Rattle.std.specs.List.{slice_index_or}
use Rattle.std.specs.Option.{ForSome}
use Rattle.std.proofs.lemmas.List.Sums.{fold_push}
use Rattle.std.proofs.lemmas.List.Elements.{All-append, All-cons, All-nil}
use Rattle.claims.specs.Member.{Facts, no_facts}
use Rattle.ballots.specs.declared.message.Note.{Note}
use Rattle.engine.specs.declared.Letter.{Letter}
use Rattle.engine.specs.Division.{number_named}
use Rattle.protocol.specs.Answers.{Answer, after as member_after}
use Rattle.protocol.specs.Member.{IsMember}
use Rattle.protocol.specs.State.{State, Value, facts_then, fresh, name_at}
use Rattle.protocol.specs.Step.{answer}
use Rattle.protocol.specs.declared.input.Input.{Input}
use Rattle.wire.specs.Messages.{IsNote}
use Rattle.wire.specs.declared.datagram.Piece.{Piece}
use Rattle.node.specs.State.{IsNode, NodeState, restored_member, with_note}
use Rattle.node.specs.Step.{after}
use Rattle.node.specs.Ranges.{AreFactsOf, IsGoodInput, IsInRange}
use Rattle.node.specs.inside.Stepping.{AreKept}
use Rattle.node.proofs.ranges.Restored.{restored_written}
use Rattle.node.proofs.ranges.Written.{answers_written}

-- all that a node knows can be encoded
pub node_in_range : (n : NodeState) → IsNode n → IsInRange n.member
node_in_range n is =
    let s = n.member in
    let restored = restored_written s.division s.weights s.me n.notes is.member.division is.member.weights is.member.one_of_them is.on_units is.notes in
    record {
      facts = λ u lt. subst (λ (fs : List (Facts Value)). AreFactsOf (name_at s u) (slice_index_or fs u no_facts)) (sym is.restored) (restored.facts u lt);
      claim = is.claim;
    }

pub facts_after : (s : State) (notes : List (Note Value)) (note : Option (Note Value)) → s.facts ≡ (restored_member s notes).facts
    → facts_then s.division s.facts note ≡ (restored_member s (with_note notes note)).facts
facts_after s notes None same = same
facts_after s notes (Some n) same =
    ap (λ (fs : List (Facts Value)). facts_then s.division fs (Some n)) same ∙ sym (fold_push (λ fs x. facts_then s.division fs (Some x)) (fresh s.division s.weights s.me).facts notes n)

-- the notes with one added
with_all : (P : Note Value → Type 0) (notes : List (Note Value)) (note : Option (Note Value)) → All P notes → ForSome note P → All P (with_note notes note)
with_all P notes None all one = all
with_all P notes (Some n) all one = All-append P notes (n ∷ []) all (All-cons P n [] (one n refl) (All-nil P))

-- the answer to such an input leaves a valid node
pub leaves_node : (n : NodeState) (letter : Letter) (input : Input) (a : Answer) (pieces : List Piece) → IsNode n → IsMember (member_after n.member a) → IsGoodInput input
    → answer n.member letter input ≡ Ok a → AreKept n.member pieces → IsNode (after n (record { answer = a; pieces = pieces }))
leaves_node n letter input a pieces is stays good e kept =
    let s = n.member in
    let written = answers_written s letter input a is.member (node_in_range n is) good e in
    record {
      member = subst (λ (fs : List (Facts Value)). IsMember (record s { facts = fs; claim = a.claim })) (facts_after s n.notes a.note is.restored) stays;
      restored = refl;
      notes = with_all IsNote n.notes a.note is.notes written.note;
      on_units = with_all (λ x. (u : ℕ) × (number_named s.division x.path ≡ Some u)) n.notes a.note is.on_units written.named;
      claim = written.claim;
      pieces = kept.each;
      once = kept.once;
      let_through = kept.let_through;
    }

-- a node with other pieces is a valid node
pub other_pieces : (n : NodeState) (pieces : List Piece) → IsNode n → AreKept n.member pieces → IsNode (record n { pieces = pieces })
other_pieces n pieces is kept = record {
  member = is.member;
  restored = is.restored;
  notes = is.notes;
  on_units = is.on_units;
  claim = is.claim;
  pieces = kept.each;
  once = kept.once;
  let_through = kept.let_through;
}

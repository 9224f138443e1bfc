-- The effects of a member's answer: it leaves a valid member, and its notes can be encoded and name
-- members.
use Rattle.std.proofs.Common.{◌≡◌, ◌<◌, ℕ, [], length, Some, option_map, sym, ap, ◌∙◌}
use Rattle.std.specs.Prelude.{All}
use Rattle.std.specs.Option.{ForSome}
use Rattle.std.proofs.lemmas.List.Elements.{All-cons, All-nil}
use Rattle.claims.specs.Member.{facts_of}
use Rattle.claims.specs.Quorums.{is_majority}
use Rattle.claims.specs.Step.{Outcome}
use Rattle.ballots.specs.InTheAgreement.{note_of, said}
use Rattle.ballots.specs.declared.message.Fact.{Fact}
use Rattle.ballots.specs.declared.message.Fact.TheVariants as fact
use Rattle.ballots.specs.declared.message.Message.{Message}
use Rattle.ballots.specs.declared.message.Note.{Note}
use Rattle.engine.specs.declared.Letter.{Letter}
use Rattle.node.specs.Ranges.{CanBeWritten, IsClaimOf, IsInRange}
use Rattle.node.specs.Step.{nothing}
use Rattle.node.proofs.ranges.Written.{answers_written}
use Rattle.protocol.specs.Answers.{Answer, after}
use Rattle.protocol.specs.InTheAgreement.{view}
use Rattle.protocol.specs.Laws.{IsNoMessage, IsOutcome}
use Rattle.protocol.specs.Member.{IsInput, IsMember}
use Rattle.protocol.specs.State.{State, Value}
use Rattle.protocol.specs.Step.{IsLetterOf, answer, heard, outcome_of, unit_claimed}
use Rattle.protocol.specs.declared.input.Input.{Input}
use Rattle.protocol.specs.declared.input.Input.TheVariants as inputs
use Rattle.protocol.proofs.Answering.{message_is}
use Rattle.protocol.proofs.Asked.{input_is}
use Rattle.protocol.proofs.MembersStay.{members_stay}
use Rattle.engine.specs.Division.{number_named}
use Rattle.wire.specs.Messages.{IsGoodBody, IsNote}
use Rattle.one_list.specs.Local.{members_noted}
use Rattle.one_list.proofs.nodes.StepsInTheory.{answers_with}
use Rattle.one_list.proofs.acts.InputActs.{good_input}
use Rattle.one_list.proofs.nodes.ClaimsNamed.{AreNamed, IsNaming, Notes, body_comes, for_none, input_names, message_names}
use Rattle.one_list.proofs.nodes.WritableStates.{heard_names, own_stage}

-- the note can be encoded, is about a unit, and names members
pub record IsSoundNote (s : State) (n : Note Value) : Type 0 where
  pub note : IsNote n
  pub of_unit : (u : ℕ) × (number_named s.division n.path ≡ Some u)
  pub claimers : All (λ k. k < length s.weights) (members_noted n.fact)

-- the effects of an answer
pub record LeavesSound (s : State) (a : Answer) : Type 0 where
  pub note : ForSome a.note (IsSoundNote s)
  pub member : IsMember (after s a)
  pub claim : IsClaimOf s a.claim

-- the members named by a note in the theory are those of its fact
fact_names : (n : ℕ) (f : Fact Value) → Notes n (note_of f) → All (λ k. k < n) (members_noted f)
fact_names n (fact.Opened round) is = All-nil (λ k. k < n)
fact_names n (fact.Promised c) is = All-cons (λ k. k < n) c.member [] is (All-nil (λ k. k < n))
fact_names n (fact.Voted c v) is = All-cons (λ k. k < n) c.member [] is (All-nil (λ k. k < n))
fact_names n (fact.Held v) is = All-nil (λ k. k < n)

module _ (s : State) (member : IsMember s) (range : IsInRange s)
    (known : (u : ℕ) → u < length s.division.units
    → AreNamed (length s.weights) (facts_of (view s u))) where
  -- an answer that is given by an outcome
  by_outcome : (a : Answer) (u : ℕ) (o : Outcome Value) → IsOutcome s u o a
      → IsNaming (length s.weights) s.me o → CanBeWritten s a → IsMember (after s a)
      → LeavesSound s a
  by_outcome a u o is names written then = record {
    note = λ n e. record {
      note = written.note n e;
      of_unit = written.named n e;
      claimers = fact_names (length s.weights) n.fact
          (names.note (note_of n.fact) (sym is.note
          ∙ ap (option_map (λ (n : Note Value). note_of n.fact)) e));
    };
    member = then;
    claim = written.claim;
  }

  pub input_sound : (letter : Letter) (input : Input) (a : Answer) → IsNoMessage input
      → IsInput input → IsLetterOf s (unit_claimed s input) letter
      → answer s letter input ≡ answers_with a → LeavesSound s a
  input_sound letter input a none can shown e =
      let i = input_is s letter input a member none e in
      by_outcome a i.unit i.answers.outcome i.answers.is
      (input_names (length s.weights) s.me (view s i.unit) (known i.unit i.within)
      (own_stage s i.unit member) member.one_of_them (is_majority s.weights) i.asks
      i.answers.outcome i.answers.answers)
      (answers_written s letter input a member range (good_input input none) e)
      (members_stay s input a member can (record { letter = letter; shown = shown; right = sym e }))

  pub message_sound : (letter : Letter) (m : Message Value) (a : Answer) → IsGoodBody m.path m.body
      → heard s m ≡ answers_with a → LeavesSound s a
  message_sound letter m a good e =
      let i = message_is s m a member e in
      by_outcome a i.unit (outcome_of s i.unit m.sender m.body) i.is
      (message_names (length s.weights) s.me (view s i.unit) (known i.unit i.within)
      (own_stage s i.unit member) (is_majority s.weights) (said m.sender m.body)
      (body_comes (length s.weights) m.sender m.body (heard_names s m a e)))
      (answers_written s letter (inputs.Message m) a member range good e)
      (members_stay s (inputs.Message m) a member tt
      (record { letter = letter; shown = tt; right = sym e }))

  pub nothing_sound : LeavesSound s (nothing s)
  nothing_sound = record {
    note = for_none (IsSoundNote s);
    member = record {
      division = member.division;
      weights = member.weights;
      one_of_them = member.one_of_them;
      each = member.each;
      pledged = member.pledged;
      claim = λ o e. let c = member.claim o e in record {
        unit = c.unit;
        not_held = c.not_held;
        host = c.host;
        claim = c.claim;
        own = c.own;
        joined =
            c.joined;
        short = c.short;
        ready = c.ready;
      };
    };
    claim = range.claim;
  }

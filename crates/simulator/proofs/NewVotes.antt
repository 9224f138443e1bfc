-- Votes, as they are sent and noted, and which of them a step adds to what was sent.
use Rattle.std.proofs.Common.{◌≡◌, ◌⊎◌, ◌==◌, ℕ, true, List, Option, None, Some, option_map, refl, sym, ap, ◌∙◌, inl, inr, ⊎_elim, eq-eqb, true≢false}
use Rattle.std.specs.Prelude.{Contains}
use Rattle.std.proofs.lemmas.Bool.{and_from, and_parts, cond-true}
use Rattle.std.proofs.lemmas.List.Elements.{All-contains}
use Rattle.faults.specs.Bytes.{Text, is_among}
use Rattle.claims.specs.AgreedList.{Act}
use Rattle.claims.specs.Claims.{claim_same}
use Rattle.claims.specs.Member as members
use Rattle.claims.specs.Messages as messages
use Rattle.claims.specs.Votes.{Ballot, ballot}
use Rattle.claims.specs.declared.claim.Claim.{Claim}
use Rattle.ballots.specs.InTheAgreement.{note_of, said}
use Rattle.ballots.specs.declared.message.Body.{Body}
use Rattle.ballots.specs.declared.message.Body.TheVariants as bodies
use Rattle.ballots.specs.declared.message.Fact.{Fact}
use Rattle.ballots.specs.declared.message.Fact.TheVariants as fact
use Rattle.ballots.specs.declared.message.Message.{Message}
use Rattle.ballots.specs.declared.message.Note.{Note}
use Rattle.claims.specs.Claim.{IsClaim}
use Rattle.protocol.specs.Events.{Event}
use Rattle.protocol.specs.Events.{node_of as whose}
use Rattle.one_list.specs.Local.{AreLocal}
use Rattle.one_list.specs.Matches.{Matches, name_of}
use Rattle.one_list.specs.Mirrored.{after_all_acts}
use Rattle.one_list.proofs.acts.StepActs.{Acted, IsAct, IsDone}
use Rattle.one_list.proofs.matching.LawfulMatch.{ballot_noted, majority_within}
use Rattle.one_list.proofs.sent.SentMessages.{has_preimage}
use Rattle.one_list.proofs.matching.SpokenMessages.{text_comes}
use Rattle.one_list.proofs.sent.VoteTexts.{is_that_vote}
use Rattle.node.specs.Parcels.{datagrams_of}
use Rattle.package_record.proofs.BuildsRead.{build_is_read}
use Rattle.protocol.specs.Answers.{Answer, tree_digest}
use Rattle.protocol.specs.Laws.{Says}
use Rattle.protocol.specs.State.{State, Value}
use Rattle.protocol.specs.declared.sends.Send.{Send}
use Rattle.wire.specs.Messages.{IsMessage}
use Rattle.wire.specs.Pieces.{split_of}
use Rattle.wire.specs.Spelling.{datagram_text}
use Rattle.world.specs.Lists.{IsDecided}
use Rattle.world.specs.Sent.{message, voters, with_sends}
use Rattle.world.specs.World.{IsMade, World, WorldNode, member_at}
use Rattle.world.proofs.SentAdditions.{among_is, is_found, sends_come}
use Rattle.simulator.specs.inside.Deciding.{claim_voted, voted_in}
use Rattle.simulator.proofs.Casting.{vote_of, votes_same}
use Rattle.simulator.proofs.VoteSent.{whole_text}

-- ---- votes, as they are sent and noted

pub said_same : (a b : messages.Message Value) → Some a ≡ Some b → a ≡ b
said_same a b e = cc

-- a body that is sent as a vote is a vote
pub votes_so : (k j : ℕ) (c : Claim) (b : Body Value) → said k b ≡ vote_of j c
    → claim_voted b ≡ Some c
votes_so k j c (bodies.Offer d) e = absurd cc
votes_so k j c (bodies.Promise d r) e = absurd cc
votes_so k j c (bodies.Propose d v) e = absurd cc
votes_so k j c (bodies.Vote d) e = ap (λ x. Some x) (votes_same d c k j (ap (λ x. Some x) e)).1
votes_so k j c (bodies.Agreed v) e = absurd cc
votes_so k j c bodies.Ask e = absurd cc
votes_so k j c (bodies.Nay d p) e = absurd cc

-- equal claims are compared as equal
pub claim_is_same : (d c : Claim) → d ≡ c → claim_same d c ≡ true
claim_is_same d c e = and_from (d.round == c.round) (d.member == c.member)
    (eq-eqb d.round c.round (ap (λ (x : Claim). x.round) e))
    (eq-eqb d.member c.member (ap (λ (x : Claim). x.member) e))

-- the build of a note of a vote under the claim
pub fact_value : (f : Fact Value) (b : Ballot Value) (c : Claim) → note_of f ≡ members.Voted b
    → b.claim ≡ c → voted_in c f ≡ Some b.value
fact_value (fact.Opened round) b c e is =
    absurd (let wrong : members.Opened round ≡ members.Voted b = e in cc)
fact_value (fact.Promised d) b c e is =
    absurd (let wrong : members.Promised d ≡ members.Voted b = e in cc)
fact_value (fact.Voted d v) b c e is =
    let same = ballot_noted (ballot d v) b e in
    cond-true (claim_same d c) (Some v) None
    (claim_is_same d c (ap (λ (z : Ballot Value). z.claim) same ∙ is))
    ∙ ap (λ (z : Ballot Value). Some z.value) same
fact_value (fact.Held v) b c e is =
    absurd (let wrong : members.Held v ≡ members.Voted b = e in cc)

note_same : (a b : members.Note Value) → Some a ≡ Some b → a ≡ b
note_same a b e = cc

-- a note in the theory is a note here
pub none_noted : (o : Option (Note Value)) → option_map (λ n. note_of n.fact) o ≡ None → o ≡ None
none_noted None e = refl
none_noted (Some n) e = absurd (let wrong : Some (note_of n.fact) ≡ None = e in cc)

pub record IsNoteOf (o : Option (Note Value)) (b : Ballot Value) : Type 0 where
  pub note : Note Value
  pub is : o ≡ Some note
  pub votes : note_of note.fact ≡ members.Voted b

pub noted_vote : (o : Option (Note Value)) (b : Ballot Value)
    → option_map (λ n. note_of n.fact) o ≡ Some (members.Voted b) → IsNoteOf o b
noted_vote None b e = absurd (let wrong : None ≡ Some (members.Voted b) = e in cc)
noted_vote (Some n) b e =
    record { note = n; is = refl; votes = note_same (note_of n.fact) (members.Voted b) e }

-- ---- what a step sends

module _ (w : World) (made : IsMade w.division w.weights) (acts : List (Act Value))
    (local : AreLocal w) (m : Matches w (after_all_acts w.division w.weights acts))
    (e : Event) (s : Acted w e)
    (a : IsAct w.division w.weights acts w made (refl, refl) local m build_is_read e s) where
  -- the node, and its member
  abbrev k : ℕ
  k = whose e

  abbrev x : WorldNode
  x = s.node

  abbrev member : State
  member = member_at w k x

  -- its answer, and the step in the theory
  abbrev answer : Answer
  answer = s.taken.answer

  abbrev d : IsDone w.division w.weights acts w made (refl, refl) local m build_is_read e s
  d = a.done

  abbrev name : Text
  name = name_of w d.unit

  -- what was sent afterwards
  abbrev sent : List Text
  sent = with_sends w.sent answer.sends

  pub says_it : (z : Send) → Contains answer.sends z → Says member d.unit d.outcome.send z.message
  says_it z there = All-contains (λ z. Says member d.unit d.outcome.send z.message) answer.sends z
      d.is.sends there

  pub written : (z : Send) → Contains answer.sends z → IsMessage z.message
  written z there = All-contains (λ z. IsMessage z.message) answer.sends z d.written there

  -- a vote among the datagrams was sent before, or the step sends it
  abbrev IsOldOrNew : Text → Claim → ℕ → Type 0
  IsOldOrNew t c j =
      (voters w w.sent t c j ≡ true) ⊎ ((d.outcome.send ≡ Some (vote_of j c)) × (t ≡ name))

  pub old_or_new : (t : Text) (c : Claim) (j : ℕ) → IsClaim c → voters w sent t c j ≡ true
      → IsOldOrNew t c j
  old_or_new t c j claim_is is = ⊎_elim
      (λ old. inl (and_from (is_among w.sent text) true (is_found w.sent text old) refl))
      (λ new. inr (by (text_comes answer.sends text new)))
      (sends_come w.sent answer.sends text
      (among_is sent text (and_parts (is_among sent text) true is).0))
    where
      text : Text
      text = whole_text (message w t j (bodies.Vote c))

      by : (z : Send) × Contains answer.sends z × Contains (datagrams_of z.message) text
          → (d.outcome.send ≡ Some (vote_of j c)) × (t ≡ name)
      by (z, there, datagram) =
          let says = says_it z there in
          let p = has_preimage datagram_text (split_of z.message) text datagram in
          let same = is_that_vote z.message p.0 j (tree_digest w.division.tree) t c
          (written z there) claim_is says.tree p.1 p.2 in (
            says.body ∙ ap (λ (i : ℕ). Some (said i z.message.body)) (sym says.sender)
                ∙ ap (λ (n : Message Value). Some (said n.sender n.body)) same,
            sym (ap (λ (n : Message Value). n.path) same) ∙ says.path,
          )

  -- so a claim is decided only by a vote that the step sends
  pub not_decided : (t : Text) (c : Claim)
      → ((j : ℕ) → d.outcome.send ≡ Some (vote_of j c) → t ≡ name → ⊥)
      → IsDecided w sent t c → ⊥
  not_decided t c none is = true≢false
      (sym (majority_within w.weights (voters w sent t c) (voters w w.sent t c)
      (λ j lt v. ⊎_elim (λ old. old) (λ now. absurd (none j now.0 now.1))
      (old_or_new t c j is.claim_is v)) is.now)
      ∙ is.not_before)

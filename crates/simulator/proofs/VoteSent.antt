-- The vote that a step sends, and its text.
use Rattle.std.proofs.Common.{◌≡◌, ◌<◌, ℕ, List, [], ◌∷◌, ◌++◌, length, map, Option, None, Some, slice_get, refl, sym, ap, ◌∙◌, arith}
use Rattle.faults.specs.Bytes.{Text}
use Rattle.claims.specs.declared.claim.Claim.{Claim}
use Rattle.ballots.specs.declared.message.Body.{Body}
use Rattle.ballots.specs.declared.message.Body.TheVariants as body
use Rattle.ballots.specs.declared.message.Message.{Message}
use Rattle.one_list.proofs.nodes.EqualParts.{some_same}
use Rattle.node.specs.Prepared.{Prepared}
use Rattle.node.specs.Parcels.{datagrams_to, each_to}
use Rattle.node.specs.Step.{sends_in}
use Rattle.protocol.specs.Sends.{receivers_of, sent_to}
use Rattle.protocol.specs.State.{Value}
use Rattle.protocol.specs.declared.sends.Send.{Send}
use Rattle.wire.specs.Pieces.{carried_in, split_by}
use Rattle.wire.specs.Spelling.{datagram_text}
use Rattle.wire.specs.declared.datagram.Datagram.TheVariants as datagram
use Rattle.simulator.specs.inside.Deciding.{claim_voted, message_in, sender_place}

-- ---- the message

-- all sends have the message of the first one
pub message_is : (sends : List Send) (m : Message Value)
    → sends ≡ sent_to (Some m) (receivers_of sends) → (sends ≡ [] → ⊥)
    → message_in sends ≡ Some m
message_is [] m e some = absurd (some refl)
message_is (s ∷ ss) m e some = ap message_in e

-- ---- its text

-- a body with a claim that is voted for is a vote
pub vote_is : (b : Body Value) (c : Claim) → claim_voted b ≡ Some c → b ≡ body.Vote c
vote_is (body.Offer d) c e = absurd (let wrong : None ≡ Some c = e in cc)
vote_is (body.Promise d r) c e = absurd (let wrong : None ≡ Some c = e in cc)
vote_is (body.Propose d v) c e = absurd (let wrong : None ≡ Some c = e in cc)
vote_is (body.Vote d) c e = ap (λ x. body.Vote x) (some_same d c e)
vote_is (body.Agreed v) c e = absurd (let wrong : None ≡ Some c = e in cc)
vote_is body.Ask c e = absurd (let wrong : None ≡ Some c = e in cc)
vote_is (body.Nay d p) c e = absurd (let wrong : None ≡ Some c = e in cc)

-- the text of a message that is sent whole
abbrev pub whole_text : Message Value → Text
whole_text m = datagram_text (datagram.Whole m)

-- a vote is sent whole, so its text is the first one
first_text : (sends : List Send) (m : Message Value) (c : Claim) → message_in sends ≡ Some m
    → claim_voted m.body ≡ Some c
    → (to : ℕ) × (slice_get (datagrams_to sends) 0 ≡ Some (to, whole_text m))
first_text [] m c e votes = absurd (let wrong : None ≡ Some m = e in cc)
first_text (s ∷ ss) m c e votes =
    let same : s.message ≡ m = some_same s.message m e in
    let carried : carried_in s.message.body ≡ None = ap (λ (n : Message Value). carried_in n.body)
    same
    ∙ ap carried_in (vote_is m.body c votes) in (
      s.to,
      ap (λ o. slice_get (each_to (map datagram_text (split_by s.message o)) s.to
          ++ datagrams_to ss) 0) carried
          ∙ ap (λ (n : Message Value). Some (s.to, whole_text n)) same,
    )

-- The first text that a member sends in a step with a vote is the text of that vote.
pub text_of_vote : (step : Option Prepared) (p : Prepared) (sends : List Send) (m : Message Value)
    (c : Claim) (to : ℕ) (text : Text) → step ≡ Some p → sends ≡ p.sends → message_in sends ≡ Some m
    → claim_voted m.body ≡ Some c → Some (to, text) ≡ slice_get (datagrams_to (sends_in step)) 0
    → text ≡ whole_text m
text_of_vote step p sends m c to text stands sends_are said votes first =
    let f = first_text sends m c said votes in
    let all : sends_in step ≡ sends = ap sends_in stands ∙ sym sends_are in
    let both : (to, text) ≡ (f.0, whole_text m) = some_same (to, text) (f.0, whole_text m)
    (first ∙ ap (λ (l : List Send). slice_get (datagrams_to l) 0) all ∙ f.1) in
    ap (λ (x : ℕ × Text). x.1) both

-- and it has the place of the sender's number
pub has_sender : (m : Message Value) → sender_place < length (whole_text m)
has_sender m = omega arith

-- After each step some list follows: if a claim is decided, a build was proposed under it.
use Rattle.std.proofs.Common.{◌≡◌, ◌<◌, ℕ, Bool, true, false, List, length, Option, None, Some, refl, sym, ap, subst, ◌∙◌, ⊎_elim, inl, inr}
use Rattle.std.proofs.lemmas.Bool.{and_parts, cases_eq, true≢false}
use Rattle.faults.specs.Bytes.{Text, is_among}
use Rattle.claims.specs.AgreedList.{Act, Cluster}
use Rattle.claims.specs.Messages as messages
use Rattle.claims.specs.Quorums.{is_majority}
use Rattle.claims.specs.Votes.{Has, ballot}
use Rattle.claims.specs.World.{add_sent}
use Rattle.claims.specs.declared.claim.Claim.{Claim}
use Rattle.ballots.specs.InTheAgreement.{said as says}
use Rattle.ballots.specs.declared.message.Body.TheVariants.{Vote}
use Rattle.ballots.specs.declared.message.Message.{Message}
use Rattle.claims.specs.Claim.{IsClaim}
use Rattle.package_record.specs.Content.{Content}
use Rattle.protocol.specs.Answers.{tree_digest}
use Rattle.protocol.specs.State.{Value}
use Rattle.engine.specs.Division.{Division}
use Rattle.wire.specs.Pieces.{split_of}
use Rattle.wire.specs.Spelling.{datagram_text}
use Rattle.wire.specs.declared.datagram.Datagram.TheVariants as datagrams
use Rattle.world.specs.Lists.{IsDecided, IsListAfter, with_build}
use Rattle.world.specs.Sent.{message, voters}
use Rattle.world.specs.World.{IsMade, World, WorldNode}
use Rattle.world.proofs.SentAdditions.{among_is}
use Rattle.one_list.specs.Matches.{Matches, name_of}
use Rattle.one_list.specs.Mirrored.{after_all_acts}
use Rattle.one_list.proofs.sent.MessageHeaders.{in_order}
use Rattle.one_list.proofs.matching.LawfulMatch.{majority_within}
use Rattle.one_list.proofs.sent.SentMessages.{has_preimage}
use Rattle.one_list.proofs.matching.SpokenMessages.{added_has}
use Rattle.one_list.proofs.sent.VoteTexts.{is_that_vote}

-- if nothing new was sent, the list stays the same
pub nothing_new : (w : World) (after : List Text) → after ≡ w.sent → (list : List Content)
    × IsListAfter w after list
nothing_new w after same = (
  w.agreed,
  inr (
    λ name c d. true≢false
        (sym d.now ∙ ap (λ sent. is_majority w.weights (voters w sent name c)) same ∙ d.not_before),
    refl,
  ),
)

-- a vote as a message of the agreement
abbrev vote_there : ℕ → Claim → messages.Message Value
vote_there k c = messages.Vote k c

one_vote : (k j : ℕ) (c d : Claim) → Some (vote_there k c) ≡ Some (vote_there j d) → c ≡ d
one_vote k j c d e = cc

module _ (division : Division) (weights : List ℕ) (acts more : List (Act Value)) (w : World)
    (made : IsMade division weights)
    (of : (w.division ≡ division) × (w.weights ≡ weights))
    (m : Matches w (after_all_acts division weights acts))
    (nodes : List WorldNode) (sent : List Text) (packages : List Content)
    (after : Matches (record w { nodes = nodes; sent = sent; agreed = packages })
    (after_all_acts division weights more))
    (u : ℕ) (within : u < length w.division.units)
    (elsewhere : (q : ℕ) → (q ≡ u → ⊥)
    → ((after_all_acts division weights more).at q).sent ≡
    ((after_all_acts division weights acts).at q).sent)
    (send : Option (messages.Message Value))
    (here : ((after_all_acts division weights more).at u).sent ≡
    add_sent send ((after_all_acts division weights acts).at u).sent) where
  -- the clusters after the acts, before and after the step
  abbrev old : Cluster Value
  old = after_all_acts division weights acts

  abbrev new : Cluster Value
  new = after_all_acts division weights more

  -- a vote that was sent was said
  record IsSaidVote (name : Text) (c : Claim) (k : ℕ) : Type 0 where
    unit : ℕ
    listed : unit < length w.division.units
    about : name ≡ name_of w unit
    there : Has (new.at unit).sent (messages.Vote k c)

  said_vote : (name : Text) (c : Claim) (k : ℕ) → IsClaim c → voters w sent name c k ≡ true
      → IsSaidVote name c k
  said_vote name c k is e =
      let text = datagram_text (datagrams.Whole (message w name k (Vote c))) in
      let s = after.sent text (among_is sent text (and_parts (is_among sent text) true e).0) in
      let p = has_preimage datagram_text (split_of s.message) text s.datagram in
      let same = is_that_vote s.message p.0 k (tree_digest w.division.tree) name c
      s.went_out.is_message is s.tree p.1 p.2 in
      record {
        unit = s.unit;
        listed = s.listed;
        about = sym (ap (λ (n : Message Value). n.path) same) ∙ s.about;
        there = subst (λ (n : Message Value). Has (new.at s.unit).sent (says n.sender n.body)) same
            s.said_there;
      }

  -- it had been sent before, unless it is said now
  sent_before : (name : Text) (c : Claim) (k : ℕ) → IsSaidVote name c k
      → (send ≡ Some (messages.Vote k c) → name ≡ name_of w u → ⊥)
      → voters w w.sent name c k ≡ true
  sent_before name c k s not_now = ⊎_elim
      (λ same. ⊎_elim
      (λ before. went s.unit s.listed s.about
      (subst (λ (q : ℕ). Has (old.at q).sent (messages.Vote k c)) (sym same) before))
      (λ now. absurd (not_now now (s.about ∙ ap (name_of w) same)))
      (added_has send (old.at u).sent (messages.Vote k c)
      (subst (λ l. Has l (messages.Vote k c)) here
      (subst (λ (q : ℕ). Has (new.at q).sent (messages.Vote k c)) same s.there))))
      (λ other. went s.unit s.listed s.about
      (subst (λ l. Has l (messages.Vote k c)) (elsewhere s.unit other) s.there))
      (cases_eq s.unit u)
    where
      went : (q : ℕ) → q < length w.division.units → name ≡ name_of w q
          → Has (old.at q).sent (messages.Vote k c) → voters w w.sent name c k ≡ true
      went q lt about h = subst (λ (t : Text). voters w w.sent t c k ≡ true) (sym about)
          (m.votes q k c lt h).went_out

  -- so a claim is decided only by a vote that is said now
  none_without : (name : Text) (c : Claim)
      → ((k : ℕ) → send ≡ Some (messages.Vote k c) → name ≡ name_of w u → ⊥)
      → IsDecided w sent name c → ⊥
  none_without name c not_now d = true≢false
      (sym (majority_within w.weights (voters w sent name c) (voters w w.sent name c)
      (λ k lt e. sent_before name c k (said_vote name c k d.claim_is e) (not_now k)) d.now)
      ∙ d.not_before)

  stays : ((name : Text) (c : Claim) → IsDecided w sent name c → ⊥) → (list : List Content)
      × IsListAfter w sent list
  stays none = (w.agreed, inr (none, refl))

  -- the claim of a vote that is said has a proposal
  module _ (j : ℕ) (c : Claim) (is : send ≡ Some (messages.Vote j c)) where
    vote_is_there : Has (new.at u).sent (messages.Vote j c)
    vote_is_there = subst (λ l. Has l (messages.Vote j c)) (sym here)
        (subst (λ s. Has (add_sent s (old.at u).sent) (messages.Vote j c)) (sym is) (inl refl))

    proposal : (a : Value) × Has (new.at u).sent (messages.Propose (ballot c a))
    proposal =
        let sound = (in_order division weights more v made of after).sound u in
        let cast = sound.said (messages.Vote j c) vote_is_there in (
          cast.0,
          (sound.noted (record { member = j; ballot = ballot c cast.0 }) cast.1).proposed,
        )
      where
        v : World
        v = record w { nodes = nodes; sent = sent; agreed = packages }

    by_votes : (now before : Bool)
        → is_majority w.weights (voters w sent (name_of w u) c) ≡ now
        → is_majority w.weights (voters w w.sent (name_of w u) c) ≡ before
        → (list : List Content) × IsListAfter w sent list
    by_votes true false now before =
        let p = after.proposals u c proposal.0 within proposal.1 in (
          with_build w.agreed proposal.0,
          inl (
            proposal.0,
            record {
              name = name_of w u;
              claim = c;
              decided = record {
                claim_is = p.is_message.body.0;
                now = now;
                not_before = before;
              };
              proposed = (c.member, p);
            },
            refl,
          ),
        )
    by_votes true true now before = stays (λ name d decided. none_without name d
        (λ k e about. true≢false
        (sym before ∙ ap (λ (b : Claim). is_majority w.weights (voters w w.sent (name_of w u) b))
        (one_vote j k c d (sym is ∙ e))
        ∙ ap (λ (t : Text). is_majority w.weights (voters w w.sent t d)) (sym about)
        ∙ decided.not_before)) decided)
    by_votes false before now was = stays (λ name d decided. none_without name d
        (λ k e about. true≢false
        (sym decided.now ∙ ap (λ (t : Text). is_majority w.weights (voters w sent t d)) about
        ∙ ap (λ (b : Claim). is_majority w.weights (voters w sent (name_of w u) b))
        (sym (one_vote j k c d (sym is ∙ e)))
        ∙ now)) decided)

  -- Some list follows.
  pub some_list : (list : List Content) × IsListAfter w sent list
  some_list = by send refl
    where
      by : (o : Option (messages.Message Value)) → send ≡ o → (list : List Content)
          × IsListAfter w sent list
      by None is = stays (λ name c. none_without name c (λ k e about. absurd
          (let wrong : None ≡ Some (vote_there k c) = sym is ∙ e in cc)))
      by (Some (messages.Vote j c)) is = by_votes j c is
          (is_majority w.weights (voters w sent (name_of w u) c))
          (is_majority w.weights (voters w w.sent (name_of w u) c)) refl refl
      by (Some (messages.Offer d)) is = stays (λ name c. none_without name c (λ k e about. absurd
          (let wrong = sym is ∙ e in cc)))
      by (Some (messages.Promise p)) is = stays (λ name c. none_without name c (λ k e about. absurd
          (let wrong = sym is ∙ e in cc)))
      by (Some (messages.Propose b)) is = stays (λ name c. none_without name c (λ k e about. absurd
          (let wrong = sym is ∙ e in cc)))
      by (Some (messages.Nay i d p)) is = stays (λ name c. none_without name c (λ k e about. absurd
          (let wrong = sym is ∙ e in cc)))
      by (Some (messages.Agreed a)) is = stays (λ name c. none_without name c (λ k e about. absurd
          (let wrong = sym is ∙ e in cc)))
      by (Some messages.Ask) is = stays (λ name c. none_without name c (λ k e about. absurd
          (let wrong = sym is ∙ e in cc)))

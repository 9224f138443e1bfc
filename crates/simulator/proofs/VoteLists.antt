-- The list after a step that sends a vote.
use Rattle.std.proofs.Common.{◌≡◌, ◌<◌, ◌==◌, ◌&&◌, ℕ, zero, Bool, true, false, not, List, [], ◌∷◌, length, Option, None, Some, nat_lt, refl, sym, ap, ap₂, subst, ◌∙◌, arith, inl, inr, ⊎_elim, eq-eqb, eqb-true, lt-ltb, true≢false}
use Rattle.std.specs.Prelude.{Contains, option_and_then, if◌then◌else◌}
use Rattle.std.proofs.lemmas.Bool.{and_from, and_parts, cond-false, cond-true, or_cases, or_left, or_right}
use Rattle.std.proofs.lemmas.List.Elements.{Contains-append_right}
use Rattle.faults.specs.Answers.{option_or}
use Rattle.faults.specs.Bytes.{Text, is_among}
use Rattle.claims.specs.AgreedList.{Act, Cluster}
use Rattle.claims.specs.Claims.{claim_same}
use Rattle.claims.specs.Member as members
use Rattle.claims.specs.Nodes as nodes
use Rattle.claims.specs.Quorums.{Members, is_majority, with_member}
use Rattle.claims.specs.Votes.{Ballot, Has}
use Rattle.claims.specs.declared.claim.Claim.{Claim}
use Rattle.claims.proofs.Sound.{IsVoted}
use Rattle.ballots.specs.InTheAgreement.{note_of, said}
use Rattle.ballots.specs.declared.message.Body.{Body}
use Rattle.ballots.specs.declared.message.Body.TheVariants as bodies
use Rattle.ballots.specs.declared.message.Message.{Message}
use Rattle.ballots.specs.declared.message.Note.{Note}
use Rattle.claims.specs.Claim.{IsClaim}
use Rattle.protocol.specs.Events.{Event}
use Rattle.protocol.specs.Events.{node_of as whose}
use Rattle.one_list.specs.Local.{AreLocal}
use Rattle.one_list.specs.Matches.{Matches, log_of, name_of, node_of, packages_of}
use Rattle.one_list.specs.Mirrored.{after_all_acts, with_act}
use Rattle.one_list.proofs.acts.StepActs.{Acted, IsAct, IsDone, act, matches_then, new, stepped, world}
use Rattle.one_list.proofs.sent.MessageHeaders.{in_order}
use Rattle.one_list.proofs.uses.HostedNodes.{set_there}
use Rattle.one_list.proofs.nodes.MemberLogs.{noted_is_on_log}
use Rattle.one_list.proofs.matching.LawfulMatch.{majority_within}
use Rattle.one_list.proofs.matching.SpokenMessages.{sent_more, text_goes}
use Rattle.node.specs.Parcels.{datagrams_of}
use Rattle.node.specs.State.{with_note}
use Rattle.node.specs.Step.{after}
use Rattle.listing.specs.Tree.{position_of}
use Rattle.package_record.proofs.BuildsRead.{build_is_read}
use Rattle.protocol.specs.Answers.{Answer}
use Rattle.protocol.specs.Laws.{Says}
use Rattle.protocol.specs.State.{State, Value}
use Rattle.protocol.specs.Step.{facts_of_unit}
use Rattle.protocol.specs.declared.sends.Send.{Send}
use Rattle.engine.specs.Division.{number_found, number_of}
use Rattle.engine.proofs.Lists.{same_answers}
use Rattle.engine.proofs.Names.{name_is_found}
use Rattle.wire.specs.Messages.{IsBody}
use Rattle.world.specs.Lists.{IsDecided, IsListAfter}
use Rattle.world.specs.Sent.{WasProposed, message, voters, with_sends}
use Rattle.world.specs.World.{IsMade, World, WorldNode, member_at, node_at, up_node}
use Rattle.world.proofs.SentAdditions.{among_is, is_found, sends_stay, sends_there}
use Rattle.simulator.specs.inside.Deciding.{makes_majority, value_under, voted_by, voters_in, voters_of}
use Rattle.simulator.specs.inside.NodeSteps.{with_decision}
use Rattle.simulator.proofs.Casting.{IsNotedVote, vote_of, votes_are_noted, votes_same}
use Rattle.simulator.proofs.VoteSent.{whole_text}
use Rattle.simulator.proofs.NewVotes.{claim_is_same, fact_value, none_noted, not_decided, noted_vote, old_or_new, says_it, written}

module _ (w : World) (made : IsMade w.division w.weights) (acts : List (Act Value))
    (local : AreLocal w) (m : Matches w (after_all_acts w.division w.weights acts))
    (e : Event) (s : Acted w e)
    (a : IsAct w.division w.weights acts w made (refl, refl) local m build_is_read e s) where
  -- the cluster after the acts
  abbrev here : Cluster Value
  here = after_all_acts w.division w.weights acts

  -- the node, before and after, and its member
  abbrev k : ℕ
  k = whose e

  abbrev x : WorldNode
  x = s.node

  abbrev left : WorldNode
  left = up_node (after (node_at w k x) s.taken)

  abbrev member : State
  member = member_at w k x

  -- its answer, and the step in the theory
  abbrev answer : Answer
  answer = s.taken.answer

  abbrev d : IsDone w.division w.weights acts w made (refl, refl) local m build_is_read e s
  d = a.done

  abbrev name : Text
  name = name_of w d.unit

  -- what was sent afterwards
  abbrev sent : List Text
  sent = with_sends w.sent answer.sends

  module _ (z : Send) (there : Contains answer.sends z) (c : Claim)
      (body : z.message.body ≡ bodies.Vote c) where
    says : Says member d.unit d.outcome.send z.message
    says = says_it w made acts local m e s a z there

    is_sent : d.outcome.send ≡ Some (vote_of k c)
    is_sent = says.body ∙ ap (λ (b : Body Value). Some (said k b)) body

    claim_good : IsClaim c
    claim_good = subst (IsBody z.message.path) body (written w made acts local m e s a z there).body

    -- the vote as a message, and its text
    abbrev vote : Message Value
    vote = message w name k (bodies.Vote c)

    abbrev text : Text
    text = whole_text vote

    message_is : z.message ≡ vote
    message_is =
        let sender = says.sender in
        let tree = says.tree in
        let path = says.path in
        λ i. record { sender = sender i; tree = tree i; path = path i; body = body i }

    -- the members that sent it before, and those with this one
    abbrev before : Members
    before = voters_in w.weights w.sent text

    counted_before : (j : ℕ) → j < length w.weights → voters w w.sent name c j ≡ true
        → before j ≡ true
    counted_before j lt e =
        let t = whole_text (message w name j (bodies.Vote c)) in
        and_from (nat_lt j (length w.weights)) (is_among w.sent t) (lt-ltb j (length w.weights) lt)
        (and_parts (is_among w.sent t) true e).0

    before_counted : (j : ℕ) → before j ≡ true → voters w w.sent name c j ≡ true
    before_counted j e =
        let t = whole_text (message w name j (bodies.Vote c)) in
        and_from (is_among w.sent t) true
        (and_parts (nat_lt j (length w.weights)) (is_among w.sent t) e).1 refl

    same_before : is_majority w.weights before ≡ is_majority w.weights (voters w w.sent name c)
    same_before = same_answers (is_majority w.weights before)
        (is_majority w.weights (voters w w.sent name c))
        (majority_within w.weights before (voters w w.sent name c) (λ j lt e. before_counted j e))
        (majority_within w.weights (voters w w.sent name c) before (λ j lt e. counted_before j lt
        e))

    goes_out : Contains sent text
    goes_out = sends_there w.sent answer.sends text (text_goes answer.sends z text there
        (subst (λ (n : Message Value). Contains (datagrams_of n) text) (sym message_is)
        (zero, omega arith, refl)))

    counted_then : (j : ℕ) → j < length w.weights → voters w sent name c j ≡ true
        → with_member before k j ≡ true
    counted_then j lt voted = ⊎_elim
        (λ old. or_right (j == k) (before j) (counted_before j lt old))
        (λ new. or_left (j == k) (before j) (eq-eqb j k
        (votes_same c c k j (sym is_sent ∙ new.0)).0))
        (old_or_new w made acts local m e s a name c j claim_good voted)

    then_counted : (j : ℕ) → with_member before k j ≡ true → voters w sent name c j ≡ true
    then_counted j e = ⊎_elim
        (λ same. subst (λ (i : ℕ). voters w sent name c i ≡ true) (sym (eqb-true j k same))
        (and_from (is_among sent text) true (is_found sent text goes_out) refl))
        (λ old. let t = whole_text (message w name j (bodies.Vote c)) in
        and_from (is_among sent t) true (is_found sent t (sends_stay w.sent answer.sends t
        (among_is w.sent t (and_parts (is_among w.sent t) true (before_counted j old)).0))) refl)
        (or_cases (j == k) (before j) e)

    same_then : is_majority w.weights (with_member before k)
        ≡ is_majority w.weights (voters w sent name c)
    same_then = same_answers (is_majority w.weights (with_member before k))
        (is_majority w.weights (voters w sent name c))
        (majority_within w.weights (with_member before k) (voters w sent name c)
        (λ j lt e. then_counted j e))
        (majority_within w.weights (voters w sent name c) (with_member before k)
        (λ j lt e. counted_then j lt e))

    -- whether the vote makes a majority, by the test and in fact
    majority_is : makes_majority w.weights (voters_of w.weights w.sent z.message) z.message.sender
        ≡ (is_majority w.weights (voters w sent name c)
        && not (is_majority w.weights (voters w w.sent name c)))
    majority_is =
        ap (λ (n : Message Value). makes_majority w.weights (voters_of w.weights w.sent n)
        n.sender) message_is
        ∙ ap₂ (λ p q. p && not q) same_then same_before

    -- ---- its build

    noted : IsNotedVote k (nodes.view (node_of w k x) d.unit) d.outcome k c
    noted = (votes_are_noted k (nodes.view (node_of w k x) d.unit) (is_majority w.weights)
        (here.at d.unit).sent d.input d.outcome d.answered).each k c is_sent

    abbrev b : Ballot Value
    b = noted.ballot

    -- it is the one that the step votes for
    unit_found : number_found w.division z.message.path ≡ Some d.unit
    unit_found = ap (number_found w.division) says.path
        ∙ ap (λ o. option_or o (option_and_then (number_of w.division)
        (position_of w.division.tree name))) (name_is_found w.division d.unit made.divided d.within)

    value_is : voted_by member answer.note z.message.path c ≡ Some b.value
    value_is = ⊎_elim
        (λ now. let n = noted_vote answer.note b (d.is.note ∙ now) in
        ap (λ o. voted_by member o z.message.path c) n.is
        ∙ fact_value n.note.fact b c n.votes noted.claim)
        (λ last. ap (λ o. voted_by member o z.message.path c)
        (none_noted answer.note (d.is.note ∙ last.0))
        ∙ ap (λ o. option_and_then (value_under c) (facts_of_unit member o).voted) unit_found
        ∙ ap (option_and_then (value_under c)) last.1
        ∙ cond-true (claim_same b.claim c) (Some b.value) None
        (claim_is_same b.claim c noted.claim))
        noted.noted

    -- and it was proposed
    abbrev cluster_then : Cluster Value
    cluster_then = new w.division w.weights acts w made (refl, refl) local m build_is_read e s a

    abbrev world_then : World
    world_then = world w.division w.weights acts w made (refl, refl) local m build_is_read e s a
        (packages_of (stepped w.division w.weights acts w made (refl, refl) local m build_is_read e
        s a).list)

    match_then : Matches world_then cluster_then
    match_then = matches_then w.division w.weights acts w made (refl, refl) local m build_is_read e
        s a

    noted_then : (n : Note Value) → answer.note ≡ Some n → n.path ≡ name
        → note_of n.fact ≡ members.Voted b → Has ((cluster_then.at d.unit).logs k) (members.Voted b)
    noted_then n is path votes =
        subst (λ l. Has l (members.Voted b))
        (sym (match_then.logs k d.unit left (set_there w.nodes k x left s.acts.is_up.stands)
        d.within))
        (subst (Has (log_of world_then d.unit left)) votes
        (noted_is_on_log world_then d.unit left n
        (subst (λ o. Contains (with_note x.notes o) n) (sym is)
        (Contains-append_right x.notes (n ∷ []) n (zero, omega arith, refl))) path))

    by_note : d.outcome.note ≡ Some (members.Voted b) → WasProposed w sent name b.claim b.value
    by_note now =
        let n = noted_vote answer.note b (d.is.note ∙ now) in
        let h = noted_then n.note n.is (d.is.noted n.note n.is) n.votes in
        let sound = (in_order w.division w.weights
        (with_act acts (Some (act w.division w.weights acts w made (refl, refl) local m
        build_is_read e s a))) world_then made (refl, refl) match_then).sound d.unit in (
          b.claim.member,
          match_then.proposals d.unit b.claim b.value d.within
              (sound.noted (record { member = k; ballot = b }) h).proposed,
        )

    by_last : (nodes.view (node_of w k x) d.unit).voted ≡ Some b
        → WasProposed w sent name b.claim b.value
    by_last last =
        let sound = (in_order w.division w.weights acts w made (refl, refl) m).sound d.unit in
        let voted : ((here.at d.unit).members k).voted ≡ Some b =
        ap (λ (z : members.Member Value). z.voted) (m.members k d.unit x s.acts.is_up.stands
        d.within) ∙ last in
        let log = (subst (λ o. IsVoted ((here.at d.unit).logs k) o
        ((here.at d.unit).members k).promised) voted (sound.voted k)).0 in (
          b.claim.member,
          sent_more w.sent answer.sends _ (m.proposals d.unit b.claim b.value d.within
              (sound.noted (record { member = k; ballot = b }) log).proposed),
        )

    proposed : WasProposed w sent name c b.value
    proposed = subst (λ (c : Claim). WasProposed w sent name c b.value) noted.claim
        (⊎_elim by_note (λ last. by_last last.1) noted.noted)

    -- ---- so the list is extended by that build if the vote makes a majority

    abbrev IsListWith : Option Value → Type 0
    IsListWith o = IsListAfter w sent (with_decision w.agreed o)

    abbrev tested : Bool
    tested = makes_majority w.weights (voters_of w.weights w.sent z.message) z.message.sender

    abbrev value : Option Value
    value = voted_by member answer.note z.message.path c

    -- no other claim is decided
    none_other : ((t : Text) (g : Claim) → g ≡ c → t ≡ name → IsDecided w sent t g → ⊥)
        → (t : Text) (g : Claim) → IsDecided w sent t g → ⊥
    none_other other t g is = not_decided w made acts local m e s a t g
        (λ j send about. other t g (sym (votes_same c g k j (sym is_sent ∙ send)).1) about is) is

    stays : tested ≡ false
        → ((t : Text) (g : Claim) → g ≡ c → t ≡ name → IsDecided w sent t g → ⊥)
        → IsListWith (if tested then value else None)
    stays off other = subst IsListWith (sym (cond-false tested value None off))
        (inr (none_other other, refl))

    by_votes : (now was : Bool) → is_majority w.weights (voters w sent name c) ≡ now
        → is_majority w.weights (voters w w.sent name c) ≡ was
        → IsListWith (if tested then value else None)
    by_votes true false now was =
        subst IsListWith
        (sym (cond-true tested value None (majority_is ∙ ap₂ (λ p q. p && not q) now was)
        ∙ value_is))
        (inl (
          b.value,
          record {
            name = name;
            claim = c;
            decided = record { claim_is = claim_good; now = now; not_before = was };
            proposed = proposed;
          },
          refl,
        ))
    by_votes true true now was = stays (majority_is ∙ ap₂ (λ p q. p && not q) now was)
        (λ t g claim about is. true≢false
        (sym was ∙ ap₂ (λ (n : Text) (f : Claim). is_majority w.weights (voters w w.sent n f))
        (sym about) (sym claim)
        ∙ is.not_before))
    by_votes false was now e = stays (majority_is ∙ ap₂ (λ p q. p && not q) now e)
        (λ t g claim about is. true≢false
        (sym is.now ∙ ap₂ (λ (n : Text) (f : Claim). is_majority w.weights (voters w sent n f))
        about claim
        ∙ now))

    pub vote_lists : IsListWith (if tested then value else None)
    vote_lists = by_votes (is_majority w.weights (voters w sent name c))
        (is_majority w.weights (voters w w.sent name c)) refl refl

-- The last promise of a majority, if a vote was reported: its build is proposed to all.
use Rattle.std.proofs.Common.{◌≡◌, ◌<◌, ◌+◌, ℕ, true, List, [], ◌∷◌, length, Option, Some, sym, ap, subst, ◌∙◌, arith, append-nil}
use Rattle.std.specs.Prelude.{Contains}
use Rattle.std.proofs.lemmas.List.{length-append, length-map}
use Rattle.claims.specs.Member.{Gathering, Member, Voting}
use Rattle.claims.specs.Messages as theory
use Rattle.claims.specs.Nodes as nodes
use Rattle.claims.specs.Quorums.{Members, is_majority, nobody, with_member}
use Rattle.claims.specs.Step.{Outcome, on_quorum, says}
use Rattle.claims.specs.Votes.{Ballot, Reaches, ballot, kept_report}
use Rattle.claims.specs.declared.claim.Claim.{Claim}
use Rattle.ballots.specs.declared.message.Body.{Body}
use Rattle.ballots.specs.declared.message.Message.{Message}
use Rattle.protocol.specs.Events as events
use Rattle.node.specs.Parcels.{datagrams_of}
use Rattle.protocol.specs.Answers.{answered, everyone}
use Rattle.protocol.specs.State.{State, Value}
use Rattle.protocol.specs.Step.{host_in, outcome_of}
use Rattle.engine.specs.Division.{Division}
use Rattle.ways_on.specs.Ways.{LeadsTo}
use Rattle.ways_on.specs.inside.Listed.{deliveries}
use Rattle.ways_on.proofs.Asking.{Promised, Stands, hears_promise, in_then, its, member_then, outcome_is, stands_so, theirs, was_asked, weigh_then}
use Rattle.ways_on.proofs.Counting.{becomes, its_unit}
use Rattle.ways_on.proofs.Gathering.{Gathers, asks_by, count_of, same_promise}
use Rattle.ways_on.proofs.Hearing.{HeardBy}
use Rattle.ways_on.proofs.NotYet.{gathers_fresh}
use Rattle.ways_on.proofs.Proposing.{IsPolled, is_polled}
use Rattle.ways_on.proofs.Reached.{its_acts, its_match, its_own}
use Rattle.ways_on.proofs.Replies.{is_quorum}
use Rattle.wire.specs.Pieces.{split_of}
use Rattle.wire.specs.Spelling.{datagram_text}
use Rattle.world.specs.World.{IsMade, World, member_at}
use Rattle.one_list.specs.Matches.{node_of}

module _ (division : Division) (weights : List ℕ) (made : IsMade division weights)
    (u : ℕ) (c : Claim) (me : ℕ) (at0 : ℕ) (told : ℕ → Option (Ballot Value)) (host : ℕ)
    (had : ℕ → Option Value) (own : c.member ≡ me) (all : List ℕ)
    (news : (j : ℕ) → Contains all j → Reaches (told j) c → ⊥)
    (b : Ballot Value) where
  module _ (S : Members) (report : Option (Ballot Value)) (done : List ℕ) (k : ℕ) (w : World)
      (s : Gathers division weights made u c me at0 told host had S report done (k ∷ []) w)
      (old : (j : ℕ) → Contains done j → j ≡ k → ⊥)
      (enough : is_majority weights (with_member S k) ≡ true)
      (kept : kept_report report (told k) ≡ Some b)
      (asked : (j : ℕ) → Contains all j → Contains (k ∷ done) j) where
    alone : (j : ℕ) → Contains [] j → j ≡ k → ⊥
    alone j at = absurd (omega (arith, at.1))

    abbrev Promises : World → Type 0
    Promises = Promised division weights made u c me at0 told host had w k (Gathering c S report) tt
        done [] s alone old

    abbrev promise : Message Value
    promise = theirs division weights made u c me at0 told host had w k (Gathering c S report) tt
        done [] s alone old

    -- after the promise arrived
    module _ (then : World) (h : Promises then) where
      abbrev z : Stands division weights made u c me at0 told host had w k (Gathering c S report) tt
          done [] s alone old then h
      z = stands_so division weights made u c me at0 told host had w k (Gathering c S report) tt
          done [] s alone old then h

      abbrev message_then : Message Value
      message_then = its division weights made u c me at0 told host had w k (Gathering c S report)
          tt done [] s alone old then h

      abbrev body : Body Value
      body = message_then.body

      abbrev member : Member Value
      member = member_then division weights made u c me at0 told host had w k
          (Gathering c S report) tt done [] s alone old then h

      within_then : u < length then.division.units
      within_then = in_then division weights made u c me at0 told host had w k
          (Gathering c S report) tt done [] s alone old then h

      abbrev outcome : Outcome Value
      outcome = says (record member { stage = Voting (ballot c b.value) nobody })
          (theory.Propose (ballot c b.value))

      is : outcome_of (member_at then me z.node) u k body ≡ outcome
      is = outcome_is division weights made u c me at0 told host had w k (Gathering c S report) tt
          done [] s alone old then h outcome
          (is_quorum (is_majority weights) member c S report k (told k) enough
          ∙ ap (on_quorum member c) kept)

      module _ (y : World) (g : HeardBy division weights made then h.heard.reached me z.node z.there
          z.on message_then (z.node).pieces y) where
        member_is : nodes.view (node_of then me g.node) u ≡ outcome.member
        member_is = becomes division weights made then h.heard.reached me z.node z.there z.on u
            within_then k body (z.node).pieces y g outcome is

        abbrev s_then : State
        s_then = member_at then me z.node

        sends_are : g.answer.sends
            ≡ (answered s_then u (host_in s_then.claim) (everyone s_then) outcome).sends
        sends_are =
            ap (λ a. a.sends) g.answer_is
            ∙ ap (λ q. (answered s_then q (host_in s_then.claim) (everyone s_then)
            (outcome_of s_then q k body)).sends)
            (its_unit division weights made then h.heard.reached me z.node z.there z.on u
            within_then k body (z.node).pieces y g)
            ∙ ap (λ (o : Outcome Value). (answered s_then u (host_in s_then.claim)
            (everyone s_then) o).sends) is

        polled : IsPolled division weights made u c me all told b.value (length then.sent) y
        polled = is_polled division weights made then h.heard.reached me z.node z.there u
            within_then c b.value
            (gathers_fresh division weights (its_acts division weights made then h.heard.reached)
            then made (its_own division weights made then h.heard.reached)
            (its_match division weights made then h.heard.reached) u within_then me z.node z.there c
            S report z.as_far)
            g.answer.sends sends_are g.written y g.sent own
            (weigh_then division weights made u c me at0 told host had w k (Gathering c S report) tt
            done [] s alone old then h)
            g.reached g.division_is g.weights_are g.node g.nodes_are g.is_on g.pieces
            (ap (λ (m : Member Value). m.stage) member_is) all at0 told host had
            (λ j at. was_asked division weights made u c me at0 told host had w k
            (Gathering c S report) tt done [] s alone old then h y g
            (Voting (ballot c b.value) nobody) tt member_is j (asked j at))
            news

      sent_then : length then.sent ≡ length w.sent + length (split_of promise)
      sent_then = ap length h.sent ∙ length-append w.sent (datagrams_of promise)
          ∙ ap (λ n. length w.sent + n) (length-map (split_of promise) datagram_text)

    -- The last node is asked, and votes can be collected.
    pub last_proposes : LeadsTo
        (IsPolled division weights made u c me all told b.value
        (length w.sent + count_of division weights made u c me at0 told host had k)) w
        (asks_by division weights made u c me at0 told host had (length w.sent) (k ∷ []))
    last_proposes =
        subst (λ es. LeadsTo
        (IsPolled division weights made u c me all told b.value
        (length w.sent + count_of division weights made u c me at0 told host had k)) w
        (events.Deliver at0 k ∷ es))
        (sym (append-nil (deliveries (length w.sent)
        (count_of division weights made u c me at0 told host had k) me)))
        (subst (λ m. LeadsTo
        (IsPolled division weights made u c me all told b.value
        (length w.sent + length (split_of m))) w
        (events.Deliver at0 k ∷ deliveries (length w.sent) (length (split_of m)) me))
        (same_promise division weights made u c me at0 told host had w k (Gathering c S report) tt
        done [] s alone old)
        (hears_promise division weights made u c me at0 told host had w k (Gathering c S report) tt
        done [] s alone old
        (IsPolled division weights made u c me all told b.value
        (length w.sent + length (split_of promise)))
        (λ then h y g.
        subst (λ n. IsPolled division weights made u c me all told b.value n y) (sent_then then h)
        (polled then h y g))))

-- The effect of a promise and of a vote on the open claim of the node that receives them.
use Rattle.std.proofs.Common.{◌≡◌, ◌<◌, ℕ, true, false, List, length, Option, None, Some, slice_get, is_some, sym, ap, ap₂, subst, ◌∙◌}
use Rattle.claims.specs.Member.{Building, Closed, Gathering, Held, Member, Voting}
use Rattle.claims.specs.Messages as theory
use Rattle.claims.specs.Nodes as nodes
use Rattle.claims.specs.Quorums.{Members, is_majority, with_member}
use Rattle.claims.specs.Step.{Outcome, notes_and_says, on_promise, on_vote, still}
use Rattle.claims.specs.Votes.{Ballot, kept_report, report_of}
use Rattle.claims.specs.declared.claim.Claim.{Claim}
use Rattle.ballots.specs.declared.message.Body.{Body}
use Rattle.ballots.specs.declared.message.Body.TheVariants as bodies
use Rattle.protocol.specs.Answers.{answered, sends_of}
use Rattle.protocol.specs.InTheAgreement.{view}
use Rattle.protocol.specs.Restoring.{restored}
use Rattle.protocol.specs.State.{Value, fresh, is_held}
use Rattle.protocol.specs.Step.{host_in, outcome_of, receivers}
use Rattle.engine.specs.Division.{Division}
use Rattle.engine.proofs.Names.{name_is_found}
use Rattle.ways_on.specs.Ways.{HoldsUnit}
use Rattle.ways_on.proofs.Hearing.{HeardBy}
use Rattle.ways_on.proofs.Pieces.{put_there}
use Rattle.ways_on.proofs.Reached.{IsReached, its_acts, its_match, its_own}
use Rattle.ways_on.proofs.Replies.{is_counted, is_decided, is_joined, is_quorum}
use Rattle.wire.specs.declared.datagram.Piece.{Piece}
use Rattle.world.specs.Sent.{message, with_sends}
use Rattle.world.specs.World.{IsMade, World, WorldNode, member_at}
use Rattle.one_list.specs.Matches.{name_of, node_of}
use Rattle.one_list.proofs.nodes.EqualParts.{some_same}
use Rattle.one_list.proofs.sent.MessageHeaders.{divided}

module _ (division : Division) (weights : List ℕ) (made : IsMade division weights) (w : World)
    (r : IsReached division weights made w) (k : ℕ) (x : WorldNode)
    (stands : slice_get w.nodes k ≡ Some x) (up : x.up ≡ true)
    (u : ℕ) (within : u < length w.division.units) where
  -- the node as a member
  abbrev its : Member Value
  its = view (member_at w k x) u

  module _ (from : ℕ) (body : Body Value) (kept : List Piece) (then : World)
      (b : HeardBy division weights made w r k x stands up (message w (name_of w u) from body)
      kept then) where
    pub its_unit : b.answers.unit ≡ u
    its_unit = some_same b.answers.unit u (sym b.answers.named
        ∙ name_is_found w.division u (divided division weights (its_acts division weights made w r)
        w made (its_own division weights made w r) (its_match division weights made w r)) within)

    -- If the theory's member has this outcome, the node is the outcome's member.
    pub becomes : (o : Outcome Value) → outcome_of (member_at w k x) u from body ≡ o
        → nodes.view (node_of w k b.node) u ≡ o.member
    becomes o e = subst (λ q. nodes.view (node_of w k b.node) q
        ≡ (outcome_of (member_at w k x) q from body).member) its_unit b.here
        ∙ ap (λ (z : Outcome Value). z.member) e

    -- The node sends nothing, if the outcome says nothing.
    pub quiet : (o : Outcome Value) → outcome_of (member_at w k x) u from body ≡ o
        → o.send ≡ None → then.sent ≡ w.sent
    quiet o e none =
        b.sent ∙ ap (with_sends w.sent)
        (ap (λ a. a.sends) b.answer_is
        ∙ ap (λ q. (answered (member_at w k x) q (host_in (member_at w k x).claim)
        (receivers (member_at w k x) from body)
        (outcome_of (member_at w k x) q from body)).sends) its_unit
        ∙ ap (λ (z : Outcome Value). (answered (member_at w k x) u
        (host_in (member_at w k x).claim) (receivers (member_at w k x) from body) z).sends) e
        ∙ ap (λ s. sends_of (member_at w k x) u (receivers (member_at w k x) from body) s) none)

  -- A promise that doesn't complete a majority is added to the claim that gathers promises.
  pub joins : (c : Claim) (S : Members) (report : Option (Ballot Value)) (from : ℕ)
      (told : Option (Claim × Value)) → its.stage ≡ Gathering c S report
      → is_majority w.weights (with_member S from) ≡ false
      → outcome_of (member_at w k x) u from (bodies.Promise c told)
      ≡ still (record its
      { stage = Gathering c (with_member S from) (kept_report report (report_of told)) })
  joins c S report from told stage less =
      ap (λ s. on_promise (is_majority w.weights) its s
      (record { member = from; claim = c; report = report_of told })) stage
      ∙ is_joined (is_majority w.weights) its c S report from (report_of told) less

  -- A promise that completes a majority makes the claim wait for a build, if nothing was reported.
  pub builds_anew : (c : Claim) (S : Members) (from : ℕ)
      → its.stage ≡ Gathering c S None
      → is_majority w.weights (with_member S from) ≡ true
      → outcome_of (member_at w k x) u from (bodies.Promise c None)
      ≡ still (record its { stage = Building c })
  builds_anew c S from stage enough =
      ap (λ s. on_promise (is_majority w.weights) its s
      (record { member = from; claim = c; report = None })) stage
      ∙ is_quorum (is_majority w.weights) its c S None from None enough

  -- A vote that doesn't complete a majority is counted.
  pub counts : (p : Ballot Value) (S : Members) (from : ℕ) → its.stage ≡ Voting p S
      → is_majority w.weights (with_member S from) ≡ false
      → outcome_of (member_at w k x) u from (bodies.Vote p.claim)
      ≡ still (record its { stage = Voting p (with_member S from) })
  counts p S from stage less =
      ap (λ s. on_vote (is_majority w.weights) its s from p.claim) stage
      ∙ is_counted (is_majority w.weights) its p S from less

  -- A vote that completes a majority decides: the node holds the unit.
  pub decides : (p : Ballot Value) (S : Members) (from : ℕ) → its.stage ≡ Voting p S
      → is_majority w.weights (with_member S from) ≡ true → (kept : List Piece) (then : World)
      → HeardBy division weights made w r k x stands up
      (message w (name_of w u) from (bodies.Vote p.claim)) kept then
      → HoldsUnit then k u
  decides p S from stage enough kept then b = record {
    node = b.node;
    stands = ap (λ l. slice_get l k) b.nodes_are ∙ put_there w.nodes k x b.node stands;
    up = b.is_on;
    held = same_held
        ∙ ap (λ (z : Member Value). is_some z.held)
        (becomes from (bodies.Vote p.claim) kept then b
        (notes_and_says (record its { held = Some p.value; stage = Closed }) (Held p.value)
        (theory.Agreed p.value))
        (ap (λ s. on_vote (is_majority w.weights) its s from p.claim) stage
        ∙ is_decided (is_majority w.weights) its p S from enough));
  }
    where
      same_held : is_held (member_at then k b.node) u ≡ is_held (member_at w k b.node) u
      same_held = ap₂ (λ (d : Division) (l : List ℕ). is_held (record (restored (fresh d l k)
          b.node.notes) { claim = b.node.claim }) u) b.division_is b.weights_are

-- A step of a node is a step of its member: an act after which the world matches, and after which
-- some list follows.
use Rattle.std.proofs.Common.{◌≡◌, ◌<◌, ℕ, true, List, [], length, Some, slice_set, sym, ap, subst, ◌∙◌}
use Rattle.std.specs.Prelude.{All}
use Rattle.std.proofs.lemmas.List.Elements.{All-weaker}
use Rattle.faults.specs.Bytes.{Text}
use Rattle.claims.specs.Agreed.{decided_value}
use Rattle.claims.specs.AgreedList.{Act, Cluster, cluster_after, elsewhere, list_with, lookup, may_happen}
use Rattle.claims.specs.Member.{Closed}
use Rattle.claims.specs.Messages as messages
use Rattle.claims.specs.Nodes as nodes
use Rattle.claims.specs.Quorums.{is_majority}
use Rattle.claims.specs.Step as theory
use Rattle.claims.specs.Step.{Outcome}
use Rattle.claims.specs.Votes.{Ballot}
use Rattle.claims.specs.World.{Take, add_sent, after_any, after_event, outcome, run}
use Rattle.protocol.specs.Events.{Event, node_of as whose}
use Rattle.node.specs.Step.{Taken, after}
use Rattle.package_record.specs.Content.{Content}
use Rattle.package_record.specs.Laws.{BuildTextIsReadAgain}
use Rattle.protocol.specs.Laws.{GoesOut, IsOutcome, Says}
use Rattle.protocol.specs.State.{State, Value}
use Rattle.protocol.specs.Step.{members_of}
use Rattle.protocol.specs.declared.sends.Send.{Send}
use Rattle.engine.specs.Division.{Division}
use Rattle.wire.specs.Messages.{IsMessage}
use Rattle.world.specs.Happening.{Acts, Steps}
use Rattle.world.specs.Lists.{IsListAfter}
use Rattle.world.specs.Sent.{with_sends}
use Rattle.world.specs.World.{IsMade, World, WorldNode, member_at, node_at, up_node}
use Rattle.one_list.specs.MatchingLaws.{IsOneActMore}
use Rattle.one_list.specs.Local.{AreLocal}
use Rattle.one_list.specs.Matches.{Matches, node_of, packages_of}
use Rattle.one_list.specs.Mirrored.{IsActOf, after_all_acts, with_act}
use Rattle.one_list.specs.Needs.{may_build}
use Rattle.one_list.proofs.matching.ActsByPath.{act_is}
use Rattle.one_list.proofs.matching.CutSteps.{made_here}
use Rattle.one_list.proofs.builds.Decisions.{list_is}
use Rattle.one_list.proofs.nodes.ClaimsNamed.{IsNaming, body_names}
use Rattle.one_list.proofs.nodes.WritableStates.{is_one}
use Rattle.one_list.proofs.builds.SomeList.{some_list}
use Rattle.one_list.proofs.matching.SpokenMessages.{world_matches}
use Rattle.one_list.proofs.matching.MatchAfterEvent.{IsLeftAs, sent_here, sent_there}
use Rattle.one_list.proofs.matching.MemberSteps.{is_as_before, left_so, takes}
use Rattle.one_list.proofs.matching.StopActs.{one_more}

-- The event's node takes this step, whichever list follows.
pub record Acted (w : World) (e : Event) : Type 0 where
  pub node : WorldNode
  pub taken : Taken
  pub acts : Acts w e node taken

-- a step that is taken has been acted
abbrev pub acted : (w v : World) (e : Event) → Steps w e v → Acted w e
acted w v e s = record { node = s.node; taken = s.taken; acts = s.acts }

module _ (division : Division) (weights : List ℕ) (acts : List (Act Value)) (w : World)
    (made : IsMade division weights)
    (of : (w.division ≡ division) × (w.weights ≡ weights)) (local : AreLocal w)
    (m : Matches w (after_all_acts division weights acts))
    (again : BuildTextIsReadAgain) (e : Event) (s : Acted w e) where
  -- the cluster after the acts
  abbrev here : Cluster Value
  here = after_all_acts division weights acts

  -- the node before and after, and its member
  abbrev k : ℕ
  k = whose e

  abbrev x : WorldNode
  x = s.node

  abbrev then : WorldNode
  then = up_node (after (node_at w k x) s.taken)

  abbrev member : State
  member = member_at w k x

  -- The step for a unit, in the theory. What it says can be encoded, and names members.
  pub record IsDone : Type 0 where
    pub unit : ℕ
    pub within : unit < length w.division.units
    pub input : theory.Input Value
    pub outcome : Outcome Value
    pub answered : theory.answer (is_majority weights) k (nodes.view (node_of w k x) unit)
        (here.at unit).sent input ≡ Some outcome
    pub is : IsOutcome member unit outcome s.taken.answer
    pub out : GoesOut member outcome s.taken.answer
    pub written : All (λ (z : Send). IsMessage z.message) s.taken.answer.sends
    pub names : IsNaming (length w.weights) k outcome

  -- The step is an act there: what is built is allowed, and for the other units the node is what
  -- the act leaves of its member.
  pub record IsAct : Type 0 where
    pub done : IsDone
    pub allowed : may_happen (may_build division) here done.unit (Take k done.input) ≡ true
    pub there : (q : ℕ) → (q ≡ done.unit → ⊥) → q < length w.division.units
        → (run (is_majority weights) (elsewhere (Take k done.input)) (here.at q)).members k ≡
        nodes.view (node_of w k then) q
    pub is : IsActOf w e (Some (record { path = done.unit; event = Take k done.input }))

  module _ (a : IsAct) where
    abbrev d : IsDone
    d = a.done

    abbrev pub act : Act Value
    act = record { path = d.unit; event = Take k d.input }

    abbrev pub new : Cluster Value
    new = after_all_acts division weights (with_act acts (Some act))

    abbrev pub stepped : Cluster Value
    stepped = cluster_after (is_majority weights) here d.unit (Take k d.input)

    its_made : IsMade w.division w.weights
    its_made = made_here division weights acts w made of local m

    -- the member takes the input
    taken : outcome (is_majority weights) (here.at d.unit) (Take k d.input) ≡ Some d.outcome
    taken = takes (is_majority weights) w its_made here m k x s.acts.is_up.stands s.acts.is_up.up
        d.unit d.within d.input d.outcome s.taken d.answered d.is

    -- so the act has the effect of its event
    same : new ≡ stepped
    same = one_more division weights acts w m act
        ∙ act_is Value (is_majority weights) (may_build division) here d.unit (Take k d.input)
        d.outcome a.allowed taken

    left : IsLeftAs w (is_majority weights) here d.unit (Take k d.input) d.outcome x then
    left = left_so (is_majority weights) w its_made here m k x s.acts.is_up.stands s.acts.is_up.up
        d.unit d.within d.input d.outcome s.taken d.answered d.is a.there

    -- the claims in what is sent are of members
    claimers : All (λ (z : Send). All (λ k. k < length w.weights) (members_of z.message.body))
        s.taken.answer.sends
    claimers = All-weaker (λ (z : Send). Says member d.unit d.outcome.send z.message)
        (λ (z : Send). All (λ k. k < length w.weights) (members_of z.message.body))
        (λ z says. body_names (length w.weights) k (is_one w its_made local k x s.acts.is_up.stands)
        z.message.body (d.names.send _ says.body))
        s.taken.answer.sends d.is.sends

    own : (b : Ballot Value) → d.outcome.send ≡ Some (messages.Propose b) → b.claim.member ≡ k
    own b is = d.names.send (messages.Propose b) is

    -- the world after the step, if its list is that of the agreements
    abbrev sent : List Text
    sent = with_sends w.sent s.taken.answer.sends

    abbrev pub world : List Content → World
    world packages = record w { nodes = slice_set w.nodes k then; sent = sent; agreed = packages }

    stands_so : Matches (world (packages_of stepped.list)) stepped
    stands_so = world_matches w (is_majority weights) here m d.unit d.within (Take k d.input)
        d.outcome taken x then s.acts.is_up.stands left
        s.taken.answer d.is.sends d.out d.written claimers
        (is_one w its_made local k x s.acts.is_up.stands) own

    pub matches_then : Matches (world (packages_of stepped.list)) new
    matches_then = subst (Matches (world (packages_of stepped.list))) (sym same) stands_so

    others : (q : ℕ) → (q ≡ d.unit → ⊥) → (new.at q).sent ≡ (here.at q).sent
    others q ne = ap (λ (c : Cluster Value). (c.at q).sent) same
        ∙ sent_there w (is_majority weights) here m d.unit d.within (Take k d.input) d.outcome taken
        x then s.acts.is_up.stands left q ne

    sent_then : (after_event (is_majority weights) (here.at d.unit) (Take k d.input)).sent ≡
        (new.at d.unit).sent
    sent_then =
        ap (λ o. (after_any (here.at d.unit) k o).sent) taken
        ∙ sym (sent_here w (is_majority weights) here m d.unit d.within (Take k d.input) d.outcome
        taken x then s.acts.is_up.stands left)
        ∙ sym (ap (λ (c : Cluster Value). (c.at d.unit).sent) same)

    said_then : (new.at d.unit).sent ≡ add_sent d.outcome.send (here.at d.unit).sent
    said_then =
        ap (λ (c : Cluster Value). (c.at d.unit).sent) same
        ∙ sent_here w (is_majority weights) here m d.unit d.within (Take k d.input) d.outcome taken
        x then s.acts.is_up.stands left

    goes_on : new.list ≡ list_with d.unit here.list (lookup here.list d.unit)
        (decided_value (is_majority weights) (new.at d.unit).sent (new.at d.unit).sent)
    goes_on = ap (λ (c : Cluster Value). c.list) same
        ∙ ap (λ l. list_with d.unit here.list (lookup here.list d.unit)
        (decided_value (is_majority weights) l l)) sent_then

    -- some list follows after the step
    pub has_list : (list : List Content) × IsListAfter w sent list
    has_list =
        some_list division weights acts (with_act acts (Some act)) w made of m
        (slice_set w.nodes k then) sent (packages_of stepped.list) matches_then
        d.unit d.within others d.outcome.send said_then

    -- each list that may follow is that of the agreements
    pub lists : (list : List Content) → IsListAfter w sent list → list ≡ packages_of stepped.list
    lists list is =
        list_is division weights acts (with_act acts (Some act)) w made of m
        (slice_set w.nodes k then) sent (packages_of stepped.list) matches_then again
        d.unit d.within others goes_on list is
        ∙ ap (λ (c : Cluster Value). packages_of c.list) same

  -- the effect of a step on the other units, if it opens no claim
  pub no_other : (d : IsDone) → elsewhere (Take k d.input) ≡ []
      → ((nodes.view (node_of w k x) d.unit).stage ≡ Closed → d.outcome.member.stage ≡ Closed)
      → (q : ℕ) → (q ≡ d.unit → ⊥) → q < length w.division.units
      → (run (is_majority weights) (elsewhere (Take k d.input)) (here.at q)).members k ≡ nodes.view
      (node_of w k then) q
  no_other d none closed q ne lt =
      ap (λ es. (run (is_majority weights) es (here.at q)).members k) none
      ∙ m.members k q x s.acts.is_up.stands lt
      ∙ is_as_before (is_majority weights) w (made_here division weights acts w made of local m)
      here m k x s.acts.is_up.stands s.acts.is_up.up
      d.unit d.within d.input d.outcome s.taken d.answered d.is closed q ne

-- So if the step is taken, the event is one more act, and no other list may follow.
module _ (division : Division) (weights : List ℕ) (acts : List (Act Value)) (w : World)
    (made : IsMade division weights)
    (of : (w.division ≡ division) × (w.weights ≡ weights)) (local : AreLocal w)
    (m : Matches w (after_all_acts division weights acts))
    (again : BuildTextIsReadAgain) (e : Event) (v : World) (s : Steps w e v)
    (a : IsAct division weights acts w made of local m again e (acted w v e s)) where
  pub only_list : (list : List Content)
      → IsListAfter w (with_sends w.sent s.taken.answer.sends) list → list ≡ v.agreed
  only_list list is =
      lists division weights acts w made of local m again e (acted w v e s) a list is
      ∙ sym (lists division weights acts w made of local m again e (acted w v e s) a v.agreed
      s.list)

  pub is_one_act_more : IsOneActMore division weights acts w e v
  is_one_act_more = (
    Some (act division weights acts w made of local m again e (acted w v e s) a),
    a.is,
    subst (λ z. Matches z (new division weights acts w made of local m again e (acted w v e s) a))
        (sym (s.leaves ∙ ap (world division weights acts w made of local m again e (acted w v e s)
        a)
        (lists division weights acts w made of local m again e (acted w v e s) a v.agreed s.list)))
        (matches_then division weights acts w made of local m again e (acted w v e s) a),
  )

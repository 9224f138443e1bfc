-- An event of a node's own that the node takes happens.
use Rattle.std.proofs.Common.{◌≡◌, ◌<◌, ℕ, true, false, List, [], ◌∷◌, length, Some, slice_get, slice_set, refl, sym, ap, subst, ◌∙◌, inl, inr, ⊎_elim}
use Rattle.std.specs.Prelude.{All}
use Rattle.claims.specs.Nodes as nodes
use Rattle.claims.specs.Quorums.{is_majority}
use Rattle.claims.specs.Step as theory
use Rattle.claims.specs.Step.{Outcome}
use Rattle.engine.specs.declared.Letter.{Letter}
use Rattle.protocol.specs.Events as events
use Rattle.protocol.specs.Events.{Event, is_step}
use Rattle.node.specs.Ranges.{CanBeWritten}
use Rattle.node.specs.Step.{Does, Taken, after, taken}
use Rattle.node.proofs.ranges.Written.{answers_written}
use Rattle.package_record.specs.Content.{Content}
use Rattle.protocol.specs.Answers.{Answer, answered}
use Rattle.protocol.specs.InTheAgreement.{view}
use Rattle.protocol.specs.Laws.{IsNoMessage, IsOutcome}
use Rattle.protocol.specs.Member.{IsInput, IsMember}
use Rattle.protocol.specs.State.{State, Value, facts_at}
use Rattle.protocol.specs.Step as members
use Rattle.protocol.specs.Step.{IsLetterOf, unit_claimed}
use Rattle.protocol.specs.declared.input.Input.{Input}
use Rattle.protocol.specs.declared.sends.Send.{Send}
use Rattle.protocol.proofs.Asked.{IsLocal, asked_is}
use Rattle.engine.specs.Division.{Division}
use Rattle.engine.proofs.Names.{name_is_found}
use Rattle.ways_on.specs.Ways.{LeadsTo}
use Rattle.ways_on.proofs.Reached.{IsReached, goes, its_acts, its_local, its_match, its_own, none_before, reached_then}
use Rattle.wire.specs.Messages.{IsMessage}
use Rattle.world.specs.Happening.{Acts, Asks, Happens, Steps, is_bad_stop, is_restart, lacks_datagram, leaves_note, stepped, up_of}
use Rattle.world.specs.Sent.{with_sends}
use Rattle.world.specs.World.{IsMade, World, WorldNode, member_at, node_at, up_node}
use Rattle.one_list.specs.Matches.{node_of}
use Rattle.one_list.specs.Mirrored.{after_all_acts}
use Rattle.one_list.proofs.nodes.StepsInTheory.{answers_with}
use Rattle.one_list.proofs.matching.CutSteps as cutting
use Rattle.one_list.proofs.acts.InputActs.{good_input}
use Rattle.one_list.proofs.nodes.NodesAsMembers.{facts_there, node_is_member}
use Rattle.one_list.proofs.nodes.WritableStates.{in_range}
use Rattle.one_list.proofs.matching.MemberSteps as stepping

-- The event asks its node for this, and is an ordinary step.
pub record IsPlain (w : World) (e : Event) (input : Input) : Type 0 where
  pub asks : Asks w e (Does input)
  pub step : is_step e ≡ true
  pub noted : leaves_note e ≡ true
  pub good : is_bad_stop e ≡ false
  pub other : is_restart e ≡ false
  pub there : lacks_datagram w e ≡ false
  pub happens : (v : World) → Steps w e v → Happens w e v

module _ (division : Division) (weights : List ℕ) (made : IsMade division weights) (w : World)
    (r : IsReached division weights made w) (e : Event) (x : WorldNode)
    (stands : slice_get w.nodes (events.node_of e) ≡ Some x) (up : x.up ≡ true)
    (u : ℕ) (within : u < length w.division.units) where
  -- the node, and its member
  abbrev pub k : ℕ
  k = events.node_of e

  abbrev s : State
  s = member_at w k x

  -- The node did this for the unit, and nothing else happened.
  pub record DidSo (o : Outcome Value) (a : Answer) (v : World) : Type 0 where
    pub reached : IsReached division weights made v
    pub division_is : v.division ≡ w.division
    pub weights_are : v.weights ≡ w.weights
    pub node : WorldNode
    pub nodes_are : v.nodes ≡ slice_set w.nodes k node
    pub is_on : node.up ≡ true
    pub pieces : node.pieces ≡ x.pieces
    pub claim_is : node.claim ≡ a.claim
    pub written : All (λ (z : Send). IsMessage z.message) a.sends
    pub sent : v.sent ≡ with_sends w.sent a.sends
    pub here : nodes.view (node_of w k node) u ≡ o.member
    pub there : (q : ℕ) → (q ≡ u → ⊥) → facts_at (member_at w k node) q ≡ facts_at s q

  pub made_there : IsMade w.division w.weights
  made_there = cutting.made_here division weights (its_acts division weights made w r) w made
      (its_own division weights made w r) (its_local division weights made w r)
      (its_match division weights made w r)

  pub is_member : IsMember s
  is_member = node_is_member w made_there (its_local division weights made w r) k x stands

  module _ (input : Input) (plain : IsPlain w e input) (can : IsInput input)
      (none : IsNoMessage input) (letter : Letter)
      (shown : IsLetterOf s (unit_claimed s input) letter) (what : theory.Input Value)
      (local : IsLocal what) (host : ℕ) (to : List ℕ) (o : Outcome Value)
      (theirs : theory.answer (is_majority w.weights) k (view s u) [] what ≡ Some o)
      (given : members.answer s letter input ≡ answers_with (answered s u host to o)) where
    abbrev a : Answer
    a = answered s u host to o

    abbrev t : Taken
    t = record { answer = a; pieces = x.pieces }

    is : IsOutcome s u o a
    is = asked_is s u host to what o is_member (subst (λ n. u < n) (sym is_member.each) within)
        (name_is_found w.division u made_there.divided within) local theirs

    written_so : CanBeWritten s a
    written_so = answers_written s letter input a is_member
        (in_range w made_there (its_local division weights made w r) k x stands)
        (good_input input none) given

    acts : Acts w e x t
    acts = record {
      is_up = record { stands = stands; up = up };
      asked = Does input;
      asks = plain.asks;
      can_be = can;
      takes = record {
        letter = letter;
        shown = shown;
        right_is = sym (ap (taken x.pieces) given);
      };
    }

    done : (list : List Content) → IsReached division weights made (stepped w k x t list)
        → DidSo o a (stepped w k x t list)
    done list reached = record {
      reached = reached;
      division_is = refl;
      weights_are = refl;
      node = up_node (after (node_at w k x) t);
      nodes_are = refl;
      is_on = refl;
      pieces = refl;
      claim_is = refl;
      written = written_so.sends;
      sent = refl;
      here = sym (stepping.is_member (is_majority weights) w made_there
          (after_all_acts division weights (its_acts division weights made w r))
          (its_match division weights made w r) k x stands up u within what o t
          (cutting.answered division weights (its_acts division weights made w r) w made
          (its_own division weights made w r) (its_local division weights made w r)
          (its_match division weights made w r) k x u what o up theirs) is);
      there = λ q ne. facts_there w k x (up_node (after (node_at w k x) t)) u o a is refl q ne;
    }

    -- So the event happens, unless the log is full.
    pub does : LeadsTo (DidSo o a) w (e ∷ [])
    does = (
      ap up_of stands ∙ up,
      ⊎_elim
          (λ h.
          let happens = plain.happens (stepped w k x t h.0) h.1 in inl (
            stepped w k x t h.0,
            happens,
            done h.0 (reached_then division weights made w (stepped w k x t h.0) e r happens),
          ))
          (λ full. inr full)
          (goes division weights made w r e x t plain.step plain.noted
          (none_before w e x plain.good plain.other stands up plain.there) acts),
    )

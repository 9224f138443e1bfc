-- A step of a node is its member's: afterwards the node and its log are the member's.
use Rattle.std.proofs.Common.{◌≡◌, ◌<◌, ℕ, true, List, [], length, Some, option_map, slice_get, refl, sym, ap, ap₂, ◌∙◌, inl, inr, true≢false}
use Rattle.claims.specs.AgreedList.{Cluster, elsewhere}
use Rattle.claims.specs.Member.{Closed, Member, facts_of}
use Rattle.claims.specs.Nodes as nodes
use Rattle.claims.specs.Quorums.{Quorums, is_majority}
use Rattle.claims.specs.Step as theory
use Rattle.claims.specs.Step.{Outcome}
use Rattle.claims.specs.World.{Take, outcome, run, when}
use Rattle.claims.proofs.Nodes.{stage_here, stage_there}
use Rattle.faults.specs.Bytes.{Text}
use Rattle.protocol.specs.Events.{Event, node_of as whose}
use Rattle.node.specs.Step.{Taken, after}
use Rattle.protocol.specs.InTheAgreement.{claim_of}
use Rattle.protocol.specs.Laws.{IsOutcome}
use Rattle.protocol.specs.State.{Value, facts_at}
use Rattle.world.specs.Happening.{Steps}
use Rattle.world.specs.Lists.{IsListAfter}
use Rattle.world.specs.Sent.{voters, with_sends}
use Rattle.world.specs.World.{IsMade, World, WorldNode, member_at, node_at, up_node, with_node}
use Rattle.one_list.specs.Matches.{Matches, node_of}
use Rattle.one_list.proofs.nodes.NodesAsMembers.{facts_here, facts_there, log_stays, log_then}
use Rattle.one_list.proofs.matching.MatchAfterEvent.{IsLeftAs}

module _ (enough : Quorums) (w : World) (made : IsMade w.division w.weights) (c : Cluster Value)
    (m : Matches w c)
    (k : ℕ) (x : WorldNode) (stands : slice_get w.nodes k ≡ Some x) (up : x.up ≡ true)
    (u : ℕ) (within : u < length w.division.units) (input : theory.Input Value) (o : Outcome Value)
    (t : Taken)
    (answered : theory.answer enough k (nodes.view (node_of w k x) u) (c.at u).sent input ≡ Some o)
    (is : IsOutcome (member_at w k x) u o t.answer) where
  -- the node after the step
  abbrev then : WorldNode
  then = up_node (after (node_at w k x) t)

  -- the member takes the input
  pub takes : outcome enough (c.at u) (Take k input) ≡ Some o
  takes =
      ap (λ (z : Member Value). when z.up (theory.answer enough k z (c.at u).sent input))
      (m.members k u x stands within)
      ∙ ap (λ b. when b (theory.answer enough k (nodes.view (node_of w k x) u) (c.at u).sent input))
      up
      ∙ answered

  -- its open claim after the step, and that it is up
  pub claims : option_map claim_of t.answer.claim ≡ nodes.claim_then (option_map claim_of x.claim) u
      o.member.stage
  claims = ap (λ (n : nodes.Node Value). n.claim) is.node

  is_up : o.member.up ≡ true
  is_up = sym (ap (λ (n : nodes.Node Value). n.up) is.node)

  -- the node is the member, for the unit of the step
  pub is_member : o.member ≡ nodes.view (node_of w k then) u
  is_member =
      let g : facts_of o.member ≡ facts_at (member_at w k then) u =
      sym (facts_here w k x then u o t.answer is refl) in
      let n : o.member.stage ≡ nodes.stage_at (option_map claim_of t.answer.claim) u =
      sym (ap (λ c. nodes.stage_at c u) claims
      ∙ stage_here (option_map claim_of x.claim) u o.member.stage) in
      λ i. record {
        opened = (g i).opened;
        promised = (g i).promised;
        voted = (g i).voted;
        held =
            (g i).held;
        up = is_up i;
        stage = n i;
      }

  -- for the other units it is as before, unless the step opens a claim
  pub is_as_before : ((nodes.view (node_of w k x) u).stage ≡ Closed → o.member.stage ≡ Closed)
      → (q : ℕ) → (q ≡ u → ⊥)
      → nodes.view (node_of w k x) q ≡ nodes.view (node_of w k then) q
  is_as_before closed q ne =
      let g : facts_at (member_at w k x) q ≡ facts_at (member_at w k then) q =
      sym (facts_there w k x then u o t.answer is refl q ne) in
      let n : nodes.stage_at (option_map claim_of x.claim) q ≡ nodes.stage_at
      (option_map claim_of t.answer.claim) q =
      sym (ap (λ c. nodes.stage_at c q) claims
      ∙ stage_there (option_map claim_of x.claim) u q o.member.stage ne closed) in
      λ i. record {
        opened = (g i).opened;
        promised = (g i).promised;
        voted = (g i).voted;
        held =
            (g i).held;
        up = up i;
        stage = n i;
      }

  -- so node and log are those of the member
  pub left_so : ((q : ℕ) → (q ≡ u → ⊥) → q < length w.division.units
      → (run enough (elsewhere (Take k input)) (c.at q)).members k ≡ nodes.view (node_of w k then)
      q)
      → IsLeftAs w enough c u (Take k input) o x then
  left_so there = record {
    here = is_member;
    there = there;
    noted = log_then w made u x then t.answer.note o.note refl is.note is.noted;
    kept = λ q ne lt. log_stays w made q u x then t.answer.note refl is.noted within lt ne;
  }

-- ---- the world after a step that sends nothing

-- if nothing new was sent, nothing is decided
pub list_same : (w : World) (after : List Text) (list : _) → after ≡ w.sent
    → IsListAfter w after list → list ≡ w.agreed
list_same w after list same (inl (build, d, e)) =
    absurd (true≢false
    (sym d.decided.now ∙ ap (λ sent. is_majority w.weights (voters w sent d.name d.claim)) same
    ∙ d.decided.not_before))
list_same w after list same (inr (none, e)) = e

-- so only the node changes
pub only_the_node : (w v : World) (e : Event) (s : Steps w e v) → s.taken.answer.sends ≡ []
    → v ≡ with_node w (whose e) (up_node (after (node_at w (whose e) s.node) s.taken))
only_the_node w v e s none =
    let sent : with_sends w.sent s.taken.answer.sends ≡ w.sent = ap (with_sends w.sent) none in
    let list = list_same w (with_sends w.sent s.taken.answer.sends) v.agreed sent s.list in
    s.leaves ∙ ap₂ (λ texts packages.
    record (with_node w (whose e) (up_node (after (node_at w (whose e) s.node) s.taken))) {
      sent
          = texts;
      agreed = packages;
    }) sent list

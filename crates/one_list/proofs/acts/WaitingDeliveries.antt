-- A delivery after which its message still waits is no act.
use Rattle.std.proofs.Common.{◌≡◌, ℕ, Bool, true, List, [], Option, Some, None, slice_get, sym, ap, ap₂, subst, ◌∙◌, ⊎_elim}
use Rattle.claims.specs.AgreedList.{Act, Cluster}
use Rattle.claims.specs.Member as theory_members
use Rattle.claims.specs.Nodes as nodes
use Rattle.claims.proofs.Nodes.{get_set}
use Rattle.ballots.specs.declared.message.Note.{Note}
use Rattle.protocol.specs.Events as events
use Rattle.node.specs.State.{with_note}
use Rattle.node.specs.Step.{after, nothing}
use Rattle.package_record.specs.Laws.{BuildTextIsReadAgain}
use Rattle.protocol.specs.Answers.{Answer}
use Rattle.protocol.specs.State.{OpenClaim, Value}
use Rattle.engine.specs.Division.{Division}
use Rattle.world.specs.Happening.{Steps}
use Rattle.world.specs.World.{IsMade, World, WorldNode, member_at, node_at, up_node, with_node}
use Rattle.one_list.specs.MatchingLaws.{IsOneActMore}
use Rattle.one_list.specs.Local.{AreLocal}
use Rattle.one_list.specs.Matches.{Matches, log_of, node_of}
use Rattle.one_list.specs.Mirrored.{after_all_acts}
use Rattle.one_list.proofs.matching.MemberSteps.{only_the_node}

-- a node with equal notes and an equal claim, that is up or down as before, is the same member
same_node_matches : (w : World) (c : Cluster Value) → Matches w c → (k : ℕ) (x y : WorldNode)
    → slice_get w.nodes k ≡ Some x
    → x.notes ≡ y.notes → x.up ≡ y.up → x.claim ≡ y.claim → Matches (with_node w k y) c
same_node_matches w c m k x y stands notes up claim = record {
  members = λ j u z g lt. ⊎_elim
      (λ h. ap (c.at u).members h.0 ∙ m.members k u x stands lt
      ∙ ap (λ (n : nodes.Node Value). nodes.view n u) same
      ∙ ap₂ (λ i n. nodes.view (node_of w i n) u) (sym h.0) (sym h.1))
      (λ h. m.members j u z h.1 lt)
      (get_set w.nodes k j y z g);
  logs = λ j u z g lt. ⊎_elim
      (λ h. ap (c.at u).logs h.0 ∙ m.logs k u x stands lt ∙ ap (log_with u) notes
      ∙ ap (log_of w u) (sym h.1))
      (λ h. m.logs j u z h.1 lt)
      (get_set w.nodes k j y z g);
  sent = λ text h. let s = m.sent text h in record {
    message = s.message;
    unit = s.unit;
    went_out = s.went_out;
    datagram = s.datagram;
    listed = s.listed;
    about = s.about;
    tree = s.tree;
    sender = s.sender;
    claimers = s.claimers;
    said_there = s.said_there;
  };
  votes = m.votes;
  proposals = m.proposals;
  list = m.list;
  units = m.units;
}
  where
    log_with : (u : ℕ) (notes : List (Note Value)) → List (theory_members.Note Value)
    log_with u notes =
        log_of w u (record { notes = notes; behind = []; up = true; claim = None; pieces = [] })

    same : node_of w k x ≡ node_of w k y
    same =
        ap (λ (ns : List (Note Value)). node_of w k
        (record { notes = ns; behind = []; up = x.up; claim = x.claim; pieces = [] })) notes
        ∙ ap (λ (b : Bool). node_of w k
        (record { notes = y.notes; behind = []; up = b; claim = x.claim; pieces = [] })) up
        ∙ ap (λ (c : Option OpenClaim). node_of w k
        (record { notes = y.notes; behind = []; up = y.up; claim = c; pieces = [] })) claim

module _ (division : Division) (weights : List ℕ) (acts : List (Act Value)) (w : World)
    (made : IsMade division weights)
    (of : (w.division ≡ division) × (w.weights ≡ weights)) (local : AreLocal w)
    (m : Matches w (after_all_acts division weights acts))
    (again : BuildTextIsReadAgain) (d n : ℕ) (v : World) (s : Steps w (events.Deliver d n) v) where
  -- the cluster after the acts
  abbrev here : Cluster Value
  here = after_all_acts division weights acts

  abbrev then : WorldNode
  then = up_node (after (node_at w n s.node) s.taken)

  -- A piece that is already kept, or after which its message still waits, is no act.
  pub waiting_is_none : s.taken.answer ≡ nothing (member_at w n s.node)
      → IsOneActMore division weights acts w (events.Deliver d n) v
  waiting_is_none none = (
    None,
    tt,
    subst (λ z. Matches z here) (sym
        (only_the_node w v (events.Deliver d n) s (ap (λ (a : Answer). a.sends) none)))
        (same_node_matches w here m n s.node then s.acts.is_up.stands
        (sym (ap (λ (a : Answer). with_note s.node.notes a.note) none)) s.acts.is_up.up
        (sym (ap (λ (a : Answer). a.claim) none))),
  )

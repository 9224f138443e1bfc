-- An event preserves the match, if one node changed as its member did.
use Rattle.std.proofs.Common.{◌≡◌, ◌<◌, ℕ, length, Some, None, slice_get, slice_set, sym, ap, ap₂, subst, ◌∙◌, ⊎_elim}
use Rattle.std.specs.Prelude.{All}
use Rattle.std.proofs.lemmas.Bool.{cases_eq}
use Rattle.faults.specs.Bytes.{Text}
use Rattle.claims.specs.Agreed.{IsValue}
use Rattle.claims.specs.AgreedList.{Cluster, cluster_after, elsewhere, lookup}
use Rattle.claims.specs.Messages as theory_says
use Rattle.claims.specs.Nodes as nodes
use Rattle.claims.specs.Quorums.{AreQuorums, Quorums}
use Rattle.claims.specs.Step.{Outcome}
use Rattle.claims.specs.Votes.{Has, ballot}
use Rattle.claims.specs.World as theory
use Rattle.claims.specs.World.{Event, add_note, add_sent, member_of, outcome, run}
use Rattle.claims.proofs.AgreedList.{elsewhere_sent}
use Rattle.claims.proofs.Kept.{put_same}
use Rattle.claims.proofs.Nodes.{elsewhere_other, get_set, put_other}
use Rattle.ballots.specs.InTheAgreement.{said as says}
use Rattle.protocol.specs.State.{Value}
use Rattle.world.specs.World.{World, WorldNode, with_node}
use Rattle.one_list.specs.Matches.{IsSaid, Matches, log_of, node_of, packages_of}
use Rattle.one_list.proofs.matching.ActsByPath.{at_here, at_there, elsewhere_logs, list_stays}

-- Node k was x and is now y, as its member is after an event for unit u with this outcome; and the
-- node noted what the member noted.
pub record IsLeftAs (w : World) (enough : Quorums) (c : Cluster Value) (u : ℕ) (e : Event Value)
    (o : Outcome Value) (x y : WorldNode) : Type 0 where
  pub here : o.member ≡ nodes.view (node_of w (member_of e) y) u
  pub there : (q : ℕ) → (q ≡ u → ⊥) → q < length w.division.units
      → (run enough (elsewhere e) (c.at q)).members (member_of e) ≡ nodes.view
      (node_of w (member_of e) y) q
  pub noted : add_note o.note (log_of w u x) ≡ log_of w u y
  pub kept : (q : ℕ) → (q ≡ u → ⊥) → q < length w.division.units → log_of w q x ≡ log_of w q y

module _ (w : World) (enough : Quorums) (c : Cluster Value) (m : Matches w c) (u : ℕ)
    (within : u < length w.division.units)
    (e : Event Value) (o : Outcome Value) (answered : outcome enough (c.at u) e ≡ Some o)
    (x y : WorldNode)
    (stands : slice_get w.nodes (member_of e) ≡ Some x) (left : IsLeftAs w enough c u e o x y) where
  -- the agreements after the event
  abbrev then : Cluster Value
  then = cluster_after enough c u e

  -- node j, for the unit of the event
  member_here : (j : ℕ) (z : WorldNode) → slice_get (slice_set w.nodes (member_of e) y) j ≡ Some z
      → (then.at u).members j ≡ nodes.view (node_of w j z) u
  member_here j z g = ap (λ t. t.members j) (at_here Value enough c u e o answered) ∙ ⊎_elim
      (λ h. ap (theory.put (c.at u).members (member_of e) o.member) h.0
      ∙ put_same (c.at u).members (member_of e) o.member
      ∙ left.here ∙ ap₂ (λ k n. nodes.view (node_of w k n) u) (sym h.0) (sym h.1))
      (λ h. put_other (c.at u).members (member_of e) j o.member h.0 ∙ m.members j u z h.1 within)
      (get_set w.nodes (member_of e) j y z g)

  -- node j, for the other units
  member_there : (j q : ℕ) (z : WorldNode)
      → slice_get (slice_set w.nodes (member_of e) y) j ≡ Some z → (q ≡ u → ⊥)
      → q < length w.division.units → (then.at q).members j ≡ nodes.view (node_of w j z) q
  member_there j q z g ne lt = ap (λ t. t.members j) (at_there Value enough c u q e ne) ∙ ⊎_elim
      (λ h. ap (run enough (elsewhere e) (c.at q)).members h.0 ∙ left.there q ne lt
      ∙ ap₂ (λ k n. nodes.view (node_of w k n) q) (sym h.0) (sym h.1))
      (λ h. elsewhere_other Value enough (c.at q) e j h.0 ∙ m.members j q z h.1 lt)
      (get_set w.nodes (member_of e) j y z g)

  -- each node is the member there
  pub members_then : (j q : ℕ) (z : WorldNode)
      → slice_get (slice_set w.nodes (member_of e) y) j ≡ Some z
      → q < length w.division.units → (then.at q).members j ≡ nodes.view (node_of w j z) q
  members_then j q z g lt = ⊎_elim
      (λ same. subst (λ p. (then.at p).members j ≡ nodes.view (node_of w j z) p) (sym same)
      (member_here j z g))
      (λ ne. member_there j q z g ne lt)
      (cases_eq q u)

  -- the log of node j, for the unit of the event
  log_here : (j : ℕ) (z : WorldNode) → slice_get (slice_set w.nodes (member_of e) y) j ≡ Some z
      → (then.at u).logs j ≡ log_of w u z
  log_here j z g = ap (λ t. t.logs j) (at_here Value enough c u e o answered) ∙ ⊎_elim
      (λ h. ap (theory.put (c.at u).logs (member_of e)
      (add_note o.note ((c.at u).logs (member_of e)))) h.0
      ∙ put_same (c.at u).logs (member_of e) _
      ∙ ap (add_note o.note) (m.logs (member_of e) u x stands within) ∙ left.noted
      ∙ ap (log_of w u) (sym h.1))
      (λ h. put_other (c.at u).logs (member_of e) j _ h.0 ∙ m.logs j u z h.1 within)
      (get_set w.nodes (member_of e) j y z g)

  -- the log of node j, for the other units
  log_there : (j q : ℕ) (z : WorldNode) → slice_get (slice_set w.nodes (member_of e) y) j ≡ Some z
      → (q ≡ u → ⊥)
      → q < length w.division.units → (then.at q).logs j ≡ log_of w q z
  log_there j q z g ne lt = ap (λ t. t.logs j) (at_there Value enough c u q e ne)
      ∙ elsewhere_logs Value enough (c.at q) e j ∙ ⊎_elim
      (λ h. ap (c.at q).logs h.0 ∙ m.logs (member_of e) q x stands lt ∙ left.kept q ne lt
      ∙ ap (log_of w q) (sym h.1))
      (λ h. m.logs j q z h.1 lt)
      (get_set w.nodes (member_of e) j y z g)

  -- each node noted what the member there noted
  pub logs_then : (j q : ℕ) (z : WorldNode)
      → slice_get (slice_set w.nodes (member_of e) y) j ≡ Some z
      → q < length w.division.units → (then.at q).logs j ≡ log_of w q z
  logs_then j q z g lt = ⊎_elim
      (λ same. subst (λ p. (then.at p).logs j ≡ log_of w p z) (sym same) (log_here j z g))
      (λ ne. log_there j q z g ne lt)
      (cases_eq q u)

  -- at the unit of the event, what is said is put in front of what was said; at other units nothing
  -- changes
  pub sent_here : (then.at u).sent ≡ add_sent o.send (c.at u).sent
  sent_here = ap (λ t. t.sent) (at_here Value enough c u e o answered)

  pub sent_there : (q : ℕ) → (q ≡ u → ⊥) → (then.at q).sent ≡ (c.at q).sent
  sent_there q ne = ap (λ t. t.sent) (at_there Value enough c u q e ne)
      ∙ elsewhere_sent Value enough (c.at q) e

  -- if nothing is said, what was sent is the same
  pub sent_same : o.send ≡ None → (q : ℕ) → (then.at q).sent ≡ (c.at q).sent
  sent_same none q = ⊎_elim
      (λ same. subst (λ p. (then.at p).sent ≡ (c.at p).sent) (sym same)
      (sent_here ∙ ap (λ s. add_sent s (c.at u).sent) none))
      (sent_there q)
      (cases_eq q u)

  -- so an event that says nothing preserves the match, if only that node changed
  pub quiet_matches : AreQuorums enough → IsValue enough (c.at u) (lookup c.list u) → o.send ≡ None
      → Matches (with_node w (member_of e) y) then
  quiet_matches quorums value none = record {
    members = members_then;
    logs = λ j q z g lt. logs_then j q z g lt;
    sent = λ text h. said text (m.sent text h);
    votes = λ q n b lt h. m.votes q n b lt (subst (λ s. Has s (theory_says.Vote n b))
        (sent_same none q) h);
    proposals = λ q b v lt h. m.proposals q b v lt
        (subst (λ s. Has s (theory_says.Propose (ballot b v))) (sent_same none q) h);
    list = m.list ∙ ap packages_of (sym same_list);
    units = subst (All (λ n. n.path < length w.division.units)) (sym same_list) m.units;
  }
    where
      same_list : then.list ≡ c.list
      same_list = list_stays Value enough quorums c u e o value answered none

      said : (text : Text) → IsSaid w c text → IsSaid (with_node w (member_of e) y) then text
      said text s = record {
        message = s.message;
        unit = s.unit;
        went_out = s.went_out;
        datagram = s.datagram;
        listed = s.listed;
        about = s.about;
        tree = s.tree;
        sender = s.sender;
        claimers = s.claimers;
        said_there = subst (λ l. Has l (says s.message.sender s.message.body))
            (sym (sent_same none s.unit)) s.said_there;
      }

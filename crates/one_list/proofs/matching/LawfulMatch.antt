-- What is lawful in the agreements holds of a world that matches them: proposals, promises, and
-- later proposals.
use Rattle.std.proofs.Common.{◌≡◌, ◌<◌, ◌≤◌, ◌+◌, ◌&&◌, ℕ, suc, Bool, true, false, List, [], ◌∷◌, length, Option, None, Some, refl, sym, ap, subst, ◌∙◌, arith, if◌then◌else◌, ltb-true, lt-ltb, nat_le, nat_lt, slice_get}
use Rattle.std.specs.Prelude.{Contains}
use Rattle.std.specs.List.{list_all}
use Rattle.std.proofs.lemmas.Bool.{and_from, and_parts, leb-true}
use Rattle.faults.specs.Bytes.{Text}
use Rattle.claims.specs.Agreed as theory
use Rattle.claims.specs.AgreedList.{Act, Cluster}
use Rattle.claims.specs.Member as members
use Rattle.claims.specs.Messages as messages
use Rattle.claims.specs.Quorums.{Members, is_majority, weight}
use Rattle.claims.specs.Votes.{Ballot, Has, IsReported, PromiseOf, Reaches, ballot, report_of}
use Rattle.claims.specs.World.{IsLawfulWorld, WasPromised, WasProposed, WasVoted}
use Rattle.claims.specs.declared.claim.Claim.{Claim}
use Rattle.claims.proofs.Kept.{sent_vote}
use Rattle.claims.proofs.Majorities.{majorities}
use Rattle.claims.proofs.Synod.{repeats}
use Rattle.ballots.specs.InTheAgreement.{note_of}
use Rattle.ballots.specs.Weights.{AreWeights, is_weight}
use Rattle.ballots.specs.declared.message.Body.TheVariants.{Promise, Propose, Vote}
use Rattle.ballots.specs.declared.message.Fact.{Fact}
use Rattle.ballots.specs.declared.message.Fact.TheVariants as fact
use Rattle.ballots.specs.declared.message.Message.{Message}
use Rattle.claims.specs.Claim.{most_members}
use Rattle.package_record.specs.Laws.{BuildTextIsReadAgain}
use Rattle.protocol.specs.State.{Value}
use Rattle.engine.specs.Division.{Division}
use Rattle.engine.proofs.Names.{name_tells}
use Rattle.wire.specs.Messages.{IsMessage}
use Rattle.one_list.specs.Safety.{HasNotedVote, LaterRepeats, OneProposal, PromisesBound, ReportsAtLeast, SentVotesAreNoted}
use Rattle.world.specs.Sent.{WasSent, message, voters}
use Rattle.world.specs.World.{IsMade, World, WorldNode}
use Rattle.world.proofs.Growth.{get_some}
use Rattle.one_list.specs.Local.{AreLocal}
use Rattle.one_list.specs.Matches.{Matches, WasSaid, log_of, name_of}
use Rattle.one_list.specs.Mirrored.{after_all_acts}
use Rattle.one_list.proofs.sent.MessageHeaders.{divided, in_order, lawful_there, sent_was_said}
use Rattle.one_list.proofs.nodes.MemberLogs.{noted_is_on_log, on_log_was_noted}

-- ---- majorities count only members

-- a superset weighs no less
weight_within : (ws : List ℕ) (S R : Members) → ((k : ℕ) → k < length ws → S k ≡ true → R k ≡ true)
    → weight ws S ≤ weight ws R
weight_within [] S R h = omega arith
weight_within (w ∷ ws) S R h =
    here (S 0) (R 0) refl refl (weight_within ws (λ k. S (suc k)) (λ k. R (suc k))
    (λ k lt. h (suc k) (omega (arith, lt))))
  where
    here : (s r : Bool) → S 0 ≡ s → R 0 ≡ r
        → weight ws (λ k. S (suc k)) ≤ weight ws (λ k. R (suc k))
        → (if S 0 then w else 0) + weight ws (λ k. S (suc k)) ≤ (if R 0 then w else 0) + weight ws
        (λ k. R (suc k))
    here true true e f l = rw (e, f) (omega arith)
    here true false e f l = absurd (let t : R 0 ≡ true = h 0 (omega arith) e in let wrong : false ≡
        true = sym f ∙ t in cc)
    here false true e f l = rw (e, f) (omega arith)
    here false false e f l = rw (e, f) (omega arith)

pub majority_within : (ws : List ℕ) (S R : Members)
    → ((k : ℕ) → k < length ws → S k ≡ true → R k ≡ true)
    → is_majority ws S ≡ true → is_majority ws R ≡ true
majority_within ws S R h s = let m =
    weight_within ws S R h in lt-ltb _ _ (omega (arith, ltb-true _ _ s))

-- there are at most nine members
pub few_members : (weights : List ℕ) → AreWeights weights → length weights ≤ most_members
few_members weights are =
    let counted = and_parts (nat_le 1 (length weights) && nat_le (length weights) most_members)
    (list_all is_weight weights) are in
    leb-true (length weights) most_members (and_parts (nat_le 1 (length weights))
    (nat_le (length weights) most_members) counted.0).1

-- equal notes of votes are of equal votes
pub ballot_noted : (a b : Ballot Value) → members.Voted a ≡ members.Voted b → a ≡ b
ballot_noted a b e = cc

vote_noted : (f : Fact Value) (c : Claim) (v : Value) → note_of f ≡ members.Voted (ballot c v)
    → f ≡ fact.Voted c v
vote_noted (fact.Opened round) c v e =
    absurd (let wrong : members.Opened round ≡ members.Voted (ballot c v) = e in cc)
vote_noted (fact.Promised d) c v e =
    absurd (let wrong : members.Promised d ≡ members.Voted (ballot c v) = e in cc)
vote_noted (fact.Voted d x) c v e = ap (λ (b : Ballot Value). fact.Voted b.claim b.value)
    (ballot_noted (ballot d x) (ballot c v) e)
vote_noted (fact.Held x) c v e =
    absurd (let wrong : members.Held x ≡ members.Voted (ballot c v) = e in cc)

module _ (division : Division) (weights : List ℕ) (acts : List (Act Value)) (w : World)
    (made : IsMade division weights)
    (of : (w.division ≡ division) × (w.weights ≡ weights))
    (m : Matches w (after_all_acts division weights acts)) (again : BuildTextIsReadAgain) where
  -- the cluster after the acts
  abbrev here : Cluster Value
  here = after_all_acts division weights acts

  -- what was sent about a unit was said there
  said_at : (n : Message Value) → WasSent w.sent n → WasSaid w here n
  said_at = sent_was_said division weights acts w made of m again

  -- equal names are of one unit
  one_unit : (u v : ℕ) (name : Text) → u < length w.division.units → v < length w.division.units
      → name ≡ name_of w u → name ≡ name_of w v → u ≡ v
  one_unit u v name lu lv eu ev =
      name_tells w.division u v (divided division weights acts w made of m) lu lv (sym eu ∙ ev)

  -- A claim has at most one proposal.
  pub one_proposal : OneProposal w
  one_proposal name c a b first second =
      let f = said_at (message w name first.0 (Propose c a)) first.1 in
      let s = said_at (message w name second.0 (Propose c b)) second.1 in
      let e = one_unit s.unit f.unit name s.listed f.listed s.about f.about in
      (lawful_there division weights acts w made of m f.unit).one c a b f.said_there
      (subst (λ (u : ℕ). Has (here.at u).sent (messages.Propose (ballot c b))) e s.said_there)

  -- a vote of a unit's member was noted by its node
  vote_was_noted : (u k : ℕ) (x : WorldNode) (name : Text) (c : Claim) (v : Value)
      → u < length w.division.units → name ≡ name_of w u → slice_get w.nodes k ≡ Some x
      → WasVoted (here.at u) (record { member = k; ballot = ballot c v })
      → Contains x.notes (record { path = name; fact = fact.Voted c v })
  vote_was_noted u k x name c v listed about stands voted =
      let n = on_log_was_noted w u x (members.Voted (ballot c v))
      (subst (λ (l : List (members.Note Value)). Has l (members.Voted (ballot c v)))
      (m.logs k u x stands listed) voted) in
      let path_is : (n.0).path ≡ name = n.2 ∙ sym about in
      let fact_is = vote_noted (n.0).fact c v n.3 in
      subst (Contains x.notes) (λ i. record { path = path_is i; fact = fact_is i }) n.1

  -- A promise bounds every vote below it, and reports a vote at or above each of them.
  pub promises_bound : PromisesBound w
  promises_bound k x name c d report stands promised noted below =
      by report (l.bounds promise (ballot d noted.0) p.said_there voted below)
      (l.reports promise p.said_there)
    where
      p : WasSaid w here (message w name k (Promise c report))
      p = said_at (message w name k (Promise c report)) promised

      l : IsLawfulWorld (is_majority weights) (here.at p.unit)
      l = lawful_there division weights acts w made of m p.unit

      promise : PromiseOf Value
      promise = record { member = k; claim = c; report = report_of report }

      logs : (here.at p.unit).logs k ≡ log_of w p.unit x
      logs = m.logs k p.unit x stands p.listed

      voted : Has ((here.at p.unit).logs k) (members.Voted (ballot d noted.0))
      voted = subst (λ (l : List (members.Note Value)). Has l (members.Voted (ballot d noted.0)))
          (sym logs)
          (noted_is_on_log w p.unit x (record { path = name; fact = fact.Voted d noted.0 }) noted.1
          p.about)

      by : (r : Option (Claim × Value)) → Reaches (report_of r) d
          → IsReported (WasVoted (here.at p.unit)) k c (report_of r) → ReportsAtLeast x name r d
      by None reaches reported = absurd reaches
      by (Some b) reaches reported =
          (reaches, vote_was_noted p.unit k x name b.0 b.1 p.listed p.about stands reported.1)

  -- ---- votes that were sent

  -- a member that voted for the proposed claim of a unit did so in the agreement
  pub voted_there : (u : ℕ) (name : Text) (c : Claim) (a : Value) → u < length w.division.units
      → name ≡ name_of w u
      → (k : ℕ) → k < length weights → (proposer : ℕ)
      → IsMessage (message w name proposer (Propose c a))
      → voters w w.sent name c k ≡ true → theory.voters (here.at u).sent c k ≡ true
  voted_there u name c a listed about k lt proposer proposed e =
      sent_vote (here.at u).sent c k
      (subst (λ (v : ℕ). Has (here.at v).sent (messages.Vote k c))
      (one_unit v.unit u name v.listed listed v.about about) v.said_there)
    where
      few : length weights ≤ most_members
      few = few_members weights made.weigh

      is_sent : WasSent w.sent (message w name k (Vote c))
      is_sent = record {
        is_message = record {
          sender = omega (arith, lt, few);
          tree = proposed.tree;
          path = proposed.path;
          body = proposed.body.0;
        };
        went_out = e;
      }

      v : WasSaid w here (message w name k (Vote c))
      v = said_at (message w name k (Vote c)) is_sent

  -- ---- votes that were noted

  -- a vote that a node noted is a vote of the unit's member
  noted_there : (u k : ℕ) (name : Text) (c : Claim) → u < length w.division.units
      → name ≡ name_of w u → HasNotedVote w k name c
      → (v : Value) × WasVoted (here.at u) (record { member = k; ballot = ballot c v })
  noted_there u k name c listed about (x, stands, (build, noted)) = (
    build,
    subst (λ (l : List (members.Note Value)). Has l (members.Voted (ballot c build)))
        (sym (m.logs k u x stands listed))
        (noted_is_on_log w u x (record { path = name; fact = fact.Voted c build }) noted about),
  )

  -- If a majority noted votes under a claim, each proposal at or above it repeats its build.
  pub later_repeats : LaterRepeats w
  later_repeats name c d a b S enough noted first second le =
      repeats Value (is_majority weights) (majorities weights) (WasProposed (here.at f.unit))
      (WasPromised (here.at f.unit)) (WasVoted (here.at f.unit)) law (ballot c a)
      (record { voters = among; majority = is_enough; voted = voted }) d le b proposed
    where
      f : WasSaid w here (message w name first.0 (Propose c a))
      f = said_at (message w name first.0 (Propose c a)) first.1

      s : WasSaid w here (message w name second.0 (Propose d b))
      s = said_at (message w name second.0 (Propose d b)) second.1

      law : IsLawfulWorld (is_majority weights) (here.at f.unit)
      law = lawful_there division weights acts w made of m f.unit

      -- those in S that are members
      among : Members
      among k = nat_lt k (length w.weights) && S k

      is_enough : is_majority weights among ≡ true
      is_enough = majority_within weights S among
          (λ k lt e. and_from (nat_lt k (length w.weights)) (S k)
          (lt-ltb k (length w.weights) (omega (arith, lt, ap length of.1))) e)
          (subst (λ (ws : List ℕ). is_majority ws S ≡ true) of.1 enough)

      voted : (k : ℕ) → among k ≡ true
          → WasVoted (here.at f.unit) (record { member = k; ballot = ballot c a })
      voted k e =
          let p = and_parts (nat_lt k (length w.weights)) (S k) e in
          let v = noted_there f.unit k name c f.listed f.about
          (noted k (ltb-true k (length w.weights) p.0) p.1) in
          subst
          (λ (x : Value). WasVoted (here.at f.unit) (record { member = k; ballot = ballot c x }))
          (law.one c v.0 a (law.votes (record { member = k; ballot = ballot c v.0 }) v.1)
          f.said_there)
          v.1

      proposed : Has (here.at f.unit).sent (messages.Propose (ballot d b))
      proposed = subst (λ (u : ℕ). Has (here.at u).sent (messages.Propose (ballot d b)))
          (one_unit s.unit f.unit name s.listed f.listed s.about f.about) s.said_there

  -- A vote that was sent was noted by the node that sent it.
  pub votes_noted : AreLocal w → SentVotesAreNoted w
  votes_noted local k name c is_sent = (
    x.0,
    x.1,
    (build.0, vote_was_noted v.unit k x.0 name c build.0 v.listed v.about x.1 build.1),
  )
    where
      v : WasSaid w here (message w name k (Vote c))
      v = said_at (message w name k (Vote c)) is_sent

      x : (x : WorldNode) × (slice_get w.nodes k ≡ Some x)
      x = get_some w.nodes k (omega (arith, v.sender, local.one_for_each))

      build : (b : Value) × WasVoted (here.at v.unit) (record { member = k; ballot = ballot c b })
      build = ((in_order division weights acts w made of m).sound v.unit).said (messages.Vote k c)
          v.said_there

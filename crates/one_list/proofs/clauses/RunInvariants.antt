-- Runs of a world: they begin as the agreements do, and what each event preserves holds at every
-- point.
use Rattle.std.proofs.Common.{◌≡◌, ◌<◌, ℕ, zero, suc, true, List, [], ◌∷◌, ◌++◌, length, replicate, Some, None, slice_get, append_assoc, append-nil, refl, sym, subst, ◌∙◌, arith}
use Rattle.std.proofs.lemmas.Bool.{true≢false}
use Rattle.std.proofs.lemmas.List.{get_or-map, length-replicate}
use Rattle.std.proofs.lemmas.List.Elements.{All-nil}
use Rattle.claims.specs.AgreedList.{Act, beginning}
use Rattle.claims.specs.Member.{Closed, Member, no_facts}
use Rattle.claims.specs.Nodes as nodes
use Rattle.claims.specs.World as theory
use Rattle.ballots.specs.declared.message.Message.{Message}
use Rattle.protocol.specs.Events.{Event}
use Rattle.package_record.specs.Laws.{BuildTextIsReadAgain}
use Rattle.protocol.specs.State.{Value, facts_at}
use Rattle.engine.specs.Division.{Division, no_unit}
use Rattle.world.specs.Happening.{Happens, Leads}
use Rattle.world.specs.Headline.{AtEachMoment, HeldIsListed, HoldAlike}
use Rattle.world.specs.Laws.{NothingSentIsForeign}
use Rattle.one_list.specs.Safety.{EachIsOfAMessage, EqualHeaders, LaterRepeats, OneProposal, PromisesBound, SentVotesAreNoted, WasSentOf}
use Rattle.world.specs.World.{IsMade, World, WorldNode, fresh_node, member_at, start}
use Rattle.world.proofs.HeldAlike.{held_alike}
use Rattle.world.proofs.DistinctEntries.{one_there}
use Rattle.world.proofs.Growth.{each_moment, each_moment_to, event_later, leads_later}
use Rattle.one_list.specs.MatchingLaws.{EachEventIsAnAct, EachEventKeepsLocal, EachRunIsActs}
use Rattle.one_list.specs.Local.{AreLocal, IsLocal, IsOfUnit}
use Rattle.one_list.specs.Matches.{Matches, log_of, node_of}
use Rattle.one_list.specs.Mirrored.{Mirrors, after_all_acts, and_then, at_start, with_act}
use Rattle.one_list.proofs.sent.NothingForeign.{never_foreign}
use Rattle.one_list.proofs.sent.MessageHeaders.{headers_are_equal}
use Rattle.one_list.proofs.builds.HeldPackages.{held_is_listed}
use Rattle.one_list.proofs.sent.SentMessages.{each_is_of_a_message}
use Rattle.one_list.proofs.matching.LawfulMatch.{later_repeats, one_proposal, promises_bound, votes_noted}

-- ---- at the start

-- each node is a fresh one
pub all_fresh : (n k : ℕ) (x : WorldNode) → slice_get (replicate n fresh_node) k ≡ Some x
    → fresh_node ≡ x
all_fresh zero k x e = absurd (let wrong : None ≡ Some x = e in cc)
all_fresh (suc n) zero x e = some_node fresh_node x e
  where
    some_node : (a b : WorldNode) → Some a ≡ Some b → a ≡ b
    some_node a b e = cc
all_fresh (suc n) (suc k) x e = all_fresh n k x e

-- a fresh node knows nothing
nothing_known : (division : Division) (weights : List ℕ) (k u : ℕ) → u < length division.units
    → facts_at (member_at (start division weights) k fresh_node) u ≡ no_facts
nothing_known division weights k u lt =
    get_or-map (λ x. no_facts) division.units u no_unit no_facts lt

pub start_matches : (division : Division) (weights : List ℕ)
    → Matches (start division weights) beginning
start_matches division weights = record {
  members = λ k u x e lt. subst (λ n. first ≡ nodes.view (node_of (start division weights) k n) u)
      (all_fresh (length weights) k x e) (fresh_view k u lt);
  logs = λ k u x e lt. subst (λ (n : WorldNode). [] ≡ log_of (start division weights) u n)
      (all_fresh (length weights) k x e) refl;
  sent = λ text h. absurd (let lt = h.1 in omega (arith, lt));
  votes = λ u n b lt h. absurd h;
  proposals = λ u b v lt h. absurd h;
  list = refl;
  units = All-nil (λ n. n.path < length division.units);
}
  where
    first : Member Value
    first = (theory.start {V = Value}).members 0

    fresh_view : (k u : ℕ) → u < length division.units
        → first ≡ nodes.view (node_of (start division weights) k fresh_node) u
    fresh_view k u lt =
        let g : no_facts ≡ facts_at (member_at (start division weights) k fresh_node) u =
        sym (nothing_known division weights k u lt) in
        λ i. record {
          opened = (g i).opened;
          promised = (g i).promised;
          voted = (g i).voted;
          held =
              (g i).held;
          up = true;
          stage = Closed;
        }

pub start_local : (division : Division) (weights : List ℕ) → AreLocal (start division weights)
start_local division weights = record {
  each = λ k x e. subst (IsLocal (start division weights) k) (all_fresh (length weights) k x e)
      (record {
        notes = All-nil (IsOfUnit (start division weights));
        claim = λ o e. absurd (let wrong : None ≡ Some o = e in cc);
        pieces = record {
          sent = All-nil (λ p. (m : Message Value) × WasSentOf [] m p);
          once = λ i j d lt within. absurd (omega (arith, within));
        };
        down = λ e. absurd (true≢false e);
        up = λ e. refl;
      });
  one_for_each = length-replicate (length weights) fresh_node;
}

-- ---- from event to event

-- the invariant of a run so far
record IsSoFar (division : Division) (weights : List ℕ) (events : List Event) (w : World) : Type
    0 where
  acts : List (Act Value)
  mirrors : Mirrors division weights events w acts
  is_match : Matches w (after_all_acts division weights acts)
  is_local : AreLocal w
  of : (w.division ≡ division) × (w.weights ≡ weights)

module _ (division : Division) (weights : List ℕ) (made : IsMade division weights)
    (step : EachEventIsAnAct) (keeps : EachEventKeepsLocal) where
  one_on : (events : List Event) (w v : World) (e : Event) → IsSoFar division weights events w
      → Happens w e v
      → IsSoFar division weights (events ++ e ∷ []) v
  one_on events w v e f h =
      let o = step division weights f.acts w v e made f.of f.is_local f.is_match h in
      let later = event_later w v e h in
      let made_here = subst (λ (d : Division). IsMade d w.weights) (sym f.of.0)
      (subst (IsMade division) (sym f.of.1) made) in
      record {
        acts = with_act f.acts o.0;
        mirrors = and_then events w v f.acts e o.0 f.mirrors f.is_match h o.1;
        is_match = o.2;
        is_local = keeps w v e made_here f.is_local
            (each_is_of_a_message w (after_all_acts division weights f.acts) f.is_match) h;
        of = (later.division ∙ f.of.0, later.weights ∙ f.of.1);
      }

  all_on : (before events : List Event) (w v : World) → IsSoFar division weights before w
      → Leads w events v
      → IsSoFar division weights (before ++ events) v
  all_on before [] w v f l =
      subst (λ (es : List Event). IsSoFar division weights es v) (sym (append-nil before))
      (subst (IsSoFar division weights before) (sym l) f)
  all_on before (e ∷ es) w v f l =
      subst (λ (all : List Event). IsSoFar division weights all v) (append_assoc before (e ∷ []) es)
      (all_on (before ++ e ∷ []) es l.0 v (one_on before w l.0 e f l.1) l.2)

-- So each run is a list of acts, if each event is an act and preserves the invariant.
pub runs_are_acts : EachEventIsAnAct → EachEventKeepsLocal → EachRunIsActs
runs_are_acts step keeps division weights events w made led =
    let f = all_on division weights made step keeps [] events (start division weights) w (record {
      acts = [];
      mirrors = at_start;
      is_match = start_matches division weights;
      is_local = start_local division weights;
      of = (refl, refl);
    }) led in
    (f.acts, f.mirrors, f.is_match, f.is_local)

-- ---- at every point, if each run is a list of acts

module _ (runs : EachRunIsActs) (again : BuildTextIsReadAgain) (division : Division)
    (weights : List ℕ) (made : IsMade division weights)
    (events : List Event) (last : World) (led : Leads (start division weights) events last) where
  -- what holds of each world that matches what acts leave holds at every point
  pub at_each : (P : World → Type 0)
      → ((acts : List (Act Value)) (w : World) → (w.division ≡ division) × (w.weights ≡ weights)
      → Matches w (after_all_acts division weights acts)
      → AreLocal w → P w)
      → AtEachMoment division weights events last (λ early w. P w)
  at_each P holds = each_moment division weights (λ early w. P w)
      (λ early w l.
      let r = runs division weights early w made l in
      let later = leads_later (start division weights) w early l in
      holds r.0 w (later.division, later.weights) r.2 r.3)
      events last led

  pub always_one_proposal : AtEachMoment division weights events last (λ early w. OneProposal w)
  always_one_proposal = at_each OneProposal
      (λ acts w of m local. one_proposal division weights acts w made of m again)

  pub always_bound : AtEachMoment division weights events last (λ early w. PromisesBound w)
  always_bound = at_each PromisesBound (λ acts w of m local. promises_bound division weights acts w
      made of m again)

  pub always_noted : AtEachMoment division weights events last (λ early w. SentVotesAreNoted w)
  always_noted = at_each SentVotesAreNoted (λ acts w of m local. votes_noted division weights acts w
      made of m again local)

  pub always_repeated : AtEachMoment division weights events last (λ early w. LaterRepeats w)
  always_repeated = at_each LaterRepeats (λ acts w of m local. later_repeats division weights acts w
      made of m again)

  pub always_told_apart : AtEachMoment division weights events last
      (λ early w. EqualHeaders w × EachIsOfAMessage w)
  always_told_apart = at_each (λ w. EqualHeaders w × EachIsOfAMessage w)
      (λ acts w of m local. headers_are_equal division weights acts w made of m again)

  pub always_listed : AtEachMoment division weights events last (λ early w. HeldIsListed w)
  always_listed = at_each HeldIsListed (λ acts w of m local. held_is_listed division weights acts w
      made of m local)

  listed_there : (before : List Event) (w : World) → Leads (start division weights) before w
      → HeldIsListed w
  listed_there before w l =
      let r = runs division weights before w made l in
      let later = leads_later (start division weights) w before l in
      held_is_listed division weights r.0 w made (later.division, later.weights) r.2 r.3

  pub always_alike : AtEachMoment division weights events last (λ early w. HoldAlike w last)
  always_alike = each_moment_to division weights events last (λ w. HoldAlike w last)
      (λ early late w first then. held_alike w last (listed_there early w first)
      (listed_there events last led) (leads_later w last late then).agreed
      (one_there division weights events last led))
      led

-- Nothing that was sent is foreign, if each run is a list of acts.
pub none_is_foreign : BuildTextIsReadAgain → EachRunIsActs → NothingSentIsForeign
none_is_foreign again runs division weights events w e f made led refused =
    let r = runs division weights events w made led in
    let later = leads_later (start division weights) w events led in
    never_foreign division weights r.0 w made (later.division, later.weights) r.2 again r.3 e f
    refused

-- How runs of a world correspond to the agreement theory, and what follows for the list.
use Rattle.engine.specs.Division.{Division}
use Rattle.std.specs.Prelude.{◌≡◌, ℕ, List}
use Rattle.claims.specs.AgreedList.{Act, IsMonotone}
use Rattle.std.specs.Prelude.{Option}
use Rattle.protocol.specs.State.{Value}
use Rattle.ballots.specs.declared.message.Message.{Message}
use Rattle.protocol.specs.Events.{Event}
use Rattle.node.specs.declared.fault.Foreign.{Foreign}
use Rattle.node.specs.declared.fault.NodeFault.TheVariants as faults
use Rattle.one_list.specs.Local.{AreLocal}
use Rattle.one_list.specs.Matches.{Matches, WasSaid}
use Rattle.one_list.specs.Mirrored.{IsActOf, Mirrors, after_all_acts, with_act}
use Rattle.one_list.specs.Needs.{may_build}
use Rattle.world.specs.Happening.{Happens, IsRefused, Leads}
use Rattle.world.specs.Headline.{AtEachMoment, HasOneList, HeldIsListed}
use Rattle.world.specs.Sent.{WasSent}
use Rattle.one_list.specs.Safety.{EachIsOfAMessage, EqualHeaders, JobsStood, LaterRepeats, OneProposal, PromisesBound, SentVotesAreNoted}
use Rattle.world.specs.World.{IsMade, World, start}
use Rattle.world.specs.declared.fault.WorldFault.TheVariants as worlds

-- A build that is allowed on some builds is allowed on any larger set of them.
abbrev pub NeedsAreMonotone : Type 0
NeedsAreMonotone = (division : Division) → IsMonotone (may_build division)

-- Every event preserves the invariant of nodes.
abbrev pub EachEventKeepsLocal : Type 0
EachEventKeepsLocal =
    (w v : World) (e : Event) → IsMade w.division w.weights → AreLocal w → EachIsOfAMessage w
    → Happens w e v → AreLocal v

-- The event is one more act or none: the world after it matches the cluster after the acts with
-- that act appended.
abbrev pub IsOneActMore : Division → List ℕ → List (Act Value) → World → Event → World → Type 0
IsOneActMore division weights acts w e v =
    (o : Option (Act Value)) × IsActOf w e o
    × Matches v (after_all_acts division weights (with_act acts o))

-- In a world that matches the cluster after some acts, an event is one more act or none.
abbrev pub EachEventIsAnAct : Type 0
EachEventIsAnAct =
    (division : Division) (weights : List ℕ) (acts : List (Act Value)) (w v : World) (e : Event)
    → IsMade division weights
    → (w.division ≡ division) × (w.weights ≡ weights) → AreLocal w
    → Matches w (after_all_acts division weights acts)
    → Happens w e v → IsOneActMore division weights acts w e v

-- So each run corresponds to a list of acts.
abbrev pub EachRunIsActs : Type 0
EachRunIsActs =
    (division : Division) (weights : List ℕ) (events : List Event) (w : World)
    → IsMade division weights
    → Leads (start division weights) events w
    → (acts : List (Act Value)) × Mirrors division weights events w acts
    × Matches w (after_all_acts division weights acts) × AreLocal w

-- In a world that matches the cluster after some acts, two messages of which all datagrams were
-- sent are equal if a piece of one and a piece of the other have equal headers.
abbrev pub MatchedHeadersAreEqual : Type 0
MatchedHeadersAreEqual =
    (division : Division) (weights : List ℕ) (acts : List (Act Value)) (w : World)
    → IsMade division weights
    → (w.division ≡ division) × (w.weights ≡ weights)
    → Matches w (after_all_acts division weights acts)
    → EqualHeaders w × EachIsOfAMessage w

-- In such a world each message of which all datagrams were sent was said.
abbrev pub SentWasSaid : Type 0
SentWasSaid =
    (division : Division) (weights : List ℕ) (acts : List (Act Value)) (w : World)
    (m : Message Value) → IsMade division weights
    → (w.division ≡ division) × (w.weights ≡ weights)
    → Matches w (after_all_acts division weights acts)
    → WasSent w.sent m → WasSaid w (after_all_acts division weights acts) m

-- In such a world, if nodes satisfy their invariant, no event is refused as foreign.
abbrev pub MatchedIsNotForeign : Type 0
MatchedIsNotForeign =
    (division : Division) (weights : List ℕ) (acts : List (Act Value)) (w : World) (e : Event)
    (f : Foreign) → IsMade division weights
    → (w.division ≡ division) × (w.weights ≡ weights) → AreLocal w
    → Matches w (after_all_acts division weights acts)
    → IsRefused w e (worlds.Node (faults.Foreign f)) → ⊥

-- In such a world a claim has at most one proposal, and a promise bounds the votes of its member. A
-- proposal at or above a claim for which a majority noted votes repeats its build.
abbrev pub MatchedVotesAreLawful : Type 0
MatchedVotesAreLawful =
    (division : Division) (weights : List ℕ) (acts : List (Act Value)) (w : World)
    → IsMade division weights
    → (w.division ≡ division) × (w.weights ≡ weights)
    → Matches w (after_all_acts division weights acts)
    → OneProposal w × PromisesBound w × LaterRepeats w

-- In such a world, if nodes satisfy their invariant, each vote that was sent was noted.
abbrev pub MatchedVotesAreNoted : Type 0
MatchedVotesAreNoted =
    (division : Division) (weights : List ℕ) (acts : List (Act Value)) (w : World)
    → IsMade division weights
    → (w.division ≡ division) × (w.weights ≡ weights) → AreLocal w
    → Matches w (after_all_acts division weights acts)
    → SentVotesAreNoted w

-- In such a world, if nodes satisfy their invariant, what they hold is in the list.
abbrev pub MatchedHeldIsListed : Type 0
MatchedHeldIsListed =
    (division : Division) (weights : List ℕ) (acts : List (Act Value)) (w : World)
    → IsMade division weights
    → (w.division ≡ division) × (w.weights ≡ weights) → AreLocal w
    → Matches w (after_all_acts division weights acts)
    → HeldIsListed w

-- what each run satisfies at every point
pub record IsSafe (division : Division) (weights : List ℕ) (events : List Event) (last : World) :
    Type 0 where
  -- A claim has at most one proposal.
  pub one_proposal : AtEachMoment division weights events last (λ early w. OneProposal w)
  -- A promise bounds every vote of its member below it.
  pub promises_bound : AtEachMoment division weights events last (λ early w. PromisesBound w)
  -- A vote that was sent was noted first.
  pub votes_noted : AtEachMoment division weights events last (λ early w. SentVotesAreNoted w)
  -- A proposal at or above a claim for which a majority noted votes repeats its build.
  pub later_repeats : AtEachMoment division weights events last (λ early w. LaterRepeats w)
  -- The dependencies of every build ever proposed were in the list when its job was given.
  pub jobs_stood : AtEachMoment division weights events last
      (λ early w. JobsStood division weights early w)
  -- Messages of which all datagrams were sent are equal if pieces of theirs have equal headers.
  pub equal_headers : AtEachMoment division weights events last
      (λ early w. EqualHeaders w × EachIsOfAMessage w)

-- P holds at every point of each run. Its arguments are the world at the end of the run, the events
-- up to that point, and the world then.
abbrev pub InEachRun : (World → List Event → World → Type 0) → Type 0
InEachRun P =
    (division : Division) (weights : List ℕ) (events : List Event) (last : World)
    → IsMade division weights
    → Leads (start division weights) events last
    → AtEachMoment division weights events last (P last)

-- Each run has one list, and is safe.
abbrev pub EachRunHasOneList : Type 0
EachRunHasOneList =
    (division : Division) (weights : List ℕ) (events : List Event) (w : World)
    → IsMade division weights
    → Leads (start division weights) events w
    → HasOneList division weights events w × IsSafe division weights events w

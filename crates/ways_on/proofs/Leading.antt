-- The list that is returned leads to a world in which the node holds the unit.
use Rattle.std.proofs.Common.{◌≡◌, ◌<◌, ◌≤◌, ◌+◌, ℕ, zero, suc, List, [], ◌∷◌, ◌++◌, length, Option, None, Some, refl, sym, ap, subst, ◌∙◌, append_assoc}
use Rattle.std.specs.Prelude.{Contains}
use Rattle.claims.specs.Member.{Gathering}
use Rattle.claims.specs.Quorums.{nobody}
use Rattle.claims.specs.Votes.{Ballot}
use Rattle.claims.specs.declared.claim.Claim.{Claim}
use Rattle.ballots.specs.declared.message.Body.TheVariants as bodies
use Rattle.protocol.specs.Events.{Built, Claim as claims, Event}
use Rattle.faults.specs.Bytes.{Text}
use Rattle.protocol.specs.Given.{Given}
use Rattle.protocol.specs.State.{State, Value, facts_at}
use Rattle.engine.specs.Division.{Division, number_found, unit_at}
use Rattle.ways_on.specs.Asked.{IsGranted, next_build}
use Rattle.ways_on.specs.Rounds.{last_round, next_claim, seen_at}
use Rattle.ways_on.specs.Ways.{HoldsUnit, IsWay, LeadsTo}
use Rattle.ways_on.specs.inside.Listed.{asked_of, asks_from, behind_promises, promise_of, proposed_by, proposed_in, report_of_all, told_of, votes_from, way_of}
use Rattle.protocol.proofs.Asked.{unit_is_one}
use Rattle.ways_on.proofs.Asking.{Asks}
use Rattle.ways_on.proofs.Claiming.{Did, asks, is_opened, one_sent}
use Rattle.ways_on.proofs.Gathering.{asks_by, behind_by, report_by}
use Rattle.ways_on.proofs.Going.{leads_also, leads_on}
use Rattle.ways_on.proofs.Majority.{MakeMajority}
use Rattle.ways_on.proofs.Proposing.{count_in}
use Rattle.ways_on.proofs.Reached.{IsReached, its_own}
use Rattle.ways_on.proofs.Seen.{asked_are_enough, asked_up}
use Rattle.world.specs.Sent.{WasSent, message}
use Rattle.world.specs.World.{IsMade, World, WorldNode, member_at}
use Rattle.ways_on.proofs.Telling.{IsFree, by_build, by_report, granted_free, same_asks, same_behind, same_proposed, same_report}

-- ---- the whole

-- these events, then the Built unless it is unnecessary, then the votes
abbrev list_of : ℕ → Text → Given → List ℕ → List Event → ℕ → ℕ → Option (Ballot Value)
    → List Event
list_of me path given asked es first count report =
    es ++ told_of report (Built me path given) ++ votes_from first count (first + count) me asked

-- with the Built, and without it
list_with : (me : ℕ) (path : Text) (given : Given) (asked : List ℕ) (es : List Event)
    (first count : ℕ)
    → es ++ (Built me path given ∷ votes_from first count (first + count) me asked)
    ≡ list_of me path given asked es first count None
list_with me path given asked es first count =
    sym (append_assoc es (Built me path given ∷ []) (votes_from first count (first + count) me asked))

list_without : (me : ℕ) (path : Text) (given : Given) (asked : List ℕ) (es : List Event)
    (first count : ℕ) (b : Ballot Value)
    → es ++ votes_from first count (first + count) me asked
    ≡ list_of me path given asked es first count (Some b)
list_without me path given asked es first count b =
    sym (append_assoc es [] (votes_from first count (first + count) me asked))

module _ (division : Division) (weights : List ℕ) (made : IsMade division weights) (w : World)
    (r : IsReached division weights made w) (me : ℕ) (path : Text) (host : ℕ) (given : Given)
    (g : IsGranted w me path host given) (u : ℕ) (named : number_found w.division path ≡ Some u)
    (few : host ≤ 65535) where
  abbrev node : WorldNode
  node = g.node

  abbrev member : State
  member = member_at w me node

  abbrev claim : Claim
  claim = next_claim w u me

  abbrev voted : ℕ → Option (Ballot Value)
  voted j = (seen_at w u j).voted

  abbrev held : ℕ → Option Value
  held q = (facts_at member q).held

  abbrev theirs : List ℕ
  theirs = asked_of w

  abbrev its_build : Value
  its_build = next_build w member u host given

  abbrev reported : Option (Ballot Value)
  reported = report_of_all w u None theirs

  -- the node holds the unit, and the promises and the proposal were sent
  abbrev pub HoldsIt : World → Type 0
  HoldsIt y = HoldsUnit y me u
      × (((j : ℕ) → Contains (asked_of w) j → WasSent y.sent (promise_of w u claim j))
      × WasSent y.sent (message w (unit_at w.division u).name claim.member
      (bodies.Propose claim (proposed_by reported its_build))))

  abbrev first : ℕ
  first = behind_promises w u claim (suc (length w.sent)) theirs

  abbrev count : ℕ
  count = proposed_in w u claim (proposed_by reported its_build)

  abbrev rest : List Event
  rest = list_of me path given theirs
      (asks_from w u claim (length w.sent) (suc (length w.sent)) theirs) first count reported

  is_unit : u < length w.division.units
  is_unit = unit_is_one member path u named

  is_free : IsFree w member u host given
  is_free = granted_free w me path host given g u named

  abbrev Opened : World → Type 0
  Opened = Did division weights made w r me node g.stands g.up u is_unit path named is_free.queued
      host few is_free.left

  are_enough : MakeMajority weights nobody theirs
  are_enough = subst (λ l. MakeMajority l nobody theirs) (its_own division weights made w r).1
      (asked_are_enough w is_free.enough)

  module _ (y : World) (d : Opened y) where
    sent : length y.sent ≡ suc (length w.sent)
    sent = one_sent division weights made w r me node g.stands g.up u is_unit path named
        is_free.queued host few is_free.left y d

    gathers : Asks division weights made u claim me (length w.sent) voted host held
        (Gathering claim nobody None) [] theirs y
    gathers = asks division weights made w r me node g.stands g.up u is_unit path named
        is_free.queued host few is_free.left y d theirs (asked_up w) voted (λ j. refl)

    same_first : behind_by division weights made u claim me (length w.sent) voted host held
        (length y.sent) theirs ≡ first
    same_first = ap (λ n. behind_by division weights made u claim me (length w.sent) voted host held
        n theirs) sent
        ∙ same_behind division weights made w r me node g.stands g.up u is_unit host
        (suc (length w.sent)) theirs

    same_events : asks_by division weights made u claim me (length w.sent) voted host held
        (length y.sent) theirs
        ≡ asks_from w u claim (length w.sent) (suc (length w.sent)) theirs
    same_events = ap (λ n. asks_by division weights made u claim me (length w.sent) voted host held
        n theirs) sent
        ∙ same_asks division weights made w r me node g.stands g.up u is_unit host
        (suc (length w.sent)) theirs

    kept : report_by division weights made u claim me (length w.sent) voted host held None theirs
        ≡ reported
    kept = same_report division weights made w r me node g.stands g.up u is_unit host None theirs

    same_size : (o : Option (Ballot Value)) → reported ≡ o
        → count_in (proposed_by o its_build) ≡ count
    same_size o e =
        sym (same_proposed division weights made w r me node g.stands g.up u is_unit host
        (proposed_by o its_build))
        ∙ ap (λ p. proposed_in w u claim (proposed_by p its_build)) (sym e)

    same_list : (o : Option (Ballot Value)) → reported ≡ o
        → list_of me path given theirs
        (asks_by division weights made u claim me (length w.sent) voted host held (length y.sent)
        theirs)
        (behind_by division weights made u claim me (length w.sent) voted host held (length y.sent)
        theirs) (count_in (proposed_by o its_build)) o
        ≡ rest
    same_list o e = λ i. list_of me path given theirs (same_events i) (same_first i)
        (same_size o e i) (sym e i)

    -- what holds if this was reported
    abbrev HoldsBy : Option (Ballot Value) → World → Type 0
    HoldsBy o y = HoldsUnit y me u
        × (((j : ℕ) → Contains (asked_of w) j → WasSent y.sent (promise_of w u claim j))
        × WasSent y.sent (message w (unit_at w.division u).name claim.member
        (bodies.Propose claim (proposed_by o its_build))))

    by_reported : (o : Option (Ballot Value)) → reported ≡ o → LeadsTo (HoldsBy o) y rest
    by_reported None e = subst (LeadsTo (HoldsBy None) y)
        (list_with me path given theirs
        (asks_by division weights made u claim me (length w.sent) voted host held (length y.sent)
        theirs)
        (behind_by division weights made u claim me (length w.sent) voted host held (length y.sent)
        theirs) (count_in its_build) ∙ same_list None e)
        (by_build division weights made w r me node g.stands g.up u is_unit host are_enough path
        named given is_free.right y gathers (kept ∙ e))
    by_reported (Some b) e = subst (LeadsTo (HoldsBy (Some b)) y)
        (list_without me path given theirs
        (asks_by division weights made u claim me (length w.sent) voted host held (length y.sent)
        theirs)
        (behind_by division weights made u claim me (length w.sent) voted host held (length y.sent)
        theirs) (count_in b.value) b ∙ same_list (Some b) e)
        (by_report division weights made w r me node g.stands g.up u is_unit host are_enough path
        named given is_free.right y gathers b (kept ∙ e))

  -- From a reachable world, if nothing is refused for the unit, the list leads to a world in which
  -- the node holds the unit.
  pub list_leads : LeadsTo HoldsIt w (way_of w member u path host given)
  list_leads = leads_on Opened HoldsIt w (claims me path host (last_round w u me) ∷ []) rest
      (is_opened division weights made w r me node g.stands g.up u is_unit path named
      is_free.queued host few is_free.left)
      (λ y d. by_reported y d reported refl)

  -- So it is a way.
  pub list_is_way : IsWay w me u (way_of w member u path host given)
  list_is_way = leads_also HoldsIt (λ y. HoldsUnit y me u) w (way_of w member u path host given)
      list_leads (λ y h. h.0)

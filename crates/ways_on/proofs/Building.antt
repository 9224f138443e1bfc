-- The build of the way: if the claim waits for one, it is made of the files and proposed to all.
use Rattle.std.proofs.Common.{◌≡◌, ℕ, List, [], ◌∷◌, length, map, filter_map, option_map, Option, None, Some, slice_get, refl, sym, ap, ap₂, subst, ◌∙◌}
use Rattle.std.specs.Prelude.{Contains, option_and_then}
use Rattle.claims.specs.Member.{Building, Facts, Member, Voting}
use Rattle.claims.specs.Messages as messages
use Rattle.claims.specs.Quorums.{nobody}
use Rattle.claims.specs.Step as theory
use Rattle.claims.specs.Step.{Outcome, on_built, says}
use Rattle.claims.specs.Votes.{Ballot, Reaches, ballot}
use Rattle.claims.specs.declared.claim.Claim.{Claim}
use Rattle.engine.specs.declared.Letter.TheVariants.{Q}
use Rattle.protocol.specs.Events as events
use Rattle.faults.specs.Bytes.{Text}
use Rattle.listing.specs.Tree.{path_at}
use Rattle.protocol.specs.Answers.{Answer, answered, everyone}
use Rattle.protocol.specs.Given.{Given}
use Rattle.protocol.specs.InTheAgreement.{view}
use Rattle.protocol.specs.Jobs.{build_by, in_order_of_path, job_of, record_by, signature}
use Rattle.protocol.specs.State.{State, Value, facts_at, record_in, unit_with}
use Rattle.protocol.specs.Step as members
use Rattle.protocol.specs.Step.{answered_or, at_unit, builds, builds_under, files_refusal, host_in, unless}
use Rattle.protocol.specs.declared.input.Input.TheVariants as inputs
use Rattle.protocol.specs.declared.refusal.Refusal.TheVariants as refusals
use Rattle.engine.specs.Division.{Division, number_found, unit_at}
use Rattle.ways_on.specs.Ways.{LeadsTo}
use Rattle.ways_on.proofs.Acting.{DidSo, IsPlain, does}
use Rattle.ways_on.proofs.Asked.{IsAsked, asked_stays, facts_stay, said_stays}
use Rattle.ways_on.proofs.Asking.{Asks}
use Rattle.ways_on.proofs.Deciding.{some_same}
use Rattle.ways_on.proofs.Going.{leads_also}
use Rattle.ways_on.proofs.NotYet.{waits_fresh}
use Rattle.ways_on.proofs.Pieces.{put_there}
use Rattle.ways_on.proofs.Proposing.{IsPolled, is_polled}
use Rattle.ways_on.proofs.Reached.{its_acts, its_match, its_own}
use Rattle.std.proofs.lemmas.Bool.{cases_eq}
use Rattle.std.proofs.Common.{⊎_elim}
use Rattle.world.specs.World.{IsMade, World, WorldNode, member_at}
use Rattle.one_list.proofs.nodes.StepsInTheory.{answers_with}

-- the build that the files make under the claim, on this host, given what is held of the units
abbrev pub build_on : Division → ℕ → Claim → Given → ℕ → (ℕ → Option Value) → Value
build_on d u c given host held =
    map (record_by d.tree
    (record {
      path = (unit_at d u).name;
      packages = map (path_at d.tree) (unit_at d u).packages;
      claim = c;
      host = host;
      deps =
          filter_map (λ path. option_map signature
          (option_and_then (λ q. option_and_then (record_in path) (held q)) (unit_with d path)))
          (in_order_of_path d.tree (unit_at d u).build);
    })
    given) (unit_at d u).packages

-- a member makes this build
pub makes : (s : State) (u host : ℕ) (c : Claim) (given : Given)
    → build_by s u (job_of s u host c) given
    ≡ build_on s.division u c given host (λ q. (facts_at s q).held)
makes s u host c given = refl

-- the build depends only on what is held
one_build : (d : Division) (u : ℕ) (c : Claim) (given : Given) (h host : ℕ)
    (held had : ℕ → Option Value) → h ≡ host → ((q : ℕ) → held q ≡ had q)
    → build_on d u c given h held ≡ build_on d u c given host had
one_build d u c given h host held had e same =
    ap₂ (build_on d u c given) e (λ i q. same q i)

module _ (division : Division) (weights : List ℕ) (made : IsMade division weights)
    (u : ℕ) (c : Claim) (me : ℕ) (at0 : ℕ) (told : ℕ → Option (Ballot Value)) (host : ℕ)
    (had : ℕ → Option Value) (done : List ℕ) (w : World)
    (s : Asks division weights made u c me at0 told host had (Building c) done [] w)
    (path : Text) (named : number_found w.division path ≡ Some u) (given : Given)
    (right : files_refusal (member_at w me s.node) u given
    (build_on w.division u c given host had) ≡ None) where
  abbrev x : WorldNode
  x = s.node

  abbrev member : State
  member = member_at w me x

  abbrev pub e : events.Event
  e = events.Built me path given

  -- the build
  abbrev pub build : Value
  build = build_on w.division u c given host had

  is_build : build_by member u (job_of member u (host_in member.claim) c) given ≡ build
  is_build = makes member u (host_in member.claim) c given
      ∙ one_build w.division u c given (host_in member.claim) host
      (λ q. (facts_at member q).held) had s.on_host s.holds

  abbrev pub outcome : Outcome Value
  outcome = says (record (view member u) { stage = Voting (ballot c build) nobody })
      (messages.Propose (ballot c build))

  -- the claim waits
  waits : (view member u).stage ≡ Building c
  waits = s.far

  theirs : on_built (view member u) (view member u).stage build ≡ Some outcome
  theirs = ap (λ z. on_built (view member u) z build) waits

  abbrev pub its_answer : Answer
  its_answer = answered member u (host_in member.claim) (everyone member) outcome

  its_given : members.answer member Q (inputs.Built path given) ≡ answers_with its_answer
  its_given =
      ap (at_unit refusals.NoClaim (builds member given)) named
      ∙ ap (builds_under member u (host_in member.claim) given) waits
      ∙ ap (λ b. unless (files_refusal member u given b)
      (answered_or refusals.NoClaim member u (host_in member.claim) (everyone member)
      (on_built (view member u) (view member u).stage b))) is_build
      ∙ ap (λ o. unless o
      (answered_or refusals.NoClaim member u (host_in member.claim) (everyone member)
      (on_built (view member u) (view member u).stage build))) right
      ∙ ap (answered_or refusals.NoClaim member u (host_in member.claim) (everyone member)) theirs

  plain : IsPlain w e (inputs.Built path given)
  plain = record {
    asks = refl;
    step = refl;
    noted = refl;
    good = refl;
    other = refl;
    there = refl;
    happens = λ v h. h;
  }

  abbrev Did : World → Type 0
  Did = DidSo division weights made w s.reached e x s.stands s.on u s.within outcome its_answer

  is_done : LeadsTo Did w (e ∷ [])
  is_done = does division weights made w s.reached e x s.stands s.on u s.within
      (inputs.Built path given) plain tt tt Q tt (theory.Built build) tt (host_in member.claim)
      (everyone member) outcome theirs its_given

  module _ (own : c.member ≡ me) (all : List ℕ)
      (asked : (j : ℕ) → Contains all j → Contains done j)
      (news : (j : ℕ) → Contains all j → Reaches (told j) c → ⊥) where
    abbrev WasAsked : World → ℕ → Type 0
    WasAsked = IsAsked u c told

    module _ (y : World) (d : Did y) where
      stands_then : slice_get y.nodes me ≡ Some d.node
      stands_then = ap (λ l. slice_get l me) d.nodes_are ∙ put_there w.nodes me x d.node s.stands

      stays : facts_at (member_at y me d.node) u ≡ facts_at (member_at w me d.node) u
      stays = facts_stay w y d.division_is
          d.weights_are me d.node u

      asked_here : WasAsked w me → WasAsked y me
      asked_here q =
          let same : q.node ≡ x = some_same q.node x (sym q.stands ∙ s.stands) in
          record {
            node = d.node;
            stands = stands_then;
            on = d.is_on;
            promised = ap (λ (f : Facts Value). f.promised) stays
                ∙ ap (λ (m : Member Value). m.promised) d.here
                ∙ ap (λ n. (facts_at (member_at w me n) u).promised) (sym same) ∙ q.promised;
            voted = ap (λ (f : Facts Value). f.voted) stays
                ∙ ap (λ (m : Member Value). m.voted) d.here
                ∙ ap (λ n. (facts_at (member_at w me n) u).voted) (sym same) ∙ q.voted;
            said = said_stays u c told w y d.division_is
                its_answer.sends d.sent me q.said;
          }

      asked_then : (j : ℕ) → Contains all j → WasAsked y j
      asked_then j at = ⊎_elim
          (λ same. subst (WasAsked y) (sym same)
          (asked_here (subst (WasAsked w) same (s.asked j (asked j at)))))
          (λ other. asked_stays u c told w y d.division_is
          d.weights_are its_answer.sends d.sent me j d.node d.nodes_are other (s.asked j (asked j at)))
          (cases_eq j me)

      polled : IsPolled division weights made u c me all told build (length w.sent) y
      polled = is_polled division weights made w s.reached me x s.stands u s.within c build
          (waits_fresh division weights (its_acts division weights made w s.reached) w made
          (its_own division weights made w s.reached) (its_match division weights made w s.reached)
          u s.within me x s.stands c s.far)
          its_answer.sends refl d.written y d.sent own s.weigh d.reached d.division_is d.weights_are
          d.node d.nodes_are d.is_on d.pieces (ap (λ (m : Member Value). m.stage) d.here) all at0
          told host had asked_then news

    -- The Built event happens, and votes can be collected.
    pub is_proposed : LeadsTo (IsPolled division weights made u c me all told build (length w.sent)) w
        (e ∷ [])
    is_proposed = leads_also Did
        (IsPolled division weights made u c me all told build (length w.sent)) w (e ∷ []) is_done polled

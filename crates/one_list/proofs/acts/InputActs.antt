-- Each claim, nudge and question is an act.
use Rattle.std.proofs.Common.{◌≡◌, ◌<◌, ◌==◌, ℕ, true, List, [], length, Option, Some, None, option_map, refl, sym, ap, ◌∙◌}
use Rattle.std.proofs.lemmas.Bool.{cond-false, ne_eqb}
use Rattle.claims.specs.AgreedList.{Act, Cluster, elsewhere}
use Rattle.claims.specs.Member.{Closed, Member}
use Rattle.claims.specs.Nodes as nodes
use Rattle.claims.specs.Quorums.{is_majority}
use Rattle.claims.specs.Step as theory
use Rattle.claims.specs.Step.{Outcome, on_start}
use Rattle.claims.specs.World as theory_world
use Rattle.claims.specs.World.{Take, run}
use Rattle.faults.specs.Bytes.{Text}
use Rattle.protocol.specs.Events as events
use Rattle.protocol.specs.Events.{Event}
use Rattle.node.specs.Ranges.{CanBeWritten, IsGoodInput}
use Rattle.node.specs.Step.{Asked, Does, after}
use Rattle.node.proofs.ranges.Written.{answers_written}
use Rattle.package_record.specs.Laws.{BuildTextIsReadAgain}
use Rattle.protocol.specs.InTheAgreement.{claim_of, view}
use Rattle.protocol.specs.Laws.{IsNoMessage, nudged}
use Rattle.protocol.specs.Member.{IsMember}
use Rattle.protocol.specs.State.{OpenClaim, State, Value, facts_at}
use Rattle.protocol.specs.Step.{unit_in}
use Rattle.protocol.specs.declared.input.Input.{Input}
use Rattle.protocol.specs.declared.input.Input.TheVariants as inputs
use Rattle.engine.specs.Division.{Division}
use Rattle.world.specs.Happening.{Asks}
use Rattle.world.specs.World.{IsMade, World, WorldNode, member_at, node_at, up_node}
use Rattle.one_list.specs.Local.{AreLocal}
use Rattle.one_list.specs.Matches.{Matches, node_of}
use Rattle.one_list.specs.Mirrored.{after_all_acts}
use Rattle.one_list.proofs.matching.ActsByPath.{dropped_here}
use Rattle.one_list.proofs.nodes.StepsInTheory.{IsInputOf, input_of}
use Rattle.one_list.proofs.matching.CutSteps.{answered, asks_for, made_here}
use Rattle.one_list.proofs.acts.StepActs.{Acted, IsAct, IsDone, no_other}
use Rattle.one_list.proofs.nodes.NodesAsMembers.{facts_there, node_is_member}
use Rattle.one_list.proofs.nodes.ClaimsNamed.{input_names}
use Rattle.one_list.proofs.nodes.OpenClaims.{failed_opens_none, inquire_opens_none, nudge_opens_none}
use Rattle.one_list.proofs.nodes.WritableStates.{in_range, is_one, known_named, own_stage}
use Rattle.one_list.proofs.matching.MemberSteps.{claims}

-- an input that is not a message has nothing that could be out of range
pub good_input : (input : Input) → IsNoMessage input → IsGoodInput input
good_input (inputs.Claim path host above) none = tt
good_input (inputs.Built path given) none = tt
good_input (inputs.Failed path) none = tt
good_input inputs.Nudge none = tt
good_input (inputs.Ask path) none = tt
good_input (inputs.Message m) none = absurd none

-- the theory's events
abbrev takes : ℕ → theory.Input Value → theory_world.Event Value
takes k input = Take k input

-- a claim gathers promises
started : (i : ℕ) (x : Member Value) (h : Option Value) (above : ℕ) (o : Outcome Value)
    → on_start i x h above ≡ Some o
    → (old : Option (nodes.OpenClaim Value)) (u q : ℕ) → (q ≡ u → ⊥)
    → nodes.stage_at (nodes.claim_then old u o.member.stage) q ≡ Closed
started i x (Some v) above o e old u q ne = absurd (let no : None ≡ Some o = e in cc)
started i x None above o e old u q ne =
    ap (λ (o : Outcome Value). nodes.stage_at (nodes.claim_then old u o.member.stage) q)
    (sym (outcome_same _ o e))
    ∙ cond-false (q == u) _ Closed (ne_eqb q u ne)
  where
    outcome_same : (a b : Outcome Value) → Some a ≡ Some b → a ≡ b
    outcome_same a b e = cc

module _ (division : Division) (weights : List ℕ) (acts : List (Act Value)) (w : World)
    (made : IsMade division weights)
    (of : (w.division ≡ division) × (w.weights ≡ weights)) (local : AreLocal w)
    (m : Matches w (after_all_acts division weights acts))
    (again : BuildTextIsReadAgain) (e : Event) (s : Acted w e) (input : Input)
    (asks : (a : Asked) → Asks w e a → a ≡ Does input)
    (none : IsNoMessage input) where
  -- the cluster after the acts
  abbrev here : Cluster Value
  here = after_all_acts division weights acts

  -- the node, and its member
  abbrev k : ℕ
  k = events.node_of e

  abbrev x : WorldNode
  x = s.node

  abbrev then : WorldNode
  then = up_node (after (node_at w k x) s.taken)

  abbrev member : State
  member = member_at w k x

  pub its_made : IsMade w.division w.weights
  its_made = made_here division weights acts w made of local m

  pub is_member : IsMember member
  is_member = node_is_member w its_made local k x s.acts.is_up.stands

  -- the event in the theory
  pub its_input : IsInputOf w e x s.taken input
  its_input = input_of w its_made local e x s.taken input s.acts asks none

  pub can_be_written : CanBeWritten member s.taken.answer
  can_be_written = answers_written member its_input.letter input s.taken.answer is_member
      (in_range w its_made local k x s.acts.is_up.stands)
      (good_input input none) its_input.given

  -- for any value equal to what it asks
  abbrev pub done_so : (what : theory.Input Value) → what ≡ its_input.answers.asks
      → IsDone division weights acts w made of local m again e s
  done_so what is =
      let i = its_input.answers in
      let theirs : theory.answer (is_majority w.weights) k (view member i.unit) [] what ≡ Some
      i.answers.outcome =
      ap (theory.answer (is_majority w.weights) k (view member i.unit) []) is ∙ i.answers.answers in
      record {
        unit = i.unit;
        within = i.within;
        input = what;
        outcome = i.answers.outcome;
        answered = answered division weights acts w made of local m k x i.unit what
            i.answers.outcome s.acts.is_up.up theirs;
        is = i.answers.is;
        out = i.answers.out;
        written = can_be_written.sends;
        names =
            let known = known_named w its_made local k x s.acts.is_up.stands i.unit i.within in
            input_names (length w.weights) k (view member i.unit)
            (record { promised = known.promised; voted = known.voted })
            (own_stage member i.unit is_member)
            (is_one w its_made local k x s.acts.is_up.stands) (is_majority w.weights) what
            i.answers.outcome theirs;
      }

  -- a claim that is opened drops the claim that was open
  module _ (above : ℕ) (is : theory.Start above ≡ its_input.answers.asks) where
    abbrev d : IsDone division weights acts w made of local m again e s
    d = done_so (theory.Start above) is

    -- what is known of another unit stays
    known_stays : (q : ℕ) → (q ≡ d.unit → ⊥)
        → facts_at (member_at w k x) q ≡ facts_at (member_at w k then) q
    known_stays q ne = sym (facts_there w k x then d.unit d.outcome s.taken.answer d.is refl q ne)

    -- no claim is open for another unit
    closed_there : (q : ℕ) → (q ≡ d.unit → ⊥)
        → nodes.stage_at (option_map claim_of s.taken.answer.claim) q ≡ Closed
    closed_there q ne =
        ap (λ c. nodes.stage_at c q) (claims (is_majority weights) w its_made here m k x
        s.acts.is_up.stands s.acts.is_up.up d.unit d.within (theory.Start above)
        d.outcome s.taken d.answered d.is)
        ∙ started k (nodes.view (node_of w k x) d.unit) (nodes.view (node_of w k x) d.unit).held
        above d.outcome d.answered (option_map claim_of x.claim) d.unit q ne

    dropped_so : (q : ℕ) → (q ≡ d.unit → ⊥)
        → record (nodes.view (node_of w k x) q) { up = true; stage = Closed } ≡ nodes.view
        (node_of w k then) q
    dropped_so q ne =
        let g = known_stays q ne in
        let n : Closed ≡ nodes.stage_at (option_map claim_of s.taken.answer.claim) q =
        sym (closed_there q ne) in
        λ i. record {
          opened = (g i).opened;
          promised = (g i).promised;
          voted = (g i).voted;
          held =
              (g i).held;
          up = true;
          stage = n i;
        }

    there : (q : ℕ) → (q ≡ d.unit → ⊥) → q < length w.division.units
        → (run (is_majority weights) (elsewhere (Take k d.input)) (here.at q)).members k ≡
        nodes.view (node_of w k then) q
    there q ne lt =
        let up : ((here.at q).members k).up ≡ true = ap (λ (z : Member Value). z.up)
        (m.members k q x s.acts.is_up.stands lt) ∙ s.acts.is_up.up in
        dropped_here Value (is_majority weights) (here.at q) k up
        ∙ ap (λ (z : Member Value). record z { up = true; stage = Closed })
        (m.members k q x s.acts.is_up.stands lt)
        ∙ dropped_so q ne

    pub start_is_act : IsAct division weights acts w made of local m again e s
    start_is_act = record { done = d; allowed = refl; there = there; is = λ j b built. absurd cc }

  -- a nudge sends again what was said
  pub nudge_is_act : theory.Nudge ≡ its_input.answers.asks
      → IsAct division weights acts w made of local m again e s
  nudge_is_act is =
      let d = done_so theory.Nudge is in record {
        done = d;
        allowed = refl;
        there = no_other division weights acts w made of local m again e s d refl
            (λ closed. absurd (nudge_opens_none Value (is_majority weights) k
            (nodes.view (node_of w k x) d.unit) closed _ closed d.outcome d.answered));
        is = λ j b built. absurd cc;
      }

  -- a build that failed closes the claim
  pub fail_is_act : theory.Failed ≡ its_input.answers.asks
      → IsAct division weights acts w made of local m again e s
  fail_is_act is =
      let d = done_so theory.Failed is in record {
        done = d;
        allowed = refl;
        there = no_other division weights acts w made of local m again e s d refl
            (λ closed. absurd (failed_opens_none Value (is_majority weights) k
            (nodes.view (node_of w k x) d.unit) closed _ closed d.outcome d.answered));
        is = λ j b built. absurd cc;
      }

  -- a question asks for the agreed value
  pub inquire_is_act : theory.Inquire ≡ its_input.answers.asks
      → IsAct division weights acts w made of local m again e s
  inquire_is_act is =
      let d = done_so theory.Inquire is in record {
        done = d;
        allowed = refl;
        there = no_other division weights acts w made of local m again e s d refl
            (λ closed. inquire_opens_none Value (is_majority weights) k
            (nodes.view (node_of w k x) d.unit) closed (nodes.view (node_of w k x) d.unit).held
            d.outcome d.answered);
        is = λ j b built. absurd cc;
      }

-- ---- the events

module _ (division : Division) (weights : List ℕ) (acts : List (Act Value)) (w : World)
    (made : IsMade division weights)
    (of : (w.division ≡ division) × (w.weights ≡ weights)) (local : AreLocal w)
    (m : Matches w (after_all_acts division weights acts))
    (again : BuildTextIsReadAgain) (n : ℕ) where
  pub claim_is_act : (path : Text) (host above : ℕ) (s : Acted w (events.Claim n path host above))
      → IsAct division weights acts w made of local m again (events.Claim n path host above) s
  claim_is_act path host above s =
      let i = its_input division weights acts w made of local m again
      (events.Claim n path host above) s (inputs.Claim path host above) (λ a e. e) tt in
      start_is_act division weights acts w made of local m again (events.Claim n path host above)
      s (inputs.Claim path host above) (λ a e. e) tt above
      (asks_for division weights acts w made of local m (unit_in (member_at w n s.node) path)
      (λ u. theory.Start above) i.answers.unit i.answers.asks i.answers.is_asked)

  pub failed_is_act : (path : Text) (s : Acted w (events.Failed n path))
      → IsAct division weights acts w made of local m again (events.Failed n path) s
  failed_is_act path s =
      let i = its_input division weights acts w made of local m again (events.Failed n path) s
      (inputs.Failed path) (λ a e. e) tt in
      fail_is_act division weights acts w made of local m again (events.Failed n path) s
      (inputs.Failed path) (λ a e. e) tt
      (asks_for division weights acts w made of local m (unit_in (member_at w n s.node) path)
      (λ u. theory.Failed) i.answers.unit i.answers.asks i.answers.is_asked)

  pub ask_is_act : (path : Text) (s : Acted w (events.Ask n path))
      → IsAct division weights acts w made of local m again (events.Ask n path) s
  ask_is_act path s =
      let i = its_input division weights acts w made of local m again (events.Ask n path) s
      (inputs.Ask path) (λ a e. e) tt in
      inquire_is_act division weights acts w made of local m again (events.Ask n path) s
      (inputs.Ask path) (λ a e. e) tt
      (asks_for division weights acts w made of local m (unit_in (member_at w n s.node) path)
      (λ u. theory.Inquire) i.answers.unit i.answers.asks i.answers.is_asked)

  pub nudged_is_act : (s : Acted w (events.Nudge n))
      → IsAct division weights acts w made of local m again (events.Nudge n) s
  nudged_is_act s =
      let i = its_input division weights acts w made of local m again (events.Nudge n) s
      inputs.Nudge (λ a e. e) tt in
      nudge_is_act division weights acts w made of local m again (events.Nudge n) s inputs.Nudge
      (λ a e. e) tt
      (nudge_for s.node.claim i.answers.unit i.answers.asks i.answers.is_asked)
    where
      nudge_for : (o : Option OpenClaim) (u : ℕ) (input : theory.Input Value)
          → option_map nudged o ≡ Some (u, input) → theory.Nudge ≡ input
      nudge_for None u input e = absurd (let no : None ≡ Some (u, input) = e in cc)
      nudge_for (Some o) u input e =
          let both : (o.unit, theory.Nudge) ≡ (u, input) =
          pair_same (o.unit, theory.Nudge) (u, input) e in
          ap (λ (p : ℕ × theory.Input Value). p.1) both
        where
          pair_same : (a b : ℕ × theory.Input Value) → Some a ≡ Some b → a ≡ b
          pair_same a b e = cc

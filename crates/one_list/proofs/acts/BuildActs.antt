-- Each build is an act, and the act builds what the event's files make.
use Rattle.std.proofs.Common.{◌≡◌, ◌==◌, ℕ, true, List, Option, Some, None, option_map, eqb-true, refl, sym, ap, ap₂, subst, ◌∙◌}
use Rattle.std.proofs.lemmas.Bool.{cond_both}
use Rattle.claims.specs.AgreedList.{Act, Cluster, held_by}
use Rattle.claims.specs.Member as stages
use Rattle.claims.specs.Member.{Member, Stage}
use Rattle.claims.specs.Nodes as nodes
use Rattle.claims.specs.Quorums.{is_majority}
use Rattle.claims.specs.Step as theory
use Rattle.claims.specs.Step.{Outcome, on_built}
use Rattle.claims.specs.World as theory_world
use Rattle.claims.specs.World.{Take}
use Rattle.claims.specs.declared.claim.Claim.{Claim}
use Rattle.faults.specs.Bytes.{Text}
use Rattle.protocol.specs.Events as events
use Rattle.package_record.specs.Laws.{BuildTextIsReadAgain}
use Rattle.protocol.specs.Given.{Given}
use Rattle.protocol.specs.InTheAgreement.{claim_of, stage_of, view}
use Rattle.protocol.specs.Jobs.{build_by, job_of}
use Rattle.protocol.specs.Laws.{built_at, for_unit}
use Rattle.protocol.specs.State.{Building, Gathering, OpenClaim, Progress, State, Value, Voting}
use Rattle.protocol.specs.Step.{host_in, unit_in}
use Rattle.protocol.specs.declared.input.Input.TheVariants as inputs
use Rattle.engine.specs.Division.{Division}
use Rattle.world.specs.World.{IsMade, World, member_at}
use Rattle.one_list.specs.Local.{AreLocal}
use Rattle.one_list.specs.Matches.{Matches, node_of}
use Rattle.one_list.specs.Mirrored.{MakesBuild, after_all_acts}
use Rattle.one_list.specs.Needs.{may_build}
use Rattle.one_list.proofs.nodes.StepsInTheory.{IsInputOf}
use Rattle.one_list.proofs.builds.BuildableBuilds.{made_may_be_built}
use Rattle.one_list.proofs.matching.CutSteps.{asks_for}
use Rattle.one_list.proofs.acts.StepActs.{Acted, IsAct, IsDone, no_other}
use Rattle.one_list.proofs.acts.InputActs.{done_so, its_input}
use Rattle.one_list.proofs.nodes.OpenClaims.{built_opens_none}

-- only a claim that waits for a build takes one
waits : (y : Member Value) (stage : Stage Value) (v : Value) (o : Outcome Value)
    → on_built y stage v ≡ Some o → (c : Claim) × (stage ≡ stages.Building c)
waits y stages.Closed v o e = absurd (let no : None ≡ Some o = e in cc)
waits y (stages.Gathering c S k) v o e = absurd (let no : None ≡ Some o = e in cc)
waits y (stages.Building c) v o e = (c, refl)
waits y (stages.Voting b S) v o e = absurd (let no : None ≡ Some o = e in cc)

-- the claim that waits there is the open claim
pub record IsWaiting (s : State) (u : ℕ) (c : Claim) : Type 0 where
  pub host : ℕ
  pub is : s.claim ≡ Some (record { unit = u; host = host; progress = Building c })
  pub host_is : host_in s.claim ≡ host

abbrev building : Claim → Stage Value
building c = stages.Building c

abbrev closed_stage : Stage Value
closed_stage = stages.Closed

claims_same : (a b : Claim) → building a ≡ building b → a ≡ b
claims_same a b e = cc

progress_waits : (p : Progress) (c : Claim) → stage_of p ≡ stages.Building c → p ≡ Building c
progress_waits (Gathering d joined k) c e = absurd cc
progress_waits (Building d) c e = ap Building (claims_same d c e)
progress_waits (Voting b joined) c e = absurd cc

pub open_waits : (s : State) (u : ℕ) (c : Claim) → (view s u).stage ≡ stages.Building c
    → IsWaiting s u c
open_waits s u c e = by s.claim refl e
  where
    by : (o : Option OpenClaim) → s.claim ≡ o
        → nodes.stage_at (option_map claim_of o) u ≡ stages.Building c → IsWaiting s u c
    by None is e = absurd (let no : closed_stage ≡ building c = e in cc)
    by (Some o) is e =
        cond_both (u == o.unit) (stage_of o.progress) stages.Closed
        (λ z. z ≡ stages.Building c → IsWaiting s u c)
        (λ same e.
        let unit : o.unit ≡ u = sym (eqb-true u o.unit same) in
        let progress : o.progress ≡ Building c = progress_waits o.progress c e in
        record {
          host = o.host;
          is = is ∙ ap₂ (λ v p. Some (record { unit = v; host = o.host; progress = p })) unit
              progress;
          host_is = ap host_in is;
        })
        (λ other e. absurd (let no : closed_stage ≡ building c = e in cc)) e

-- the theory's events
abbrev takes : ℕ → theory.Input Value → theory_world.Event Value
takes k input = Take k input

build_taken : (k j : ℕ) (a b : Value) → takes k (theory.Built a) ≡ takes j (theory.Built b)
    → (k ≡ j) × (a ≡ b)
build_taken k j a b e = (cc, cc)

-- what is asked, and for which unit
asked_there : (o : Option ℕ) (f : ℕ → theory.Input Value) (u : ℕ) (input : theory.Input Value)
    → for_unit o f ≡ Some (u, input) → o ≡ Some u
asked_there None f u input e = absurd (let no : None ≡ Some (u, input) = e in cc)
asked_there (Some v) f u input e =
    ap (λ x. Some x) (ap (λ (p : ℕ × theory.Input Value). p.0) (pair_same (v, f v) (u, input) e))
  where
    pair_same : (a b : ℕ × theory.Input Value) → Some a ≡ Some b → a ≡ b
    pair_same a b e = cc

module _ (division : Division) (weights : List ℕ) (acts : List (Act Value)) (w : World)
    (made : IsMade division weights)
    (of : (w.division ≡ division) × (w.weights ≡ weights)) (local : AreLocal w)
    (m : Matches w (after_all_acts division weights acts))
    (again : BuildTextIsReadAgain) (n : ℕ) (path : Text) (given : Given)
    (s : Acted w (events.Built n path given)) where
  abbrev here : Cluster Value
  here = after_all_acts division weights acts

  abbrev member : State
  member = member_at w n s.node

  abbrev i : IsInputOf w (events.Built n path given) s.node s.taken (inputs.Built path given)
  i = its_input division weights acts w made of local m again (events.Built n path given) s
      (inputs.Built path given) (λ a e. e) tt

  abbrev u : ℕ
  u = i.answers.unit

  -- the build
  abbrev built : Value
  built = built_at member u given (view member u).stage

  asks : theory.Built built ≡ i.answers.asks
  asks = asks_for division weights acts w made of local m (unit_in member path)
      (λ u. theory.Built (built_at member u given (view member u).stage)) u i.answers.asks
      i.answers.is_asked

  abbrev d : IsDone division weights acts w made of local m again (events.Built n path given) s
  d = done_so division weights acts w made of local m again (events.Built n path given) s
      (inputs.Built path given) (λ a e. e) tt (theory.Built built) asks

  waiting : (c : Claim) × ((view member u).stage ≡ stages.Building c)
  waiting =
      waits (nodes.view (node_of w n s.node) u) (view member u).stage built d.outcome d.answered

  its : IsWaiting member u waiting.0
  its = open_waits member u waiting.0 waiting.1

  -- it is what the claim's job says
  by_job : built ≡ build_by member u (job_of member u its.host waiting.0) given
  by_job = ap (built_at member u given) waiting.1
      ∙ ap (λ h. build_by member u (job_of member u h waiting.0) given) its.host_is

  may_be : may_build division (held_by here n) u built ≡ true
  may_be = subst (λ b. may_build division (held_by here n) u b ≡ true) (sym by_job)
      (made_may_be_built division weights acts w made of local m n s.node s.acts.is_up.stands u
      i.answers.within
      ((local.each n s.node s.acts.is_up.stands).claim
      (record { unit = u; host = its.host; progress = Building waiting.0 }) its.is).is_open.ready
      its.host waiting.0 given)

  makes : MakesBuild w (events.Built n path given) n u built
  makes = record {
    path = path;
    files = given;
    event = refl;
    for_unit = asked_there (unit_in member path)
        (λ u. theory.Built (built_at member u given (view member u).stage)) u i.answers.asks
        i.answers.is_asked;
    node = s.node;
    stands = s.acts.is_up.stands;
    up = s.acts.is_up.up;
    host = its.host;
    claim = waiting.0;
    opened = its.is;
    build_is = by_job;
  }

  -- Each build is an act.
  pub build_is_act : IsAct division weights acts w made of local m again (events.Built n path given)
      s
  build_is_act = record {
    done = d;
    allowed = may_be;
    there = no_other division weights acts w made of local m again (events.Built n path given) s d
        refl
        (λ closed. absurd (built_opens_none Value (is_majority weights) n
        (nodes.view (node_of w n s.node) u) closed _ closed built d.outcome d.answered));
    is = λ j b same. let both = build_taken n j built b same in
        subst (λ b. MakesBuild w (events.Built n path given) j u b) both.1
        (subst (λ j. MakesBuild w (events.Built n path given) j u built) both.0 makes);
  }

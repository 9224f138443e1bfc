-- What a node does if it is asked to handle a build, or a failed build, of its open claim's unit.
use Rattle.std.proofs.Common.{◌≡◌, ℕ, true, false, not, [], ◌∷◌, Option, None, Some, Result, Ok, Err, IfErr, IfSome, inl, inr, refl, sym, ap, subst, ◌∙◌, if◌then◌else◌}
use Rattle.std.specs.Prelude.{◌⊎◌, is_none, option_and_then, option_map}
use Rattle.claims.specs.Member as members
use Rattle.claims.specs.Messages as messages
use Rattle.claims.specs.Quorums.{nobody}
use Rattle.claims.specs.Step.{on_built, on_failed, says, still}
use Rattle.claims.specs.Votes.{ballot}
use Rattle.turn_rules.specs.Answering.{built_of}
use Rattle.faults.specs.Answers.{first_that_applies, option_or}
use Rattle.faults.specs.Bytes.{Text}
use Rattle.node.specs.State.{LoggedNode, NodeState}
use Rattle.node.specs.Step.{Does, Taken, Takes, taken, taken_by}
use Rattle.node.specs.declared.fault.NodeFault.{NodeFault}
use Rattle.node.specs.declared.fault.NodeFault.TheVariants as fault
use Rattle.package_record.specs.Making.{build_fault}
use Rattle.package_record.specs.declared.RecordFault.{RecordFault}
use Rattle.protocol.proofs.Asked.{stage_is}
use Rattle.protocol.specs.Answers.{Answer, answered, everyone}
use Rattle.protocol.specs.Given.{Given}
use Rattle.protocol.specs.InTheAgreement.{view}
use Rattle.protocol.specs.Jobs.{are_given, build_by, job_of, paths_at}
use Rattle.protocol.specs.Member.{IsMember}
use Rattle.protocol.specs.State.{Building, OpenClaim, State, Value, name_at}
use Rattle.protocol.specs.Step.{answered_or, at_unit, builds, builds_under, fails, files_refusal, host_in, proposes, unit_in, unless}
use Rattle.protocol.specs.declared.input.Input.{Input}
use Rattle.protocol.specs.declared.input.Input.TheVariants as inputs
use Rattle.protocol.specs.declared.refusal.Refusal.TheVariants as refusals
use Rattle.engine.proofs.Names.{name_is_found}
use Rattle.engine.specs.Division.{number_of}
use Rattle.listing.specs.Tree.{position_of}
use Rattle.turn_rules.specs.CausedSteps.{IsCausedStep}
use Rattle.turn_rules.specs.declared.caused_step.CausedStep.{CausedStep}
use Rattle.turn_rules.specs.inside.Answering.{AreParts, IsWaiting, is_bad_files}

-- The result with these files: the step is taken, or they are refused with this fault.
abbrev pub Tells : Option RecordFault → Result Taken NodeFault → Type 0
Tells None r = (t : Taken) × (r ≡ Ok t)
Tells (Some f) r = r ≡ Err (fault.Refused (refusals.BadFiles f))

module _ (s : State) (is : IsMember s) (u : ℕ) (w : IsWaiting s u) where
  abbrev opened : OpenClaim
  opened = record { unit = u; host = w.host; progress = Building w.claim }

  named : unit_in s (name_at s u) ≡ Some u
  named = ap (λ n. option_or n (option_and_then (number_of s.division) (position_of s.division.tree (name_at s u)))) (name_is_found s.division u is.division w.there)

  stage_here : (view s u).stage ≡ members.Building w.claim
  stage_here = stage_is s opened w.is_open

  -- ---- built

  module _ (given : Given) where
    abbrev build : Value
    build = build_by s u (job_of s u w.host w.claim) given

    abbrev said : Answer
    said = answered s u w.host (everyone s)
        (says (record (view s u) { stage = members.Voting (ballot w.claim build) nobody })
        (messages.Propose (ballot w.claim build)))

    built_is : at_unit refusals.NoClaim (builds s given) (unit_in s (name_at s u))
        ≡ unless (files_refusal s u given build) (Ok said)
    built_is =
        ap (at_unit refusals.NoClaim (builds s given)) named
        ∙ (ap (builds_under s u (host_in s.claim) given) stage_here
        ∙ (ap (λ claim. proposes s u (host_in claim) given
        (build_by s u (job_of s u (host_in claim) w.claim) given)) w.is_open
        ∙ ap (λ stage. unless (files_refusal s u given build)
        (answered_or refusals.NoClaim s u w.host (everyone s)
        (on_built (view s u) stage build))) stage_here))

    whole_is : are_given (paths_at s u) given ≡ true
        → at_unit refusals.NoClaim (builds s given) (unit_in s (name_at s u))
        ≡ unless (option_map refusals.BadFiles (build_fault build)) (Ok said)
    whole_is are = built_is ∙ ap (λ b. unless (option_or
        (first_that_applies ((not b, refusals.OtherPackages) ∷ []))
        (option_map refusals.BadFiles (build_fault build))) (Ok said)) are

  -- ---- not built

  abbrev ended : Answer
  ended = answered s u w.host [] (still (record (view s u) { stage = members.Closed }))

  failed_is : at_unit refusals.NoClaim (fails s) (unit_in s (name_at s u)) ≡ Ok ended
  failed_is =
      ap (at_unit refusals.NoClaim (fails s)) named
      ∙ (ap (λ stage. answered_or refusals.NoClaim s u (host_in s.claim) []
      (on_failed (view s u) stage)) stage_here
      ∙ ap (λ claim. Ok (answered s u (host_in claim) []
      (still (record (view s u) { stage = members.Closed })))) w.is_open)

module _ (n : NodeState) (runs : n.stopped ≡ false) (is : IsMember n.member) (u : ℕ)
    (w : IsWaiting n.member u) where
  abbrev s : State
  s = n.member

  pub built_tells : (given : Given) → are_given (paths_at s u) given ≡ true
      → (r : Result Taken NodeFault) → Takes n (Does (inputs.Built (name_at s u) given)) r
      → Tells (build_fault (build_by s u (job_of s u w.host w.claim) given)) r
  built_tells given are r takes =
      by (build_fault (build_by s u (job_of s u w.host w.claim) given)) whole
    where
      whole : r ≡ taken n.pieces (unless (option_map refusals.BadFiles
          (build_fault (build_by s u (job_of s u w.host w.claim) given)))
          (Ok (said s is u w given)))
      whole = takes.right_is
          ∙ (ap (λ b. if b then Err fault.Stopped else taken n.pieces
          (at_unit refusals.NoClaim (builds s given) (unit_in s (name_at s u)))) runs
          ∙ ap (taken n.pieces) (whole_is s is u w given are))

      by : (o : Option RecordFault)
          → r ≡ taken n.pieces (unless (option_map refusals.BadFiles o)
          (Ok (said s is u w given)))
          → Tells o r
      by None e = (_, e)
      by (Some f) e = e

  pub failed_tells : (r : Result Taken NodeFault)
      → Takes n (Does (inputs.Failed (name_at s u))) r → (t : Taken) × (r ≡ Ok t)
  failed_tells r takes = (
    _,
    takes.right_is
        ∙ (ap (λ b. if b then Err fault.Stopped else taken n.pieces
        (at_unit refusals.NoClaim (fails s) (unit_in s (name_at s u)))) runs
        ∙ ap (taken n.pieces) (failed_is s is u w)),
  )

  -- ---- the answer

  pub built_answers : (given : Given) → are_given (paths_at s u) given ≡ true → (t : Taken)
      → Takes n (Does (inputs.Built (name_at s u) given)) (Ok t)
      → built_of s u w.host w.claim (Some given) ≡ inputs.Built (name_at s u) given
  built_answers given are t takes =
      by (build_fault (build_by s u (job_of s u w.host w.claim) given))
      (built_tells given are (Ok t) takes)
    where
      by : (o : Option RecordFault) → Tells o (Ok t)
          → (if is_none o then inputs.Built (name_at s u) given
          else inputs.Failed (name_at s u)) ≡ inputs.Built (name_at s u) given
      by None tells = refl
      by (Some f) tells =
          absurd (let no : Ok t ≡ Err (fault.Refused (refusals.BadFiles f)) = tells in cc)

  pub refused_answers : (given : Given) → are_given (paths_at s u) given ≡ true
      → (f : NodeFault) → is_bad_files f ≡ true
      → Takes n (Does (inputs.Built (name_at s u) given)) (Err f)
      → built_of s u w.host w.claim (Some given) ≡ inputs.Failed (name_at s u)
  refused_answers given are f bad takes =
      by (build_fault (build_by s u (job_of s u w.host w.claim) given))
      (built_tells given are (Err f) takes)
    where
      by : (o : Option RecordFault) → Tells o (Err f)
          → (if is_none o then inputs.Built (name_at s u) given
          else inputs.Failed (name_at s u)) ≡ inputs.Failed (name_at s u)
      by None (t, tells) = absurd (let no : Err f ≡ Ok t = tells in cc)
      by (Some g) tells = refl

  -- the node refuses nothing else
  pub no_other : (given : Given) → are_given (paths_at s u) given ≡ true
      → (f : NodeFault) → is_bad_files f ≡ false
      → Takes n (Does (inputs.Built (name_at s u) given)) (Err f) → ⊥
  no_other given are f good takes =
      by (build_fault (build_by s u (job_of s u w.host w.claim) given))
      (built_tells given are (Err f) takes)
    where
      by : (o : Option RecordFault) → Tells o (Err f) → ⊥
      by None (t, tells) = let no : Err f ≡ Ok t = tells in cc
      by (Some g) tells =
          let known : ◌≡◌ {A = Result Taken NodeFault} (Err f) (Err (fault.Refused (refusals.BadFiles g))) = tells in
          let same : f ≡ fault.Refused (refusals.BadFiles g) = cc in
          let no : true ≡ false = sym (ap is_bad_files same) ∙ good in cc

  pub failed_never : (f : NodeFault) → Takes n (Does (inputs.Failed (name_at s u))) (Err f) → ⊥
  failed_never f takes =
      let t = failed_tells (Err f) takes in
      let no : Err f ≡ Ok t.0 = t.1 in cc

-- ---- the answer at a node over its log

module _ {D : Type 0} (n : LoggedNode D) (up : n.node.stopped ≡ false) (u : ℕ)
    (w : IsWaiting n.node.member u) (name : Text) (given : Option Given)
    (parts : AreParts n.node.member u name given) where
  -- the answer
  abbrev right : Input
  right = built_of n.node.member u w.host w.claim given

  pub only_memory : (r : Result CausedStep NodeFault)
      → IfErr r (λ f. (f ≡ fault.Memory) ⊎ Takes n.node (Does (inputs.Failed name)) (Err f))
      → IfErr r (λ f. f ≡ fault.Memory)
  only_memory (Ok r) refused = tt
  only_memory (Err f) (inl memory) = memory
  only_memory (Err f) (inr takes) = absurd (failed_never n.node up parts.member u w f
      (subst (λ t. Takes n.node (Does (inputs.Failed t)) (Err f)) parts.named takes))

  module _ (g : Given) (given_is : given ≡ Some g) (path : Text) (copied : path ≡ name) where
    whole_given : are_given (paths_at n.node.member u) g ≡ true
    whole_given = by given parts.whole g given_is
      where
        by : (o : Option Given) → IfSome o (λ h. are_given (paths_at n.node.member u) h ≡ true)
            → (h : Given) → o ≡ Some h → are_given (paths_at n.node.member u) h ≡ true
        by None are h e = absurd (let no : ◌≡◌ {A = Option Given} None (Some h) = e in cc)
        by (Some k) are h e =
            let known : ◌≡◌ {A = Option Given} (Some k) (Some h) = e in
            let same : k ≡ h = cc in
            subst (λ x. are_given (paths_at n.node.member u) x ≡ true) same are

    of_name : (r : Result Taken NodeFault) → Takes n.node (Does (inputs.Built path g)) r
        → Takes n.node (Does (inputs.Built (name_at n.node.member u) g)) r
    of_name r takes =
        subst (λ t. Takes n.node (Does (inputs.Built t g)) r) (copied ∙ parts.named) takes

    pub built_readied : (m : LoggedNode D) → m ≡ n → (r : CausedStep)
        → IsCausedStep m (Does (inputs.Built path g)) r → IsCausedStep m (Does right) r
    built_readied m same r readied =
        let takes : Takes n.node (Does (inputs.Built path g)) (Ok (taken_by n.node r.ready)) =
        subst (λ x. Takes x.node (Does (inputs.Built path g)) (Ok (taken_by x.node r.ready)))
        same readied.takes in
        let is : right ≡ inputs.Built path g =
        ap (built_of n.node.member u w.host w.claim) given_is
        ∙ (built_answers n.node up parts.member u w g whole_given (taken_by n.node r.ready)
        (of_name (Ok (taken_by n.node r.ready)) takes)
        ∙ ap (λ t. inputs.Built t g) (sym (copied ∙ parts.named))) in
        subst (λ input. IsCausedStep m (Does input) r) (sym is) readied

    pub failed_right : (f : NodeFault)
        → (f ≡ fault.Memory) ⊎ Takes n.node (Does (inputs.Built path g)) (Err f)
        → is_bad_files f ≡ true → right ≡ inputs.Failed name
    failed_right f (inl memory) bad =
        let no : false ≡ true = sym (ap is_bad_files memory) ∙ bad in cc
    failed_right f (inr takes) bad =
        ap (built_of n.node.member u w.host w.claim) given_is
        ∙ (refused_answers n.node up parts.member u w g whole_given f bad (of_name (Err f) takes)
        ∙ ap inputs.Failed (sym parts.named))

    pub memory_else : (f : NodeFault)
        → (f ≡ fault.Memory) ⊎ Takes n.node (Does (inputs.Built path g)) (Err f)
        → is_bad_files f ≡ false → f ≡ fault.Memory
    memory_else f (inl memory) good = memory
    memory_else f (inr takes) good = absurd (no_other n.node up parts.member u w g whole_given f
        good (of_name (Err f) takes))

-- Each claim that waits for a build was given its job by the delivery that made it wait, when
-- everything that the job signs was in the list.
use Rattle.std.proofs.Common.{◌≡◌, ◌⊎◌, ℕ, true, List, [], ◌∷◌, ◌++◌, length, None, Some, Ok, append_assoc, slice_get, slice_set, refl, sym, ap, subst, ◌∙◌, ⊎_elim, inl, inr, true≢false}
use Rattle.std.specs.Prelude.{All}
use Rattle.std.proofs.lemmas.List.Elements.{All-weaker}
use Rattle.claims.specs.AgreedList.{Act}
use Rattle.claims.specs.Member.{Facts}
use Rattle.claims.specs.declared.claim.Claim.{Claim}
use Rattle.claims.proofs.Nodes.{get_set}
use Rattle.ballots.specs.declared.message.Message.{Message}
use Rattle.claims.specs.Job.{Task}
use Rattle.claims.specs.declared.deps.Dep.{Dep}
use Rattle.node.specs.Arrival.{arrival_of}
use Rattle.protocol.specs.Events as kinds
use Rattle.protocol.specs.Events.{Event, is_step}
use Rattle.node.specs.Step as steps
use Rattle.node.specs.Step.{Asked, Does, Taken, nothing, running_step}
use Rattle.protocol.specs.declared.event.Left.{Left}
use Rattle.protocol.specs.declared.event.Left.TheVariants as left
use Rattle.package_record.specs.Content.{Content}
use Rattle.package_record.specs.Laws.{BuildTextIsReadAgain}
use Rattle.protocol.specs.Answers.{Answer, after}
use Rattle.protocol.specs.Jobs.{deps_of, job_of, signature}
use Rattle.protocol.specs.Laws.{IsNoMessage}
use Rattle.protocol.specs.Member.{IsInput, IsMember}
use Rattle.protocol.specs.State.{Building, OpenClaim, State, Value, held_record}
use Rattle.protocol.specs.Step as members
use Rattle.protocol.specs.Step.{Answers}
use Rattle.protocol.specs.declared.input.Input.{Input}
use Rattle.protocol.specs.declared.input.Input.TheVariants as inputs
use Rattle.protocol.proofs.HeldRecords.{builds_stand, deps_stay}
use Rattle.protocol.proofs.MembersStay.{claims_were_ready}
use Rattle.protocol.proofs.WaitingClaims.{waited_before, waiting_claims}
use Rattle.engine.specs.Division.{Division}
use Rattle.engine.proofs.Kept.{unit_good}
use Rattle.wire.specs.Reading.{datagram_of}
use Rattle.world.specs.Happening.{Acts, Asks, Happens, Steps, StopsIn}
use Rattle.world.specs.Headline.{HasSignature}
use Rattle.one_list.specs.Safety.{JobGiven}
use Rattle.world.specs.Sent.{WasSent}
use Rattle.world.specs.World.{IsMade, World, WorldNode, member_at, node_at, up_node}
use Rattle.world.proofs.Growth.{event_later}
use Rattle.one_list.specs.MatchingLaws.{EachRunIsActs}
use Rattle.one_list.specs.Local.{AreLocal}
use Rattle.one_list.specs.Matches.{Matches}
use Rattle.one_list.specs.Mirrored.{Mirrors, after_all_acts, and_then, at_start}
use Rattle.one_list.proofs.nodes.StepsInTheory.{answers_with, taken_is}
use Rattle.one_list.proofs.clauses.BuiltPackages.{of_run}
use Rattle.one_list.proofs.matching.CutSteps.{made_here}
use Rattle.one_list.proofs.acts.StopsInDeliveries.{by_arrival}
use Rattle.one_list.proofs.sent.NothingForeign.{comes_welcome, get_contains}
use Rattle.one_list.proofs.builds.HeldPackages.{held_is_listed}
use Rattle.one_list.proofs.nodes.NodesAsMembers.{facts_more, node_is_member}
use Rattle.one_list.proofs.clauses.RunInvariants.{all_fresh}
use Rattle.one_list.proofs.clauses.BuildsOfActs.{mirrors_lead}

-- what was given in the first part of a run was given in the run
pub given_later : (division : Division) (weights : List ℕ) (early late : List Event) (job : Task)
    → JobGiven division weights early job
    → JobGiven division weights (early ++ late) job
given_later division weights early late job g = record {
  before = g.before;
  event = g.event;
  behind = g.behind ++ late;
  among = ap (λ es. es ++ late) g.among ∙ append_assoc g.before (g.event ∷ g.behind) late;
  world = g.world;
  led = g.led;
  then = g.then;
  happened = g.happened;
  gives = g.gives;
}

-- ---- the origin of a node with an open claim

-- It was there before, or it took the event's step.
data ComesFrom (w : World) (e : Event) (v : World) (k : ℕ) (z : WorldNode) : Type 0 where
  was_there : slice_get w.nodes k ≡ Some z → ComesFrom w e v k z
  took : is_step e ≡ true → (s : Steps w e v) → k ≡ kinds.node_of e
      → z ≡ up_node (steps.after (node_at w (kinds.node_of e) s.node) s.taken) → ComesFrom w e v k z

-- otherwise another node was put there, which has no claim
no_claim_there : (w : World) (e : Event) (v : World) (n k : ℕ) (y z : WorldNode) (o : OpenClaim)
    → v.nodes ≡ slice_set w.nodes n y → y.claim ≡ None
    → slice_get v.nodes k ≡ Some z → z.claim ≡ Some o → ComesFrom w e v k z
no_claim_there w e v n k y z o leaves none there is = ⊎_elim
    (λ h. absurd (let no : None ≡ Some o = sym none ∙ ap (λ (x : WorldNode). x.claim) (sym h.1)
    ∙ is in cc))
    (λ h. was_there h.1)
    (get_set w.nodes n k y z (ap (λ l. slice_get l k) (sym leaves) ∙ there))

step_there : (w : World) (e : Event) (v : World) (k : ℕ) (z : WorldNode) → is_step e ≡ true
    → Steps w e v → slice_get v.nodes k ≡ Some z → ComesFrom w e v k z
step_there w e v k z step s there = ⊎_elim
    (λ h. took step s h.0 h.1)
    (λ h. was_there h.1)
    (get_set w.nodes (kinds.node_of e) k (up_node
    (steps.after (node_at w (kinds.node_of e) s.node) s.taken)) z
    (ap (λ (u : World). slice_get u.nodes k) (sym s.leaves) ∙ there))

cut_there : (w : World) (e : Event) (v : World) (l : Left) (k : ℕ) (z : WorldNode) (o : OpenClaim)
    → StopsIn w e l v → slice_get v.nodes k ≡ Some z → z.claim ≡ Some o
    → ComesFrom w (kinds.StopIn e l) v k z
cut_there w e v left.None k z o s there is =
    no_claim_there w (kinds.StopIn e left.None) v (kinds.node_of e) k _ z o
    (ap (λ (u : World). u.nodes) s.leaves) refl there is
cut_there w e v (left.Torn bytes) k z o s there is =
    no_claim_there w (kinds.StopIn e (left.Torn bytes)) v (kinds.node_of e) k _ z o
    (ap (λ (u : World). u.nodes) s.leaves) refl there is
cut_there w e v left.Whole k z o s there is =
    no_claim_there w (kinds.StopIn e left.Whole) v (kinds.node_of e) k _ z o
    (ap (λ (u : World). u.nodes) s.leaves) refl there is

comes_from : (w : World) (e : Event) (v : World) → Happens w e v
    → (k : ℕ) (z : WorldNode) (o : OpenClaim) → slice_get v.nodes k ≡ Some z → z.claim ≡ Some o
    → ComesFrom w e v k z
comes_from w (kinds.Claim n path host above) v h k z o there is =
    step_there w (kinds.Claim n path host above) v k z refl h there
comes_from w (kinds.Built n path files) v h k z o there is =
    step_there w (kinds.Built n path files) v k z refl h there
comes_from w (kinds.Failed n path) v h k z o there is =
    step_there w (kinds.Failed n path) v k z refl h there
comes_from w (kinds.Nudge n) v h k z o there is = step_there w (kinds.Nudge n) v k z refl h there
comes_from w (kinds.Ask n path) v h k z o there is =
    step_there w (kinds.Ask n path) v k z refl h there
comes_from w (kinds.Deliver d n) v h k z o there is =
    step_there w (kinds.Deliver d n) v k z refl h there
comes_from w (kinds.Stop n) v h k z o there is = no_claim_there w (kinds.Stop n) v n k _ z o
    (ap (λ (u : World). u.nodes) h.leaves) refl there is
comes_from w (kinds.StopIn e l) v h k z o there is = cut_there w e v l k z o h there is
comes_from w (kinds.Restart n) v h k z o there is = no_claim_there w (kinds.Restart n) v n k _ z o
    (ap (λ (u : World). u.nodes) h.leaves) refl there is

-- ---- a step

module _ (division : Division) (weights : List ℕ) (acts : List (Act Value)) (w : World)
    (made : IsMade division weights)
    (of : (w.division ≡ division) × (w.weights ≡ weights)) (local : AreLocal w)
    (m : Matches w (after_all_acts division weights acts))
    (again : BuildTextIsReadAgain) (e : Event) (x : WorldNode) (t : Taken) (did : Acts w e x t)
    (o : OpenClaim) (c : Claim)
    (left_open : t.answer.claim ≡ Some o) (waits : o.progress ≡ Building c) where
  abbrev k : ℕ
  k = kinds.node_of e

  abbrev s : State
  s = member_at w k x

  its_made : IsMade w.division w.weights
  its_made = made_here division weights acts w made of local m

  is_member : IsMember s
  is_member = node_is_member w its_made local k x did.is_up.stands

  -- The claim was there with its job, or this step gave the job.
  abbrev IsGiven : Type 0
  IsGiven = ((x.claim ≡ Some o)
      ⊎ (((d : ℕ) × (n : ℕ) × (e ≡ kinds.Deliver d n))
      × (t.answer.job ≡ Some (job_of s o.unit o.host c))))
      × (job_of (after s t.answer) o.unit o.host c ≡ job_of s o.unit o.host c)

  -- the job stays, whatever left the claim open
  job_stays : (input : Input) → IsInput input → Answers s input (Ok t.answer)
      → job_of (after s t.answer) o.unit o.host c ≡ job_of s o.unit o.host c
  job_stays input can answers =
      let ready = claims_were_ready s input t.answer is_member can answers o left_open in
      ap (λ deps. record (job_of s o.unit o.host c) { deps = deps })
      (deps_stay s t.answer o.unit is_member.division.tree
      (unit_good s.division o.unit is_member.division ready.unit).needs.within ready.ready)

  asked_input : (input : Input) → IsNoMessage input → ((a : Asked) → Asks w e a → a ≡ Does input)
      → IsGiven
  asked_input input none asks =
      let same : did.asked ≡ Does input = asks did.asked did.asks in
      let given : members.answer s did.takes.letter input ≡ answers_with t.answer =
      taken_is x.pieces (members.answer s did.takes.letter input) t
      (did.takes.right_is ∙ ap (running_step s x.pieces did.takes.letter) same) in (
        inl (waited_before s did.takes.letter input t.answer none given o c left_open waits),
        job_stays input (subst steps.IsAsked same did.can_be)
            (record {
              letter = did.takes.letter;
              shown = subst
                  (λ a. members.IsLetterOf s (steps.unit_asked (node_at w k x) a) did.takes.letter) same
                  did.takes.shown;
              right = sym given;
            }),
      )

  came : (d n : ℕ) → e ≡ kinds.Deliver d n → (t.answer ≡ nothing s)
      ⊎ ((n : Message Value) × WasSent w.sent n × (members.heard s n ≡ answers_with t.answer))
      → IsGiven
  came d n is (inl none) = (
    inl (ap (λ (a : Answer). a.claim) (sym none) ∙ left_open),
    ap (λ (a : Answer). job_of (after s a) o.unit o.host c) none,
  )
  came d n is (inr (message, was, heard)) =
      let answers : Answers s (inputs.Message message) (Ok t.answer) =
      record { letter = did.takes.letter; shown = tt; right = sym heard } in (
        ⊎_elim (λ job. inr ((d, n, is), job)) (λ before. inl before)
            (waiting_claims s (inputs.Message message) t.answer o c is_member answers left_open waits),
        job_stays (inputs.Message message) tt answers,
      )

-- this holds for each step
step_gives : (division : Division) (weights : List ℕ) (acts : List (Act Value)) (w : World)
    (made : IsMade division weights)
    (of : (w.division ≡ division) × (w.weights ≡ weights)) (local : AreLocal w)
    (m : Matches w (after_all_acts division weights acts))
    (again : BuildTextIsReadAgain) (e : Event) (x : WorldNode) (t : Taken) (did : Acts w e x t)
    (o : OpenClaim) (c : Claim)
    (left_open : t.answer.claim ≡ Some o) (waits : o.progress ≡ Building c) → is_step e ≡ true
    → IsGiven division weights acts w made of local m again e x t did o c left_open waits
step_gives division weights acts w made of local m again (kinds.Claim n path host above) x t did o c
    left_open waits step =
    asked_input division weights acts w made of local m again (kinds.Claim n path host above) x t
    did o c left_open waits (inputs.Claim path host above) tt (λ a h. h)
step_gives division weights acts w made of local m again (kinds.Built n path files) x t did o c
    left_open waits step =
    asked_input division weights acts w made of local m again (kinds.Built n path files) x t did o c
    left_open waits (inputs.Built path files) tt (λ a h. h)
step_gives division weights acts w made of local m again (kinds.Failed n path) x t did o c left_open
    waits step =
    asked_input division weights acts w made of local m again (kinds.Failed n path) x t did o c
    left_open waits (inputs.Failed path) tt (λ a h. h)
step_gives division weights acts w made of local m again (kinds.Nudge n) x t did o c left_open waits
    step =
    asked_input division weights acts w made of local m again (kinds.Nudge n) x t did o c left_open
    waits inputs.Nudge tt (λ a h. h)
step_gives division weights acts w made of local m again (kinds.Ask n path) x t did o c left_open
    waits step =
    asked_input division weights acts w made of local m again (kinds.Ask n path) x t did o c
    left_open waits (inputs.Ask path) tt (λ a h. h)
step_gives division weights acts w made of local m again (kinds.Deliver d n) x t did o c left_open
    waits step =
    let text = did.asks.0 in
    let kept = (local.each n x did.is_up.stands).pieces in
    came division weights acts w made of local m again (kinds.Deliver d n) x t did o c left_open
    waits d n refl
    (by_arrival division weights acts w made of local m again n x did.is_up.stands did.is_up.up t
    (arrival_of (member_at w n x) x.pieces (datagram_of text))
    (comes_welcome division weights acts w made of m again n x x.pieces kept text
    (get_contains w.sent d text did.asks.1))
    (did.takes.right_is ∙ ap (running_step (member_at w n x) x.pieces did.takes.letter) did.asks.2))
step_gives division weights acts w made of local m again (kinds.Stop n) x t did o c left_open waits
    step = absurd (true≢false (sym step))
step_gives division weights acts w made of local m again (kinds.StopIn e l) x t did o c left_open
    waits step = absurd (true≢false (sym step))
step_gives division weights acts w made of local m again (kinds.Restart n) x t did o c left_open
    waits step = absurd (true≢false (sym step))

-- ---- along a run

module _ (division : Division) (weights : List ℕ) (made : IsMade division weights)
    (runs : EachRunIsActs) (again : BuildTextIsReadAgain) where
  -- what a job signs is in the list
  signed_there : (w : World) (local : AreLocal w) (acts : List (Act Value))
      → (w.division ≡ division) × (w.weights ≡ weights)
      → Matches w (after_all_acts division weights acts)
      → (k : ℕ) (x : WorldNode) → slice_get w.nodes k ≡ Some x → (u : ℕ)
      → All (HasSignature w.agreed) (deps_of (member_at w k x) u)
  signed_there w local acts of m k x stands u =
      All-weaker (λ (d : Dep). (r : Content) × (held_record (member_at w k x) d.path ≡ Some r)
      × (d ≡ signature r)) (HasSignature w.agreed)
      (λ d h. (
        h.0,
        ((held_is_listed division weights acts w made of m local).paths k x d.path h.0 stands h.1).1,
        sym h.2,
      ))
      (deps_of (member_at w k x) u) (builds_stand (member_at w k x) u)

  -- the member after the step is the one that answered
  left_member : (w : World) (k : ℕ) (x : WorldNode) (t : Taken)
      → after (member_at w k x) t.answer ≡ member_at w k (up_node (steps.after (node_at w k x) t))
  left_member w k x t = ap (λ (fs : List (Facts Value)).
      record (member_at w k x) { facts = fs; claim = t.answer.claim })
      (sym (facts_more w k x (up_node (steps.after (node_at w k x) t)) t.answer.note refl))

  -- the node in a later world of the run is the same member
  same_division : (w v : World) (k : ℕ) (z : WorldNode) → v.division ≡ w.division
      → v.weights ≡ w.weights → member_at v k z ≡ member_at w k z
  same_division w v k z division weights =
      ap (λ d. member_at (record v { division = d }) k z) division
      ∙ ap (λ ws. member_at (record v { division = w.division; weights = ws }) k z) weights

  -- Each claim that waits was given its job.
  pub claim_has_job : (events : List Event) (w : World) (acts : List (Act Value))
      → Mirrors division weights events w acts → (k : ℕ) (x : WorldNode) (o : OpenClaim) (c : Claim)
      → slice_get w.nodes k ≡ Some x → x.claim ≡ Some o → o.progress ≡ Building c
      → JobGiven division weights events (job_of (member_at w k x) o.unit o.host c)
  claim_has_job events w acts at_start k x o c stands is waits =
      absurd (let no : None ≡ Some o = ap (λ (n : WorldNode). n.claim)
      (all_fresh (length weights) k x stands) ∙ is in cc)
  claim_has_job events last acts (and_then before w v others e a mirrors m h act) k x o c stands is
      waits =
      by (comes_from w e v h k x o stands is)
      (λ j y there claimed. claim_has_job before w others mirrors j y o c there claimed waits)
    where
      r : (acts : List (Act Value)) × Mirrors division weights before w acts
          × Matches w (after_all_acts division weights acts) × AreLocal w
      r = runs division weights before w made
          (mirrors_lead division weights before w others mirrors)

      of : (w.division ≡ division) × (w.weights ≡ weights)
      of = of_run division weights made before w others mirrors

      later : (v.division ≡ w.division) × (v.weights ≡ w.weights)
      later = let l = event_later w v e h in (l.division, l.weights)

      -- it took this step
      stepped : (s : Steps w e v) → is_step e ≡ true → k ≡ kinds.node_of e
          → x ≡ up_node (steps.after (node_at w (kinds.node_of e) s.node) s.taken)
          → ((j : ℕ) (y : WorldNode) → slice_get w.nodes j ≡ Some y → y.claim ≡ Some o
          → JobGiven division weights before (job_of (member_at w j y) o.unit o.host c))
          → JobGiven division weights (before ++ e ∷ []) (job_of (member_at v k x) o.unit o.host c)
      stepped s step who node earlier =
          subst (JobGiven division weights (before ++ e ∷ [])) (sym job_is) (⊎_elim
          (λ there. given_later division weights before (e ∷ [])
          (job_of (member_at w (kinds.node_of e) s.node) o.unit o.host c)
          (earlier (kinds.node_of e) s.node s.acts.is_up.stands there))
          (λ now. record {
            before = before;
            event = e;
            behind = [];
            among = refl;
            world = w;
            led = mirrors_lead division weights before w others mirrors;
            then = v;
            happened = h;
            gives = record {
              node = s.node;
              taken = s.taken;
              acts = s.acts;
              datagram = now.0.0;
              receiver = now.0.1;
              delivers = now.0.2;
              given = now.1;
              stood = signed_there w r.3 r.0 of r.2 (kinds.node_of e) s.node s.acts.is_up.stands
                  o.unit;
            };
          })
          gives.0)
        where
          left_open : s.taken.answer.claim ≡ Some o
          left_open = ap (λ (n : WorldNode). n.claim) (sym node) ∙ is

          gives : IsGiven division weights r.0 w made of r.3 r.2 again e s.node s.taken s.acts o c
              left_open waits
          gives = step_gives division weights r.0 w made of r.3 r.2 again e s.node s.taken s.acts o
              c left_open waits step

          job_is : job_of (member_at v k x) o.unit o.host c ≡ job_of
              (member_at w (kinds.node_of e) s.node) o.unit o.host c
          job_is =
              ap (λ z. job_of z o.unit o.host c) (same_division w v k x later.0 later.1
              ∙ ap (λ n. member_at w n x) who ∙ ap (member_at w (kinds.node_of e)) node
              ∙ sym (left_member w (kinds.node_of e) s.node s.taken))
              ∙ gives.1

      by : ComesFrom w e v k x
          → ((j : ℕ) (y : WorldNode) → slice_get w.nodes j ≡ Some y → y.claim ≡ Some o
          → JobGiven division weights before (job_of (member_at w j y) o.unit o.host c))
          → JobGiven division weights (before ++ e ∷ []) (job_of (member_at v k x) o.unit o.host c)
      by (was_there there) earlier =
          subst (JobGiven division weights (before ++ e ∷ []))
          (sym (ap (λ z. job_of z o.unit o.host c) (same_division w v k x later.0 later.1)))
          (given_later division weights before (e ∷ []) (job_of (member_at w k x) o.unit o.host c)
          (earlier k x there is))
      by (took step s who node) earlier = stepped s step who node earlier

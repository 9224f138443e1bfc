-- The state after a step is taken: a member, and the job of its claim.
use Rattle.std.proofs.Common.{◌≡◌, ℕ, List, map, Option, None, Some, inl, inr, refl, sym}
use Rattle.std.proofs.Common.{ap, ◌∙◌, if◌then◌else◌, option_map, subst}
use Rattle.std.specs.Prelude.{option_and_then, unwrap_or}
use Rattle.std.specs.Option.{ForSome}
use Rattle.faults.specs.Answers.{option_or}
use Rattle.claims.specs.declared.claim.Claim.{Claim}
use Rattle.claims.specs.Job.{Task}
use Rattle.engine.proofs.Kept.{unit_good}
use Rattle.protocol.specs.State.{OpenClaim, Progress, Gathering, Building, Voting, State, name_at}
use Rattle.protocol.specs.State.{facts_then}
use Rattle.protocol.specs.Answers.{Answer, after}
use Rattle.protocol.specs.Jobs.{job_of, paths_at}
use Rattle.protocol.specs.Member.{IsMember}
use Rattle.protocol.specs.Step.{job_again}
use Rattle.protocol.proofs.GivenJobs.{jobs_are_of_claims}
use Rattle.protocol.proofs.HeldRecords.{deps_stay}
use Rattle.protocol.proofs.MembersStay.{claims_were_ready, members_stay}
use Rattle.protocol.proofs.WaitingClaims.{waiting_claims}
use Rattle.member.specs.OpenClaims.{IsWeighedBy, open_of}
use Rattle.member.specs.inside.Waiting.{is_building_at, waits}
use Rattle.member.specs.Prepared.{IsChangeWeighedBy, MayBeTaken, Prepared, answer_by, changed}
use Rattle.member.specs.declared.member.Member.TheInside.{Inside}
use Rattle.member.specs.shared.Fields.{IsKept, engine_with, facts_of_known, job_in, state_of}

-- the claim that waits for a build, if one does
abbrev claim_or : Progress → Claim → Claim
claim_or (Gathering c joined k) d = d
claim_or (Building c) d = c
claim_or (Voting b joined) d = d

module _ (s : State) (p : Prepared) (is : IsMember s) (may : MayBeTaken s p) where
  abbrev given : Answer
  given = answer_by s p

  pub member_stays : IsMember (after s given)
  member_stays = members_stay s may.input given is may.in_range may.answers

  -- the job of the claim that stays open is made on what was held before
  same_job : (o : OpenClaim) (c : Claim) → given.claim ≡ Some o
      → job_of (after s given) o.unit o.host c ≡ job_of s o.unit o.host c
  same_job o c open_is =
      let ready = claims_were_ready s may.input given is may.in_range may.answers o open_is in
      let made = unit_good s.division o.unit is.division ready.unit in
      ap (λ deps. let task : Task =
      record {
        path = name_at s o.unit;
        packages = paths_at s o.unit;
        claim = c;
        host = o.host;
        deps = deps;
      } in task)
      (deps_stay s given o.unit is.division.tree made.needs.within ready.ready)

  -- a job that is given is that of the claim
  given_is : (o : OpenClaim) (c : Claim) (job : Task) → given.claim ≡ Some o
      → o.progress ≡ Building c → p.job ≡ Some job → job ≡ job_of s o.unit o.host c
  given_is o c job open_is waits_under e =
      let of = jobs_are_of_claims s may.input given is may.answers job e in
      let same : of.claim ≡ o = ap (λ x. unwrap_or x o) (sym of.is_open ∙ open_is) in
      let under : job.claim ≡ c = ap (λ q. claim_or q c) (sym of.builds ∙ ap (λ x. x.progress) same
      ∙ waits_under) in
      of.is ∙ ap (λ x. job_of s x.unit x.host job.claim) same ∙ ap (job_of s o.unit o.host) under

  -- if no job is given, the claim already waited before
  kept_is : (o : OpenClaim) (c : Claim) → given.claim ≡ Some o → o.progress ≡ Building c
      → p.job ≡ None → job_in s ≡ Some (job_of s o.unit o.host c)
  kept_is o c open_is waits_under e =
      elim (waiting_claims s may.input given o c is may.answers open_is waits_under) [
        | inl now ↦ absurd (let no : None ≡ Some (job_of s o.unit o.host c) = sym e ∙ now in cc)
        | inr before ↦
            ap (option_and_then (λ (x : OpenClaim). job_again s x x.progress)) before
            ∙ ap (job_again s o) waits_under
      ]

  -- the stored job is the claim's
  pub job_then : (before : Option Task) → before ≡ job_in s
      → (if waits given.claim then option_or p.job before else None) ≡ job_in (after s given)
  job_then before at = by_claim given.claim refl
    where
      by_job : (o : OpenClaim) (c : Claim) (job : Option Task) → given.claim ≡ Some o
          → o.progress ≡ Building c → p.job ≡ job
          → option_or job before ≡ Some (job_of s o.unit o.host c)
      by_job o c None open_is waits_under e = at ∙ kept_is o c open_is waits_under e
      by_job o c (Some job) open_is waits_under e =
          ap (λ x. Some x) (given_is o c job open_is waits_under e)

      by_progress : (o : OpenClaim) (q : Progress) → given.claim ≡ Some o → o.progress ≡ q
          → (if is_building_at q then option_or p.job before else None)
          ≡ job_again (after s given) o q
      by_progress o (Gathering c joined k) open_is e = refl
      by_progress o (Voting b joined) open_is e = refl
      by_progress o (Building c) open_is e =
          by_job o c p.job open_is e refl ∙ ap (λ x. Some x) (sym (same_job o c open_is))

      by_claim : (claim : Option OpenClaim) → given.claim ≡ claim
          → (if waits claim then option_or p.job before else None)
          ≡ option_and_then (λ (x : OpenClaim). job_again (after s given) x x.progress) claim
      by_claim None e = refl
      by_claim (Some o) e = by_progress o o.progress e refl

-- If a member took a step, and its fields are those of n, the invariant of a member's fields holds.
module _ (m n : Inside) (p : Prepared) (is : IsKept m) (may : MayBeTaken (state_of m) p) where
  abbrev new : Inside
  new = record m { known = n.known; claim = n.claim; job = n.job; engine = n.engine }

  pub state_then : map facts_of_known n.known.items
      ≡ facts_then m.units (map facts_of_known m.known.items) p.note
      → option_map open_of n.claim ≡ changed p.change (option_map open_of m.claim)
      → state_of new ≡ after (state_of m) (answer_by (state_of m) p)
  state_then facts claim = λ i. record (state_of m) { facts = facts i; claim = claim i }

  pub kept_then : map facts_of_known n.known.items
      ≡ facts_then m.units (map facts_of_known m.known.items) p.note
      → option_map open_of n.claim ≡ changed p.change (option_map open_of m.claim)
      → ((weights : List ℕ) → ForSome m.claim (λ o. IsWeighedBy weights o.claimer)
      → IsChangeWeighedBy weights p.change (option_map open_of m.claim)
      → ForSome n.claim (λ o. IsWeighedBy weights o.claimer))
      → n.job ≡ (if waits (option_map open_of n.claim) then option_or p.job m.job else None)
      → n.engine ≡ engine_with m.units (map facts_of_known n.known.items)
      → IsKept new
  kept_then facts claim weighed job engine =
      let state = state_then facts claim in
      record {
        member = subst IsMember (sym state) (member_stays (state_of m) p is.member may);
        tree = is.tree;
        digest = is.digest;
        engine = engine;
        weighed = weighed m.weights is.weighed may.weighed;
        job = job
            ∙ (ap (λ x. if waits x then option_or p.job m.job else None) claim
            ∙ (job_then (state_of m) p is.member may m.job is.job ∙ ap job_in (sym state)));
      }

-- The dependencies of every build that was ever proposed were in the list when its job was given.
use Rattle.std.proofs.Common.{◌≡◌, ℕ, List, ◌∷◌, refl, sym, ap, subst, ◌∙◌}
use Rattle.std.specs.Prelude.{All}
use Rattle.std.proofs.lemmas.List.Elements.{All-map}
use Rattle.claims.specs.AgreedList.{Act}
use Rattle.claims.specs.Messages as messages
use Rattle.claims.specs.Votes.{ballot}
use Rattle.claims.specs.declared.claim.Claim.{Claim}
use Rattle.ballots.specs.declared.message.Body.TheVariants.{Propose}
use Rattle.claims.specs.Job.{Task}
use Rattle.faults.specs.Bytes.{Text}
use Rattle.protocol.specs.Events.{Event}
use Rattle.package_record.specs.Laws.{BuildTextIsReadAgain}
use Rattle.protocol.specs.Jobs.{job_of, record_by}
use Rattle.protocol.specs.State.{Building, State, Value}
use Rattle.engine.specs.Division.{Division, unit_at}
use Rattle.one_list.specs.Safety.{IsOfJob, JobGiven, JobWasGiven, JobsStood}
use Rattle.world.specs.Sent.{WasProposed, message}
use Rattle.world.specs.World.{IsMade, World, member_at}
use Rattle.one_list.specs.MatchingLaws.{EachRunIsActs}
use Rattle.one_list.specs.Matches.{Matches, WasSaid}
use Rattle.one_list.specs.Mirrored.{Mirrors, after_all_acts}
use Rattle.one_list.proofs.clauses.BuiltPackages.{of_run}
use Rattle.one_list.proofs.sent.MessageHeaders.{in_order, sent_was_said}
use Rattle.one_list.proofs.clauses.ClaimJobs.{claim_has_job, given_later}
use Rattle.one_list.proofs.clauses.BuildsOfActs.{WasMade, built_was_made}

module _ (division : Division) (weights : List ℕ) (made : IsMade division weights)
    (runs : EachRunIsActs) (again : BuildTextIsReadAgain)
    (events : List Event) (w : World) (acts : List (Act Value))
    (mirrors : Mirrors division weights events w acts)
    (m : Matches w (after_all_acts division weights acts)) where
  of : (w.division ≡ division) × (w.weights ≡ weights)
  of = of_run division weights made events w acts mirrors

  module _ (name : Text) (c : Claim) (build : Value)
      (proposed : WasProposed w w.sent name c build) where
    -- the proposal was said
    said : WasSaid w (after_all_acts division weights acts)
        (message w name proposed.0 (Propose c build))
    said = sent_was_said division weights acts w made of m again
        (message w name proposed.0 (Propose c build)) proposed.1

    -- its build was made
    was : WasMade division weights events said.unit build
    was = built_was_made division weights events w acts mirrors said.unit build
        (((in_order division weights acts w made of m).sound said.unit).said
        (messages.Propose (ballot c build)) said.said_there).2.1

    -- the member whose claim waited for it made it by the claim's job
    abbrev maker : State
    maker = member_at was.world was.maker was.makes.node

    abbrev job : Task
    job = job_of maker said.unit was.makes.host was.makes.claim

    given : JobGiven division weights events job
    given = subst (λ es. JobGiven division weights es job) (sym was.among)
        (given_later division weights was.before (was.event ∷ was.behind) job
        (claim_has_job division weights made runs again was.before was.world was.acts was.mirrors
        was.maker was.makes.node
        (record { unit = said.unit; host = was.makes.host; progress = Building was.makes.claim })
        was.makes.claim was.makes.stands was.makes.opened refl))

    named : job.path ≡ name
    named =
        ap (λ (d : Division). (unit_at d said.unit).name)
        ((of_run division weights made was.before was.world was.acts was.mirrors).0 ∙ sym of.0)
        ∙ sym said.about

    -- each record is the job's
    of_job : All (IsOfJob job) build
    of_job = subst (All (IsOfJob job)) (sym was.makes.build_is)
        (All-map (IsOfJob job) (record_by was.world.division.tree job was.makes.files)
        (unit_at was.world.division said.unit).packages (λ k d lt. (refl, refl, refl)))

    its_job : JobWasGiven division weights events name build
    its_job = record { job = job; was_given = given; for_unit = named; of_job = of_job }

  -- This holds for each build that was proposed.
  pub jobs_stood : JobsStood division weights events w
  jobs_stood name c build proposed = its_job name c build proposed

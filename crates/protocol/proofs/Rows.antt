-- Members with one package, computed. Nothing here computes a digest; only bodies of messages do.
use Rattle.std.specs.Prelude.{◌≡◌, refl, ℕ, true, List, [], ◌∷◌, Option, None, Some, Result, Ok}
use Rattle.std.specs.Prelude.{Err, codes, map, option_map}
use Rattle.claims.specs.Votes.{ballot}
use Rattle.engine.specs.declared.Letter.TheVariants as letters
use Rattle.ballots.specs.declared.message.Body.{Body}
use Rattle.ballots.specs.declared.message.Body.TheVariants.{Offer, Promise, Propose, Vote, Agreed}
use Rattle.ballots.specs.declared.message.Body.TheVariants.{Nay}
use Rattle.ballots.specs.declared.message.Fact.{Fact}
use Rattle.ballots.specs.declared.message.Fact.TheVariants as fact
use Rattle.engine.specs.Division.{number_named}
use Rattle.protocol.specs.State.{Gathering, Building, Voting, State, Value}
use Rattle.protocol.specs.Jobs.{are_given, build_by, job_of}
use Rattle.protocol.specs.Answers.{Answer, after}
use Rattle.protocol.specs.Step.{answer, builds, hears, nudges, unit_in}
use Rattle.protocol.specs.Restoring.{restored}
use Rattle.protocol.proofs.Examples.{after_hearing, claim, given, heavy_last, known, newcomer, note}
use Rattle.protocol.proofs.Examples.{promised, said_to, three, two_packages, voted}
use Rattle.protocol.specs.declared.refusal.Refusal.{Refusal}
use Rattle.protocol.specs.declared.refusal.Refusal.TheVariants as refusals
use Rattle.protocol.specs.declared.input.Input.TheVariants as inputs

-- ---- a plain run of three members

-- the member after a result, and what it says; read only if it is an answer
abbrev left : State → Result Answer Refusal → State
left s (Ok a) = after s a
left s (Err e) = s

-- what is sent
abbrev out : Result Answer Refusal → List (ℕ × Body Value)
out (Ok a) = said_to a.sends
out (Err e) = []

-- what is noted
abbrev noted : Result Answer Refusal → Option (Fact Value)
noted (Ok a) = option_map (λ n. n.fact) a.note
noted (Err e) = None

-- member 0 opens its first claim, for host 3
abbrev opening : Result Answer Refusal
opening = answer (newcomer three 0) letters.Q (inputs.Claim (codes "a/b") 3 0)

first_note : noted opening ≡ Some (fact.Opened 1)
first_note = refl

first_offers : out opening ≡ (0, Offer (claim 1 0)) ∷ (1, Offer (claim 1 0)) ∷
    (2, Offer (claim 1 0)) ∷ []
first_offers = refl

-- the offer reaches member 1, which promises
promise_of_1 : said_to (hears (newcomer three 1) 0 0 (Offer (claim 1 0))).sends ≡
    (0, Promise (claim 1 0) None) ∷ []
promise_of_1 = refl

note_of_1 : (hears (newcomer three 1) 0 0 (Offer (claim 1 0))).note ≡ Some
    (note (fact.Promised (claim 1 0)))
note_of_1 = refl

-- two of three promised, so a job is given
abbrev gathering : State
gathering = after_hearing (left (newcomer three 0) opening)
    ((0, Offer (claim 1 0)) ∷ (1, Promise (claim 1 0) None) ∷ [])

job_at_a_majority :
    (hears gathering 0 0 (Promise (claim 1 0) None)).job
    ≡ Some (record {
      path = codes "a/b";
      packages = codes "a/b" ∷ [];
      claim = claim 1 0;
      host =
          3;
      deps = [];
    })
job_at_a_majority = refl

abbrev building : State
building = after_hearing gathering ((0, Promise (claim 1 0) None) ∷ [])

waits : building.claim ≡ Some (record { unit = 0; host = 3; progress = Building (claim 1 0) })
waits = refl

-- the build is the record of the job with the files
abbrev the_build : Value
the_build = build_by building 0 (job_of building 0 3 (claim 1 0)) given

built_record :
    the_build
    ≡ record {
      path = codes "a/b";
      name = codes "b-1.0";
      host = 3;
      claim = claim 1 0;
      built = [];
      run = [];
      files = record { name = codes "x"; bytes = codes "abc" } ∷ [];
    } ∷ []
built_record = refl

-- a second Built while waiting for votes is refused, and so is one without a claim
abbrev voting : State
voting = known building (promised 1 (claim 1 0)) (Some (Voting (ballot (claim 1 0) the_build) []))

built_again : builds voting given 0 ≡ Err refusals.NoClaim
built_again = refl

built_without_claim : builds (newcomer three 0) given 0 ≡ Err refusals.NoClaim
built_without_claim = refl

-- a nudge proposes to all, and after member 0 voted, to the others
nudge_all : out (nudges voting voting.claim)
    ≡ (0, Propose (claim 1 0) the_build) ∷ (1, Propose (claim 1 0) the_build) ∷
    (2, Propose (claim 1 0) the_build) ∷ []
nudge_all = refl

abbrev one_vote : State
one_vote = after_hearing voting ((0, Propose (claim 1 0) the_build) ∷ (0, Vote (claim 1 0)) ∷ [])

nudge_the_rest : out (nudges one_vote one_vote.claim)
    ≡ (1, Propose (claim 1 0) the_build) ∷ (2, Propose (claim 1 0) the_build) ∷ []
nudge_the_rest = refl

-- a second vote of the same member changes nothing
vote_again : hears one_vote 0 0 (Vote (claim 1 0)) ≡ record
    { note = None; sends = []; job = None; claim = one_vote.claim }
vote_again = refl

-- at a majority the build is held and sent to the others, and the claim is closed
held_at_a_majority : (hears one_vote 0 1 (Vote (claim 1 0))).note ≡ Some
    (note (fact.Held the_build))
held_at_a_majority = refl

agreed_to_others : said_to (hears one_vote 0 1 (Vote (claim 1 0))).sends ≡ (1, Agreed the_build) ∷
    (2, Agreed the_build) ∷ []
agreed_to_others = refl

abbrev holder : State
holder = after_hearing one_vote ((1, Vote (claim 1 0)) ∷ [])

is_done : holder.claim ≡ None
is_done = refl

-- a repeated message gets the same answer; only the offer is rejected, since there is a vote for
-- its claim now
late_offer : said_to (hears holder 0 0 (Offer (claim 1 0))).sends ≡ (0, Nay (claim 1 0) (claim 1 0))
    ∷ []
late_offer = refl

late_proposal : said_to (hears holder 0 0 (Propose (claim 1 0) the_build)).sends ≡
    (0, Vote (claim 1 0)) ∷ []
late_proposal = refl

late_vote : (hears holder 0 1 (Vote (claim 1 0))).note ≡ None
late_vote = refl

late_promise : (hears holder 0 1 (Promise (claim 1 0) None)).sends ≡ []
late_promise = refl

-- ---- another member takes over

-- member 2 voted under member 0's claim, and promises a greater one with its vote as the report
reports : (v : Value) →
    said_to (hears (known (newcomer three 2) (voted 0 (ballot (claim 1 0) v)) None) 0 1
    (Offer (claim 1 1))).sends
    ≡ (1, Promise (claim 1 1) (Some (claim 1 0, v))) ∷ []
reports v = refl

-- member 1 proposes the reported build, and has no job
abbrev taking_over : State
taking_over = known (newcomer three 1) (promised 1 (claim 1 1))
    (Some (Gathering (claim 1 1) (1 ∷ []) None))

proposes_the_report : (v : Value) →
    said_to (hears taking_over 0 2 (Promise (claim 1 1) (Some (claim 1 0, v)))).sends
    ≡ (0, Propose (claim 1 1) v) ∷ (1, Propose (claim 1 1) v) ∷ (2, Propose (claim 1 1) v) ∷ []
proposes_the_report v = refl

no_job : (v : Value) → (hears taking_over 0 2 (Promise (claim 1 1) (Some (claim 1 0, v)))).job ≡
    None
no_job v = refl

-- ---- rounds, restarts and refusals

-- after a restart no claim is open, and the next round is opened
next_round :
    noted (answer (restored (newcomer three 0) (note (fact.Opened 1) ∷ [])) letters.Q
    (inputs.Claim (codes "a/b") 3 0))
    ≡ Some (fact.Opened 2)
next_round = refl

no_round_left : answer (newcomer three 0) letters.Q
    (inputs.Claim (codes "a/b") 3 9223372036854775807) ≡ Err refusals.RoundsSpent
no_round_left = refl

greatest_round :
    noted (answer (newcomer three 0) letters.Q (inputs.Claim (codes "a/b") 3 9223372036854775806))
    ≡ Some (fact.Opened 9223372036854775807)
greatest_round = refl

unlisted : answer (newcomer three 0) letters.Q (inputs.Claim (codes "c/d") 3 0) ≡ Err
    refusals.Unlisted
unlisted = refl

waiting : answer (newcomer three 0) letters.T (inputs.Claim (codes "a/b") 3 0) ≡ Err
    refusals.Waiting
waiting = refl

held_again : answer holder letters.B (inputs.Claim (codes "a/b") 3 0) ≡ Err refusals.Held
held_again = refl

-- waiting is tested before the round
waiting_before_spent : answer (newcomer three 0) letters.T
    (inputs.Claim (codes "a/b") 3 9223372036854775807) ≡ Err refusals.Waiting
waiting_before_spent = refl

no_claim_to_nudge : answer (newcomer three 0) letters.Q inputs.Nudge ≡ Err refusals.NoClaim
no_claim_to_nudge = refl

other_packages : builds building ((codes "a/b", []) ∷ (codes "a/c", []) ∷ []) 0 ≡ Err
    refusals.OtherPackages
other_packages = refl

twice_given : builds building ((codes "a/b", []) ∷ (codes "a/b", []) ∷ []) 0 ≡ Err
    refusals.OtherPackages
twice_given = refl

-- ---- weights

-- two of weight 1 are not a majority against one of weight 3
no_job_of_the_light :
    (hears (known (newcomer heavy_last 0) (promised 1 (claim 1 0))
    (Some (Gathering (claim 1 0) (1 ∷ []) None))) 0 0 (Promise (claim 1 0) None)).job ≡ None
no_job_of_the_light = refl

-- the heavy one is a majority on its own
job_of_the_heavy :
    (hears (known (newcomer heavy_last 2) (promised 1 (claim 1 2))
    (Some (Gathering (claim 1 2) [] None))) 0 2 (Promise (claim 1 2) None)).job
    ≡ Some (record {
      path = codes "a/b";
      packages = codes "a/b" ∷ [];
      claim = claim 1 2;
      host =
          3;
      deps = [];
    })
job_of_the_heavy = refl

holds_alone : (v : Value) →
    (hears (known (newcomer heavy_last 2) (voted 1 (ballot (claim 1 2) v))
    (Some (Voting (ballot (claim 1 2) v) []))) 0 2 (Vote (claim 1 2))).note
    ≡ Some (note (fact.Held v))
holds_alone v = refl

-- ---- two packages that one build makes

abbrev pair : State
pair = record (known (newcomer three 0) (promised 1 (claim 1 0)) (Some (Building (claim 1 0))))
    { division = two_packages }

found_by_path : unit_in pair (codes "a/b,-y") ≡ Some 0
found_by_path = refl

found_by_name : unit_in pair (codes "a/b") ≡ Some 0
found_by_name = refl

-- a message names the unit only by its name
named_alone : number_named two_packages (codes "a/b,-y") ≡ None
named_alone = refl

job_of_two : job_of pair 0 3 (claim 1 0)
    ≡ record {
      path = codes "a/b";
      packages = codes "a/b,-x" ∷ codes "a/b,-y" ∷ [];
      claim =
          claim 1 0;
      host = 3;
      deps = [];
    }
job_of_two = refl

one_of_two : builds pair ((codes "a/b,-x", []) ∷ []) 0 ≡ Err refusals.OtherPackages
one_of_two = refl

both_in_any_order : are_given (codes "a/b,-x" ∷ codes "a/b,-y" ∷ [])
    ((codes "a/b,-y", []) ∷ (codes "a/b,-x", []) ∷ []) ≡ true
both_in_any_order = refl

runs_on_the_other :
    map (λ r. r.run) (build_by pair 0 (job_of pair 0 3 (claim 1 0)) []) ≡ [] ∷ (codes "a/b,-x" ∷ [])
    ∷ []
runs_on_the_other = refl

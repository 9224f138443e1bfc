-- The way that is returned: it asks, one after another, the first nodes that are up and together a
-- majority.
use Rattle.std.specs.Prelude.{ℕ, suc, ◌+◌, List, [], ◌∷◌, ◌++◌, Option, None, Some, filter, length, map, option_map, if◌then◌else◌}
use Rattle.std.specs.List.{range_with_len}
use Rattle.faults.specs.Bytes.{Text}
use Rattle.claims.specs.Quorums.{Members, is_majority, nobody, with_member}
use Rattle.claims.specs.Votes.{Ballot, kept_report}
use Rattle.claims.specs.declared.claim.Claim.{Claim}
use Rattle.ballots.specs.declared.message.Body.TheVariants.{Promise, Propose}
use Rattle.ballots.specs.declared.message.Message.{Message}
use Rattle.protocol.specs.Events.{Event, Built, Claim as claims, Deliver}
use Rattle.protocol.specs.Given.{Given}
use Rattle.protocol.specs.InTheAgreement.{pair_of}
use Rattle.protocol.specs.State.{State, Value}
use Rattle.engine.specs.Division.{unit_at}
use Rattle.ways_on.specs.Asked.{next_build}
use Rattle.ways_on.specs.Rounds.{last_round, next_claim, seen_at}
use Rattle.wire.specs.Pieces.{split_of}
use Rattle.world.specs.Happening.{is_up}
use Rattle.world.specs.Sent.{message}
use Rattle.world.specs.World.{World}

-- ---- the nodes that are asked

-- the nodes that are up, by number
abbrev pub nodes_up : World → List ℕ
nodes_up w = filter (is_up w) (range_with_len 0 (length w.nodes))

-- these members in order, up to the one that completes a majority with those of S; all of them if
-- none does
abbrev pub until_majority : List ℕ → Members → List ℕ → List ℕ
until_majority weights S [] = []
until_majority weights S (k ∷ ks) =
    k ∷ (if is_majority weights (with_member S k) then []
    else until_majority weights (with_member S k) ks)

-- the nodes that are asked
abbrev pub asked_of : World → List ℕ
asked_of w = until_majority w.weights nobody (nodes_up w)

-- ---- what they answer

-- node k's promise, which reports its last vote
abbrev pub promise_of : World → ℕ → Claim → ℕ → Message Value
promise_of w u c k = message w (unit_at w.division u).name k
    (Promise c (option_map pair_of (seen_at w u k).voted))

-- the number of datagrams of this promise
abbrev pub promised_in : World → ℕ → Claim → ℕ → ℕ
promised_in w u c k = length (split_of (promise_of w u c k))

-- the report with the greatest claim among these nodes' votes
abbrev pub report_of_all : World → ℕ → Option (Ballot Value) → List ℕ → Option (Ballot Value)
report_of_all w u kept [] = kept
report_of_all w u kept (k ∷ ks) = report_of_all w u (kept_report kept (seen_at w u k).voted) ks

-- the build to propose: the reported one, or else what the files make
abbrev pub proposed_by : Option (Ballot Value) → Value → Value
proposed_by None build = build
proposed_by (Some b) build = b.value

-- ---- the events

-- deliveries of `count` datagrams, from number `first` on, to node k
abbrev pub deliveries : ℕ → ℕ → ℕ → List Event
deliveries first count k = map (λ d. Deliver d k) (range_with_len first count)

-- the offer goes to each of these nodes, and its promise to the claim's member; promises have the
-- numbers from `next` on
abbrev pub asks_from : World → ℕ → Claim → ℕ → ℕ → List ℕ → List Event
asks_from w u c offer next [] = []
asks_from w u c offer next (k ∷ ks) =
    Deliver offer k ∷ deliveries next (promised_in w u c k) c.member
    ++ asks_from w u c offer (next + promised_in w u c k) ks

-- the number of the first datagram after these nodes' promises
abbrev pub behind_promises : World → ℕ → Claim → ℕ → List ℕ → ℕ
behind_promises w u c next [] = next
behind_promises w u c next (k ∷ ks) = behind_promises w u c (next + promised_in w u c k) ks

-- the Built event, unless a report makes it unnecessary
abbrev pub told_of : Option (Ballot Value) → Event → List Event
told_of None e = e ∷ []
told_of (Some b) e = []

-- the proposal, of `count` datagrams from `first` on, goes to each of these nodes, and its vote to
-- the claim's member
abbrev pub votes_from : ℕ → ℕ → ℕ → ℕ → List ℕ → List Event
votes_from first count next me [] = []
votes_from first count next me (k ∷ ks) =
    deliveries first count k ++ Deliver next me ∷ votes_from first count (suc next) me ks

-- the number of datagrams of the claim's proposal
abbrev pub proposed_in : World → ℕ → Claim → Value → ℕ
proposed_in w u c build =
    length (split_of (message w (unit_at w.division u).name c.member (Propose c build)))

-- the whole way of member s to unit u
abbrev pub way_of : World → State → ℕ → Text → ℕ → Given → List Event
way_of w s u path host given =
    let c = next_claim w u s.me in
    let offer = length w.sent in
    let asked = asked_of w in
    let report = report_of_all w u None asked in
    let first = behind_promises w u c (suc offer) asked in
    let count = proposed_in w u c (proposed_by report (next_build w s u host given)) in
    claims s.me path host (last_round w u s.me)
    ∷ asks_from w u c offer (suc offer) asked
    ++ told_of report (Built s.me path given)
    ++ votes_from first count (first + count) s.me asked

-- What a desk wishes of a member's node.
use Rattle.std.specs.Prelude.{◌≡◌, ◌+◌, ◌-◌, ◌*◌, ◌%◌, ◌<◌, ◌≤◌, ◌==◌, ◌&&◌, ◌||◌, ◌⊎◌, ⊤, ℕ, Bool, true, false, not, List, None, Option, Some, if◌then◌else◌, is_some, length, max, min, nat_eq, nat_le, nat_lt, option_map, slice_get}
use Rattle.std.specs.Duration.{as_nanos, max_nanos}
use Rattle.std.specs.List.{Contains}
use Rattle.turn_rules.specs.Own.{Barred, IsFree, IsLeastFree}
use Rattle.engine.specs.Division.{number_of}
use Rattle.indexmap.specs.IndexMap.{get}
use Rattle.indexmap.specs.IndexSet.{contains}
use Rattle.listing.specs.Tree.{path_at}
use Rattle.turn_rules.specs.Wishes.{ask_at, is_away, is_spent, round_of}
use Rattle.turn_rules.specs.declared.wish.Wish.{Wish}
use Rattle.turn_rules.specs.declared.wish.Wish.TheVariants.{Claim, Ask}
use Rattle.protocol.specs.State.{Building, Gathering, OpenClaim, Progress, State, Voting, facts_at, is_held_any, name_at}
use Rattle.std.specs.declared.time.Duration.{Duration}
use Rattle.std.specs.declared.time.Instant.{Instant}
use Rattle.scheduler.specs.Posted.{has_unit}
use Rattle.scheduler.specs.Tries.{tries_at}
use Rattle.scheduler.specs.Waiting.{back_of, has_waited, is_named, is_over, round_named, since_promised}
use Rattle.scheduler.specs.declared.desk.Desk.{Desk}
use Rattle.scheduler.specs.declared.heard.GivenBack.{GivenBack}
use Rattle.scheduler.specs.declared.sought.Sought.{Sought}
use Rattle.scheduler.specs.declared.sought.Sought.TheVariants.{Any, InTurn, Mine}

-- ---- in which order members may claim a unit

-- The member's place in that order, counted from 0: another one for each member, and for each unit
-- the order begins with another one.
abbrev pub turn_of : State → ℕ → ℕ
turn_of s u = (s.me + u % length s.weights) % length s.weights

-- Its place once this member gave the unit back, who comes last now.
abbrev pub turn_after : State → ℕ → ℕ → ℕ
turn_after s u giver =
    if nat_lt (length s.weights) 2 then 0
    else (if s.me == giver then length s.weights - 1
    else ((s.me + length s.weights - (giver + 1)) % length s.weights + u % (length s.weights - 1))
    % (length s.weights - 1))

-- Its place, by who gave the unit back last, if anybody did.
abbrev pub turn_by : State → ℕ → Option GivenBack → ℕ
turn_by s u None = turn_of s u
turn_by s u (Some back) = turn_after s u back.claim.member

-- That the unit was given back, if it was under the claim that the member promised last.
abbrev pub back_at : Desk → State → ℕ → Option GivenBack
back_at d s u = back_of (facts_at s u).promised (get nat_eq d.given_back u)

-- Its place as of now.
abbrev pub turn_now : Desk → State → ℕ → ℕ
turn_now d s u = turn_by s u (back_at d s u)

-- ---- which units may be claimed

-- this number of slots, in nanoseconds
abbrev pub slots : Desk → ℕ → ℕ
slots d turn = min (as_nanos d.pace.slot * turn) max_nanos

-- the time for which a unit is left to the member that claimed it, and this number of slots
abbrev pub takeover_and_slots : Desk → ℕ → ℕ
takeover_and_slots d turn = min (as_nanos d.pace.takeover + slots d turn) max_nanos

-- Since when the unit has its promise, if it was seen with that.
abbrev pub since_now : Desk → State → ℕ → Option Instant
since_now d s u = since_promised (facts_at s u).promised (get nat_eq d.seen u)

-- Whether it is the member's turn to claim the unit. One slot for each member before it has to
-- pass, counted from when the unit was given back, or else from when it was queued. A unit that was
-- promised to another member and not given back is left to that one for `takeover` first.
abbrev pub is_in_turn : Desk → State → Instant → ℕ → Option GivenBack → Bool
is_in_turn d s now u (Some back) =
    has_waited (slots d (turn_after s u back.claim.member)) (Some back.since) now
is_in_turn d s now u None =
    if is_away s u
    then has_waited (takeover_and_slots d (turn_of s u)) (since_now d s u) now
    else (turn_of s u == 0) || has_waited (slots d (turn_of s u)) (since_now d s u) now

-- Whether the member needn't wait for others to claim the unit: it is its turn. What was its own
-- before its start waits for no turn.
abbrev pub may_begin : Desk → State → Instant → Sought → ℕ → Bool
may_begin d s now Any u = is_in_turn d s now u (back_at d s u)
may_begin d s now Mine u = true
may_begin d s now (InTurn turn) u = is_in_turn d s now u (back_at d s u)

-- Whether the unit is left to other members at this time: a nay named another's claim for it
-- lately, or the member has to wait for others. Without a time, no unit is.
abbrev pub is_left : Desk → State → Option Instant → Sought → ℕ → Bool
is_left d s None sought u = false
is_left d s (Some now) sought u =
    is_named d.pace.takeover now (facts_at s u).promised (get nat_eq d.named u)
    || not (may_begin d s now sought u)

-- Whether the open claim is for the unit.
abbrev pub is_for : Option OpenClaim → ℕ → Bool
is_for None u = false
is_for (Some o) u = o.unit == u

-- Whether nobody claims the unit any more: its builds failed at as many other members as it may be
-- tried at. (A unit that failed at this one is barred for that.) A claim that is open goes on.
abbrev pub is_given_up : Desk → State → ℕ → Bool
is_given_up d s u =
    not (is_for s.claim u) && nat_le d.pace.tries (tries_at (get nat_eq d.failed_elsewhere u))

-- Whether the unit may not be claimed: it is out, or it failed here, or it is given up, or no round
-- is left for it, or it is left to other members.
abbrev pub barred_at : Desk → State → Option Instant → Sought → Barred
barred_at d s at sought u =
    has_unit d.out.items u
    || (is_some (get nat_eq d.failed u)
    || (is_given_up d s u || (is_spent s u || is_left d s at sought u)))

-- Whether the member promised the unit to its own claim last.
abbrev pub is_mine : State → ℕ → Bool
is_mine s u = is_some (facts_at s u).promised && not (is_away s u)

-- Whether the unit isn't looked for.
abbrev pub is_other : Desk → State → Sought → ℕ → Bool
is_other d s Any u = false
is_other d s Mine u = not (is_mine s u)
is_other d s (InTurn turn) u = not (turn_now d s u == turn)

-- Whether the unit is passed over: it isn't looked for, or it may not be claimed.
abbrev pub passed_at : Desk → State → Option Instant → Sought → Barred
passed_at d s at sought u = is_other d s sought u || barred_at d s at sought u

-- It is the least queued package of those that are looked for whose unit may be claimed.
abbrev pub IsLeastOf : Desk → State → Option Instant → Sought → Option ℕ → Type 0
IsLeastOf d s at sought least = IsLeastFree s (passed_at d s at sought) least

-- ---- when a claim may be opened

-- Whether a claim that is so far may be dropped: it waits for its build, or it gathers promises and
-- gives way.
abbrev pub may_be_dropped : Progress → Bool → Bool
may_be_dropped (Gathering c joined k) gives_way = gives_way
may_be_dropped (Building c) gives_way = true
may_be_dropped (Voting b joined) gives_way = false

-- Whether none is open, or one that may be dropped.
abbrev pub may_claim : Option OpenClaim → Bool → Bool
may_claim None gives_way = true
may_claim (Some o) gives_way = may_be_dropped o.progress gives_way

-- Whether a claim that is so far waits for its build.
abbrev pub is_at_build : Progress → Bool
is_at_build (Gathering c joined k) = false
is_at_build (Building c) = true
is_at_build (Voting b joined) = false

-- Whether the open claim is for the unit, and waits for its build.
abbrev pub waits_for : Option OpenClaim → ℕ → Bool
waits_for None u = false
waits_for (Some o) u = is_at_build o.progress && (o.unit == u)

-- Whether there is such a unit, and a round is left for it.
abbrev pub has_rounds : State → ℕ → Bool
has_rounds s u = nat_lt u (length s.division.units) && not (is_spent s u)

-- ---- which units are to be claimed

-- Above which round a unit is claimed at least. A unit that others may have claimed before the
-- node's start begins at round 1, any other unit at round 2. So a node that starts late gets a nay.
abbrev pub least_above : Bool → ℕ
least_above true = 0
least_above false = 1

-- Above which round the unit is claimed, besides what the member promised: the round that a nay
-- named, and the first round, unless others may have claimed the unit before the node's start.
abbrev pub above_for : Desk → ℕ → ℕ
above_for d u = max (round_named (get nat_eq d.named u)) (least_above (contains nat_eq d.early u))

-- above which round the unit is claimed
abbrev pub above_at : Desk → State → ℕ → ℕ
above_at d s u = max (round_of (facts_at s u).promised) (above_for d u)

-- The unit is out, the open claim doesn't wait for its build, and a round is left for it.
abbrev pub IsClaimedAnew : State → Desk → ℕ → Type 0
IsClaimedAnew s d u =
    (has_unit d.out.items u ≡ true) × (waits_for s.claim u ≡ false) × (has_rounds s u ≡ true)

-- It is the claim for the unit of the package at the position.
abbrev pub IsClaimAt : State → Desk → ℕ → Wish → Type 0
IsClaimAt s d p wish =
    (u : ℕ) × (number_of s.division p ≡ Some u)
    × (wish ≡ Claim (path_at s.division.tree p) (above_at d s u))

-- It is a claim of this run's first: for the least package whose unit was the member's own before.
abbrev pub IsResumed : State → Desk → Instant → Wish → Type 0
IsResumed s d now wish =
    (p : ℕ) × (d.resumes ≡ true) × IsLeastOf d s (Some now) Mine (Some p) × IsClaimAt s d p wish

-- No package is queued whose unit was the member's own before its start and may be claimed.
abbrev pub NoneToResume : State → Desk → Instant → Type 0
NoneToResume s d now = (d.resumes ≡ false) ⊎ IsLeastOf d s (Some now) Mine None

-- No package is queued whose unit the member may claim in one of the turns before this one.
abbrev pub NoneBefore : State → Desk → Instant → ℕ → Type 0
NoneBefore s d now turn =
    (t : ℕ) → t < turn → IsLeastOf d s (Some now) (InTurn t) None

-- It is a claim for the least package of the first turn in which the member may claim any: of its
-- own units, at once, or else of those that members before it left.
abbrev pub IsFirstInTurn : State → Desk → Instant → Wish → Type 0
IsFirstInTurn s d now wish =
    (turn : ℕ) × (p : ℕ) × NoneBefore s d now turn
    × IsLeastOf d s (Some now) (InTurn turn) (Some p) × IsClaimAt s d p wish

-- Whether another job may be out: this host takes jobs, the node has caught up, and fewer jobs are
-- out than may be.
abbrev pub has_place : Desk → Bool
has_place d =
    not d.holds_off && (not d.is_catching_up && nat_lt (length d.out.items) d.pace.jobs)

-- It is a claim anew for a unit that is out; or a new claim, and the desk has a place for it. What
-- was the member's own before its start comes first.
abbrev pub IsClaimWished : State → Desk → Instant → Wish → Type 0
IsClaimWished s d now wish =
    ((u : ℕ) × IsClaimedAnew s d u × (wish ≡ Claim (name_at s u) (above_at d s u)))
    ⊎ ((has_place d ≡ true)
    × (IsResumed s d now wish ⊎ (NoneToResume s d now × IsFirstInTurn s d now wish)))

-- Nothing new is to be claimed: the desk has no place for it, or there is no unit that was the
-- member's own before or that it may claim in any turn.
abbrev pub IsNothingNew : State → Desk → Instant → Type 0
IsNothingNew s d now =
    (has_place d ≡ false) ⊎ (NoneToResume s d now × NoneBefore s d now (length s.weights))

-- ---- which questions are

-- Whether the unit is no longer built here: its build failed, or it was returned.
abbrev pub is_over_here : Desk → ℕ → Bool
is_over_here d u = is_some (get nat_eq d.failed u) || contains nat_eq d.returned u

-- Whether the member builds the unit, as far as others know. A unit that is out is built here. So
-- is one whose claim is open, and one that the member promised to its own claim last, unless a nay
-- named another's. But a unit that is over here isn't built here.
abbrev pub builds : State → Desk → ℕ → Bool
builds s d u =
    has_unit d.out.items u
    || (not (is_over_here d u)
    && (is_for s.claim u || (is_mine s u && not (is_some (get nat_eq d.named u)))))

-- Whether a question is due: the node catches up and asked none yet; or the unit of the last one is
-- held; or the wait between two is over.
abbrev pub is_due : State → Desk → Instant → Bool
is_due s d now =
    (d.is_catching_up && not (is_some d.last))
    || (is_held_any s d.last || is_over d.pace.ask d.asked_at now)

-- It is the first queued package from this position on whose unit the member doesn't build, or
-- there isn't any.
abbrev pub IsNextAsked : State → Desk → ℕ → Option ℕ → Type 0
IsNextAsked s d from None =
    (p : ℕ) → p < length s.division.tree → from ≤ p → ¬ IsFree s (builds s d) p
IsNextAsked s d from (Some p) =
    (p < length s.division.tree) × (from ≤ p) × IsFree s (builds s d) p
    × ((k : ℕ) → from ≤ k → k < p → ¬ IsFree s (builds s d) k)

-- It is the question for that package, if there is one.
abbrev pub IsAskFrom : State → Desk → ℕ → Option Wish → Type 0
IsAskFrom s d from wish =
    (next : Option ℕ) × IsNextAsked s d from next × (wish ≡ option_map (ask_at s) next)

-- It is a question for the first such package from the one that is next on, and else for the first
-- of all.
abbrev pub IsQuestion : State → Desk → Wish → Type 0
IsQuestion s d wish =
    IsAskFrom s d d.next (Some wish) ⊎ (IsAskFrom s d d.next None × IsAskFrom s d 0 (Some wish))

-- It is the question for the first unit for which one is to be asked at once.
abbrev pub IsPressing : State → Desk → Wish → Type 0
IsPressing s d wish =
    (u : ℕ) × (slice_get d.pressing.items 0 ≡ Some u) × (wish ≡ Ask (name_at s u))

-- It is that question; or one in turn, and a question is due.
abbrev pub IsDueQuestion : State → Desk → Instant → Wish → Type 0
IsDueQuestion s d now wish =
    IsPressing s d wish ⊎ ((is_due s d now ≡ true) × IsQuestion s d wish)

-- ---- what is to be tried next

-- It is one of these.
abbrev pub IsWishOf : State → Desk → Instant → Wish → Type 0
IsWishOf s d now wish = IsClaimWished s d now wish ⊎ IsDueQuestion s d now wish

-- It may be a claim only if one may be opened.
abbrev pub IsAllowed : State → Bool → Wish → Type 0
IsAllowed s gives_way (Claim path above) = may_claim s.claim gives_way ≡ true
IsAllowed s gives_way (Ask path) = ⊤

-- Whether it is a claim.
abbrev pub is_claim : Option Wish → Bool
is_claim None = false
is_claim (Some (Claim path above)) = true
is_claim (Some (Ask path)) = false

-- If a claim may be opened and it isn't one, then nothing new is to be claimed.
abbrev pub LeavesNothing : State → Desk → Bool → Instant → Option Wish → Type 0
LeavesNothing s d gives_way now wish =
    may_claim s.claim gives_way ≡ true → is_claim wish ≡ false → IsNothingNew s d now

-- ---- whether there is more to come

-- Whether a package is queued whose unit neither is out nor failed here, isn't given up, and has a
-- round left, be it left to other members or not.
abbrev pub HasMore : State → Desk → Bool → Type 0
HasMore s d more =
    (least : Option ℕ) × IsLeastOf d s None Any least × (more ≡ is_some least)

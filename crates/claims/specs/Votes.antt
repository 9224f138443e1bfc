-- What was proposed, promised and voted, and when that is lawful.
use Rattle.claims.specs.Claims.{Claim, Below, AtMost, claim_below, claim_same}
use Rattle.claims.specs.Quorums.{Members, Quorums}
use Rattle.std.specs.Prelude.{◌≡◌, ℕ, Bool, true, false, List, [], ◌∷◌, Option, Some, None}
use Rattle.std.specs.Prelude.{option_map, ◌⊎◌, if◌then◌else◌}

-- The list contains x.
abbrev pub Has : {X : Type 0} → List X → X → Type 0
Has [] x = ⊥
Has (y ∷ ys) x = (y ≡ x) ⊎ Has ys x

-- a claim, and the value proposed under it
pub record Ballot (V : Type 0) : Type 0 where
  pub claim : Claim
  pub value : V

-- the value under the claim
abbrev pub ballot : {V : Type 0} → Claim → V → Ballot V
ballot c v = record { claim = c; value = v }

-- a claim and a value as a ballot
abbrev pub ballot_of : {V : Type 0} → Claim × V → Ballot V
ballot_of b = ballot b.0 b.1

-- a claim and a value, if there are any, as a report
abbrev pub report_of : {V : Type 0} → Option (Claim × V) → Option (Ballot V)
report_of = option_map ballot_of

-- a member's promise not to vote for claims below this one; it reports the member's last vote, if
-- any
pub record PromiseOf (V : Type 0) : Type 0 where
  pub member : ℕ
  pub claim : Claim
  pub report : Option (Ballot V)

-- a member, and the ballot that it voted for
pub record VoteOf (V : Type 0) : Type 0 where
  pub member : ℕ
  pub ballot : Ballot V

-- Whether the last vote was for the claim.
abbrev pub is_voted : {V : Type 0} → Claim → Option (Ballot V) → Bool
is_voted c None = false
is_voted c (Some b) = claim_same c b.claim

-- Of two reports, the one with the greater claim; the first one if the claims are equal.
abbrev pub kept_report : {V : Type 0} → Option (Ballot V) → Option (Ballot V) → Option (Ballot V)
kept_report k None = k
kept_report None (Some b) = Some b
kept_report (Some a) (Some b) = if claim_below a.claim b.claim then Some b else Some a

-- The report is a vote at or above the claim.
abbrev pub Reaches : {V : Type 0} → Option (Ballot V) → Claim → Type 0
Reaches None c = ⊥
Reaches (Some b) c = AtMost c b.claim

-- The second report is at or above the first, which is always true if the first is absent.
abbrev pub UpTo : {V : Type 0} → Option (Ballot V) → Option (Ballot V) → Type 0
UpTo None k = Unit {0}
UpTo (Some b) k = Reaches k b.claim

-- A report is a vote that its member cast, below the claim that it promised.
abbrev pub IsReported : {V : Type 0} → (VoteOf V → Type 0) → ℕ → Claim → Option (Ballot V) → Type 0
IsReported Voted m d None = Unit {0}
IsReported Voted m d (Some b) = Below b.claim d × Voted (record { member = m; ballot = b })

-- The value is that of the kept report, if there is one.
abbrev pub Keeps : {V : Type 0} → Option (Ballot V) → V → Type 0
Keeps None v = Unit {0}
Keeps (Some b) v = b.value ≡ v

-- Some member that promised d reported the kept vote.
abbrev pub IsKept : {V : Type 0} → (PromiseOf V → Type 0) → Claim → Option (Ballot V) → Type 0
IsKept Promised d None = Unit {0}
IsKept {V} Promised d (Some b) =
    (m : ℕ) × Promised (record { member = m; claim = d; report = Some b })

-- All members of S promised d, and the greatest of their reports is kept.
pub record IsGathered (V : Type 0) (Promised : PromiseOf V → Type 0) (d : Claim) (S : Members)
    (kept : Option (Ballot V)) : Type 0 where
  pub promised : (m : ℕ) → S m ≡ true
      → (r : Option (Ballot V))
      × Promised (record { member = m; claim = d; report = r })
      × UpTo r kept
  pub reported : IsKept Promised d kept

-- A quorum promised the proposal's claim, and the value is that of its greatest report, if there is
-- one.
pub record IsBacked (V : Type 0) (enough : Quorums) (Promised : PromiseOf V → Type 0)
    (b : Ballot V) : Type 0 where
  pub tally : Members
  pub kept : Option (Ballot V)
  pub majority : enough tally ≡ true
  pub gathered : IsGathered V Promised b.claim tally kept
  pub keeps : Keeps kept b.value

-- What was proposed, promised and voted is lawful.
pub record IsLawful (V : Type 0) (enough : Quorums) (Proposed : Ballot V → Type 0)
    (Promised : PromiseOf V → Type 0) (Voted : VoteOf V → Type 0) : Type 0 where
  -- a claim has at most one proposal
  pub one : (c : Claim) (v w : V) → Proposed (record { claim = c; value = v })
      → Proposed (record { claim = c; value = w }) → v ≡ w
  -- each vote is for a proposal
  pub votes : (x : VoteOf V) → Voted x → Proposed x.ballot
  -- a promise bounds its member's votes below the promised claim
  pub bounds : (p : PromiseOf V) (b : Ballot V) → Promised p
      → Voted (record { member = p.member; ballot = b })
      → Below b.claim p.claim → Reaches p.report b.claim
  -- the report of a promise is such a vote
  pub reports : (p : PromiseOf V) → Promised p → IsReported Voted p.member p.claim p.report
  -- each proposal is backed by a quorum of promises
  pub backed : (b : Ballot V) → Proposed b → IsBacked V enough Promised b

-- The ballot is chosen: a quorum voted for it.
pub record IsChosen (V : Type 0) (enough : Quorums) (Voted : VoteOf V → Type 0) (b : Ballot V)
    : Type 0 where
  pub voters : Members
  pub majority : enough voters ≡ true
  pub voted : (m : ℕ) → voters m ≡ true → Voted (record { member = m; ballot = b })

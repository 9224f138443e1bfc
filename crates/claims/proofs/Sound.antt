-- The invariant of a world, stated for each message, each vote and each member separately.
use Rattle.claims.specs.Claims.{Claim, Below, AtMost}
use Rattle.claims.specs.Quorums.{Members, Quorums}
use Rattle.claims.specs.Votes.{Ballot, PromiseOf, VoteOf, Has, Reaches, IsReported, IsGathered, IsBacked, ballot}
use Rattle.claims.specs.Messages.{Message, Offer, Promise, Propose, Vote, Nay, Agreed, Ask}
use Rattle.claims.specs.Member.{Note, Voted, vote_of, Stage, Closed, Gathering, Building, Voting, Member}
use Rattle.claims.specs.Step.{Outcome}
use Rattle.claims.specs.World.{WasVoted, World, after, WasPromised}
use Rattle.claims.specs.Agreed.{IsAgreed}
use Rattle.std.proofs.Common.{◌≡◌, ℕ, ◌≤◌, true, ◌⊎◌, List, Option, Some, None, IfSome}

-- Whether the promised claim is at or above the claim.
abbrev pub Holds : Option Claim → Claim → Type 0
Holds None d = ⊥
Holds (Some p) d = AtMost d p

-- a promise is kept: it bounds its member's votes, including those to come
pub record IsPromise (V : Type 0) (w : World V) (p : PromiseOf V) : Type 0 where
  pub holds : Holds (w.members p.member).promised p.claim
  pub bounds : (b : Ballot V) → WasVoted w (record { member = p.member; ballot = b }) → Below b.claim p.claim
      → Reaches p.report b.claim
  pub reports : IsReported (WasVoted w) p.member p.claim p.report

-- the value is that of an agreed ballot
abbrev pub IsDone : {V : Type 0} → Quorums → World V → V → Type 0
IsDone {V} enough w v = (b : Ballot V) × IsAgreed enough w b × (b.value ≡ v)

-- The invariant of each message that was sent. `Good` is any property that each value has when it
-- is built.
abbrev pub IsSaid : (V : Type 0) → Quorums → (V → Type 0) → World V → Message V → Type 0
IsSaid V enough Good w (Offer c) = c.round ≤ (w.members c.member).opened
IsSaid V enough Good w (Promise p) = IsPromise V w p
IsSaid V enough Good w (Propose b) = IsBacked V enough (WasPromised w) b × (b.claim.round ≤ (w.members b.claim.member).opened) × Good b.value
IsSaid V enough Good w (Vote m c) = (v : V) × WasVoted w (record { member = m; ballot = ballot c v })
IsSaid V enough Good w (Nay m c p) = Unit {0}
IsSaid V enough Good w (Agreed v) = IsDone enough w v
IsSaid V enough Good w Ask = Unit {0}

-- the invariant of each vote that was noted
pub record IsCast (V : Type 0) (w : World V) (x : VoteOf V) : Type 0 where
  pub proposed : Has w.sent (Propose x.ballot)
  pub last : Reaches (w.members x.member).voted x.ballot.claim

-- the invariant of each member's last vote
abbrev pub IsVoted : {V : Type 0} → List (Note V) → Option (Ballot V) → Option Claim → Type 0
IsVoted log None p = Unit {0}
IsVoted log (Some b) p = Has log (Voted b) × Holds p b.claim

-- the claim is one that the member opened
abbrev pub IsOwn : ℕ → ℕ → Claim → Type 0
IsOwn i opened c = (c.member ≡ i) × (c.round ≤ opened)

-- nothing was proposed under the claim
abbrev pub IsFresh : {V : Type 0} → List (Message V) → Claim → Type 0
IsFresh {V} sent c = (v : V) → Has sent (Propose (ballot c v)) → ⊥

pub record IsBuilding (V : Type 0) (enough : Quorums) (w : World V) (c : Claim) (k : Option (Ballot V)) : Type 0 where
  pub tally : Members
  pub majority : enough tally ≡ true
  pub gathered : IsGathered V (WasPromised w) c tally k

-- the invariant of each member's open claim
abbrev pub IsOpen : (V : Type 0) → Quorums → World V → ℕ → ℕ → Stage V → Type 0
IsOpen V enough w i opened Closed = Unit {0}
IsOpen V enough w i opened (Gathering c S k) = IsOwn i opened c × IsFresh w.sent c × IsGathered V (WasPromised w) c S k
IsOpen V enough w i opened (Building c) = IsOwn i opened c × IsFresh w.sent c × IsBuilding V enough w c None
IsOpen V enough w i opened (Voting b S) = IsOwn i opened b.claim × Has w.sent (Propose b) × ((m : ℕ) → S m ≡ true → Has w.sent (Vote m b.claim))

pub record IsSound (V : Type 0) (enough : Quorums) (Good : V → Type 0) (w : World V) : Type 0 where
  pub one : (c : Claim) (u v : V) → Has w.sent (Propose (ballot c u)) → Has w.sent (Propose (ballot c v)) → u ≡ v
  pub said : (x : Message V) → Has w.sent x → IsSaid V enough Good w x
  pub noted : (x : VoteOf V) → WasVoted w x → IsCast V w x
  pub voted : (i : ℕ) → IsVoted (w.logs i) (w.members i).voted (w.members i).promised
  pub opens : (i : ℕ) → IsOpen V enough w i (w.members i).opened (w.members i).stage
  pub held : (i : ℕ) → IfSome (w.members i).held (IsDone enough w)

-- What was sent and noted only grows, and a new vote is at or above everything that its member
-- promised.
pub record Grows (V : Type 0) (w w' : World V) : Type 0 where
  pub sent : (x : Message V) → Has w.sent x → Has w'.sent x
  pub votes : (x : VoteOf V) → WasVoted w x → WasVoted w' x
  pub opened : (i : ℕ) → (w.members i).opened ≤ (w'.members i).opened
  pub promised : (i : ℕ) (d : Claim) → Holds (w.members i).promised d → Holds (w'.members i).promised d
  pub voted : (i : ℕ) (d : Claim) → Reaches (w.members i).voted d → Reaches (w'.members i).voted d
  pub above : (x : VoteOf V) → WasVoted w' x
      → WasVoted w x ⊎ ((d : Claim) → Holds (w.members x.member).promised d → AtMost d x.ballot.claim)

-- the effect of a step on its member's facts
abbrev pub KeepsFacts : {V : Type 0} → World V → Member V → Member V → Option (Ballot V) → Type 0
KeepsFacts w x y None = ((d : Claim) → Holds x.promised d → Holds y.promised d) × (y.voted ≡ x.voted)
KeepsFacts w x y (Some b) = ((d : Claim) → Holds x.promised d → AtMost d b.claim) × (y.promised ≡ Some b.claim) × (y.voted ≡ Some b) × Has w.sent (Propose b)

-- a proposal is under the member's own claim, and no other value was proposed under it before
abbrev pub IsOnly : {V : Type 0} → World V → ℕ → Message V → Type 0
IsOnly w i (Offer c) = Unit {0}
IsOnly w i (Promise p) = Unit {0}
IsOnly {V} w i (Propose b) = (b.claim.member ≡ i) × ((v : V) → Has w.sent (Propose (ballot b.claim v)) → v ≡ b.value)
IsOnly w i (Vote m c) = Unit {0}
IsOnly w i (Nay m c p) = Unit {0}
IsOnly w i (Agreed v) = Unit {0}
IsOnly w i Ask = Unit {0}

-- what a step says is sound after the step, and it proposes only what it may
abbrev pub IsNew : (V : Type 0) → Quorums → (V → Type 0) → World V → World V → ℕ → Option (Message V) → Type 0
IsNew V enough Good w w' i None = Unit {0}
IsNew V enough Good w w' i (Some x) = IsSaid V enough Good w' x × IsOnly w i x

-- everything that must be shown of a step of member i
pub record IsStep (V : Type 0) (enough : Quorums) (Good : V → Type 0) (w : World V) (i : ℕ) (o : Outcome V) : Type 0 where
  pub opened : (w.members i).opened ≤ o.member.opened
  pub facts : KeepsFacts w (w.members i) o.member (vote_of o.note)
  pub says : Grows V w (after w i o) → IsNew V enough Good w (after w i o) i o.send
  pub opens : Grows V w (after w i o) → IsOpen V enough (after w i o) i o.member.opened o.member.stage
  pub held : IfSome o.member.held (IsDone enough w)

-- A member for one path: its facts, which its notes preserve over a stop, and its open claim, which
-- a stop ends.
use Rattle.claims.specs.Claims.{Claim, is_above}
use Rattle.claims.specs.Quorums.{Members}
use Rattle.claims.specs.Votes.{Ballot}
use Rattle.std.specs.Prelude.{ℕ, Bool, max, List, [], ◌∷◌, Option, None, Some, if◌then◌else◌}

-- what a member knows for one path, even after a stop
pub record Facts (V : Type 0) : Type 0 where
  -- the greatest round that it opened, or 0
  pub opened : ℕ
  -- the greatest claim that it promised or voted for
  pub promised : Option Claim
  -- its last vote
  pub voted : Option (Ballot V)
  -- the agreed value, once it knows it
  pub held : Option V

-- what a member notes before it answers: a fact that it must not forget
pub data Note (V : Type 0) : Type 0 where
  Opened : ℕ → Note V
  Promised : Claim → Note V
  Voted : Ballot V → Note V
  Held : V → Note V

-- the stage of a member's open claim
pub data Stage (V : Type 0) : Type 0 where
  Closed : Stage V
  -- Waiting for promises: the members that sent one so far, and the reported vote with the greatest
  -- claim.
  Gathering : Claim → Members → Option (Ballot V) → Stage V
  -- A quorum promised and reported no vote, so a value must be built.
  Building : Claim → Stage V
  -- Waiting for votes for the proposal: the members that voted so far.
  Voting : Ballot V → Members → Stage V

-- a member, for one path
pub record Member (V : Type 0) : Type 0 where
  pub opened : ℕ
  pub promised : Option Claim
  pub voted : Option (Ballot V)
  pub held : Option V
  pub up : Bool
  pub stage : Stage V

-- the part of a member that survives a stop
abbrev pub facts_of : {V : Type 0} → Member V → Facts V
facts_of x = record { opened = x.opened; promised = x.promised; voted = x.voted; held = x.held }

-- the facts of a member that noted nothing
abbrev pub no_facts : {V : Type 0} → Facts V
no_facts = record { opened = 0; promised = None; voted = None; held = None }

-- the greater of the promised claim, if there is one, and this claim
abbrev pub greater : Option Claim → Claim → Option Claim
greater p c = if is_above c p then Some c else p

-- the earlier value, if there is one
abbrev pub first : {X : Type 0} → Option X → X → Option X
first None x = Some x
first (Some y) x = Some y

-- The facts after one more note: the greatest round opened, the greatest claim promised or voted
-- for, the last vote, and the first value held.
abbrev pub noted : {V : Type 0} → Facts V → Note V → Facts V
noted f (Opened round) = record f { opened = max f.opened round }
noted f (Promised c) = record f { promised = greater f.promised c }
noted f (Voted b) = record f { promised = greater f.promised b.claim; voted = Some b }
noted f (Held v) = record f { held = first f.held v }

-- the facts after the note of a step, if it has one
abbrev pub noted_any : {V : Type 0} → Facts V → Option (Note V) → Facts V
noted_any f None = f
noted_any f (Some note) = noted f note

-- what a member's notes restore; the latest note is first
abbrev pub restored : {V : Type 0} → List (Note V) → Facts V
restored [] = no_facts
restored (note ∷ notes) = noted (restored notes) note

-- the vote in a note, if it is one
abbrev pub vote_of : {V : Type 0} → Option (Note V) → Option (Ballot V)
vote_of None = None
vote_of (Some (Opened round)) = None
vote_of (Some (Promised c)) = None
vote_of (Some (Voted b)) = Some b
vote_of (Some (Held v)) = None

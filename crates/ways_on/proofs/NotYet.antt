-- What a member can't have said yet, given what it knows.
use Rattle.std.proofs.Common.{◌≡◌, ◌<◌, ◌≤◌, ℕ, true, List, length, Option, None, Some, slice_get, sym, ap, subst, ◌∙◌, inl, inr, arith}
use Rattle.claims.specs.AgreedList.{Act, Cluster, beginning, WasBuilt}
use Rattle.claims.specs.Claims.{is_above}
use Rattle.claims.specs.Member.{Building, Gathering, Member, Stage}
use Rattle.claims.specs.Messages as theory
use Rattle.claims.specs.Nodes as nodes
use Rattle.claims.specs.Quorums.{Members, is_majority}
use Rattle.claims.specs.Votes.{Ballot, Has, Reaches, ballot, report_of}
use Rattle.claims.specs.declared.claim.Claim.{Claim}
use Rattle.claims.proofs.AgreedList.{IsFine}
use Rattle.claims.proofs.Order.{apart, below_true}
use Rattle.claims.proofs.Sound.{Holds, IsFresh, IsOpen, IsSound}
use Rattle.ballots.specs.InTheAgreement.{said}
use Rattle.ballots.specs.declared.message.Body.{Body}
use Rattle.ballots.specs.declared.message.Body.TheVariants as bodies
use Rattle.protocol.specs.State.{Value}
use Rattle.engine.specs.Division.{Division}
use Rattle.ways_on.proofs.Unsaid.{IsUnsaid}
use Rattle.wire.specs.Pieces.{body_with}
use Rattle.wire.specs.declared.datagram.Carrier.{Carrier}
use Rattle.wire.specs.declared.datagram.Carrier.TheVariants as carriers
use Rattle.world.specs.World.{IsMade, World, WorldNode}
use Rattle.one_list.specs.Matches.{Matches, node_of}
use Rattle.one_list.specs.Mirrored.{after_all_acts}
use Rattle.one_list.specs.Needs.{may_build}
use Rattle.one_list.proofs.sent.MessageHeaders.{in_order}

some_pair : (p q : Carrier × Value) → Some p ≡ Some q → p ≡ q
some_pair p q e = cc

-- a claim above the promised one is not bounded by the promise
above_none : (p : Option Claim) (c : Claim) → is_above c p ≡ true → Holds p c → ⊥
above_none None c e h = h
above_none (Some p) c e h = apart c p h (below_true p c e)

module _ (division : Division) (weights : List ℕ) (acts : List (Act Value)) (w : World)
    (made : IsMade division weights)
    (of : (w.division ≡ division) × (w.weights ≡ weights))
    (m : Matches w (after_all_acts division weights acts)) (u : ℕ)
    (within : u < length w.division.units) (k : ℕ) (x : WorldNode)
    (stands : slice_get w.nodes k ≡ Some x) where
  -- the cluster after the acts
  abbrev here : Cluster Value
  here = after_all_acts division weights acts

  -- the member
  abbrev its : Member Value
  its = nodes.view (node_of w k x) u

  sound : IsSound Value (is_majority weights) (IsFine (may_build division)
      (WasBuilt (is_majority weights) (may_build division) acts beginning) here.list u) (here.at u)
  sound = (in_order division weights acts w made of m).sound u

  same : (here.at u).members k ≡ its
  same = m.members k u x stands within

  -- it promised nothing above its promised claim
  pub no_promise : (c : Claim) (report : Option (Claim × Value)) → is_above c its.promised ≡ true
      → IsUnsaid division weights acts w made of m u k (bodies.Promise c report)
  no_promise c report above = by report
    where
      never : (r : Option (Ballot Value))
          → Has (here.at u).sent
          (theory.Promise (record { member = k; claim = c; report = r })) → ⊥
      never r h = above_none its.promised c above
          (subst (λ (y : Member Value). Holds y.promised c) same
          ((sound.said (theory.Promise (record { member = k; claim = c; report = r })) h).holds))

      by : (report : Option (Claim × Value))
          → IsUnsaid division weights acts w made of m u k (bodies.Promise c report)
      by report b (inl e) h = never (report_of report)
          (subst (λ (z : Body Value). Has (here.at u).sent (said k z)) e h)
      by None b (inr (carrier, v, y, carried, e)) h = absurd cc
      by (Some vote) b (inr (carrier, v, y, carried, e)) h =
          let is : carriers.Promise c vote.0 ≡ carrier =
          ap (λ (p : Carrier × Value). p.0)
          (some_pair (carriers.Promise c vote.0, vote.1) (carrier, v) carried) in
          never (Some (ballot vote.0 y))
          (subst (λ (z : Body Value). Has (here.at u).sent (said k z))
          (e ∙ ap (λ (z : Carrier). body_with z y) (sym is)) h)

  -- nothing is proposed under a claim that gathers promises or waits for a build
  pub no_proposal : (c : Claim) (v : Value) → IsFresh (here.at u).sent c
      → IsUnsaid division weights acts w made of m u k (bodies.Propose c v)
  no_proposal c v fresh b (inl e) h = fresh v
      (subst (λ (z : Body Value). Has (here.at u).sent (said k z)) e h)
  no_proposal c v fresh b (inr (carrier, s, y, carried, e)) h =
      let is : carriers.Propose c ≡ carrier =
      ap (λ (p : Carrier × Value). p.0)
      (some_pair (carriers.Propose c, v) (carrier, s) carried) in
      fresh y (subst (λ (z : Body Value). Has (here.at u).sent (said k z))
      (e ∙ ap (λ (z : Carrier). body_with z y) (sym is)) h)

  -- nothing is proposed yet under a claim that gathers promises
  pub gathers_fresh : (c : Claim) (S : Members) (r : Option (Ballot Value))
      → its.stage ≡ Gathering c S r → IsFresh (here.at u).sent c
  gathers_fresh c S r e = (subst (λ (s : Stage Value). IsOpen Value (is_majority weights)
      (here.at u) k ((here.at u).members k).opened s)
      (ap (λ (y : Member Value). y.stage) same ∙ e) (sound.opens k)).1

  pub waits_fresh : (c : Claim) → its.stage ≡ Building c → IsFresh (here.at u).sent c
  waits_fresh c e = (subst (λ (s : Stage Value). IsOpen Value (is_majority weights)
      (here.at u) k ((here.at u).members k).opened s)
      (ap (λ (y : Member Value). y.stage) same ∙ e) (sound.opens k)).1

  -- it voted for no claim above that of its last vote
  pub no_vote : (c : Claim) → (Reaches its.voted c → ⊥)
      → IsUnsaid division weights acts w made of m u k (bodies.Vote c)
  no_vote c below b (inl e) h =
      let s = sound.said (theory.Vote k c)
      (subst (λ (z : Body Value). Has (here.at u).sent (said k z)) e h) in
      below (subst (λ (y : Member Value). Reaches y.voted c) same
      ((sound.noted (record { member = k; ballot = ballot c s.0 }) s.1).last))
  no_vote c below b (inr (carrier, s, y, carried, e)) h = absurd cc

  -- it offered no claim in a round above those that it opened
  pub no_offer : (c : Claim) → c.member ≡ k → its.opened < c.round
      → IsUnsaid division weights acts w made of m u k (bodies.Offer c)
  no_offer c own above b (inl e) h =
      let is = sound.said (theory.Offer c)
      (subst (λ (z : Body Value). Has (here.at u).sent (said k z)) e h) in
      let known : c.round ≤ its.opened = subst (λ (y : Member Value). c.round ≤ y.opened) same
      (subst (λ (j : ℕ). c.round ≤ ((here.at u).members j).opened) own is) in
      omega (arith, known, above)
  no_offer c own above b (inr (carrier, s, y, carried, e)) h = absurd cc

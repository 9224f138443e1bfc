-- The claim's node receives a node's vote, and the last vote of a majority decides.
use Rattle.std.proofs.Common.{◌≡◌, ◌<◌, ℕ, zero, suc, true, List, [], ◌∷◌, ◌++◌, length, Some, option_map, slice_get, slice_set, refl, sym, ap, subst, ◌∙◌, ⊎_elim}
use Rattle.std.proofs.lemmas.Bool.{and_from, cases_eq}
use Rattle.std.proofs.lemmas.List.Elements.{Contains-push}
use Rattle.claims.specs.Member.{Stage, Voting}
use Rattle.claims.specs.Nodes as nodes
use Rattle.claims.specs.Quorums.{Members, is_majority, with_member}
use Rattle.claims.specs.Votes.{Ballot}
use Rattle.claims.specs.declared.claim.Claim.{Claim}
use Rattle.ballots.specs.declared.message.Body.TheVariants as bodies
use Rattle.ballots.specs.declared.message.Message.{Message}
use Rattle.protocol.specs.Events as events
use Rattle.faults.specs.Bytes.{Text, is_among}
use Rattle.node.specs.Parcels.{datagrams_of}
use Rattle.protocol.specs.Answers.{tree_digest}
use Rattle.protocol.specs.InTheAgreement.{claim_of}
use Rattle.protocol.specs.State.{Value}
use Rattle.engine.specs.Division.{Division, unit_at}
use Rattle.ways_on.specs.Ways.{HoldsUnit, LeadsTo}
use Rattle.ways_on.proofs.Counting.{decides}
use Rattle.ways_on.proofs.Going.{leads_also}
use Rattle.ways_on.proofs.Hearing.{HeardBy, whole_heard}
use Rattle.ways_on.proofs.Pieces.{put_there}
use Rattle.ways_on.proofs.Reached.{IsReached}
use Rattle.ways_on.proofs.Voting.{HasVoted, vote}
use Rattle.wire.specs.Messages.{IsMessage}
use Rattle.wire.specs.Spelling.{datagram_text}
use Rattle.wire.specs.declared.datagram.Datagram.TheVariants as datagrams
use Rattle.world.specs.Sent.{WasSent, message}
use Rattle.world.specs.World.{IsMade, World, WorldNode}
use Rattle.world.proofs.SentAdditions.{is_found}
use Rattle.one_list.specs.Matches.{name_of}

-- elements at other indexes stay
pub put_elsewhere : {X : Type 0} (xs : List X) (k j : ℕ) (y : X) → (j ≡ k → ⊥)
    → slice_get (slice_set xs k y) j ≡ slice_get xs j
put_elsewhere [] k j y ne = refl
put_elsewhere (x ∷ xs) zero zero y ne = absurd (ne refl)
put_elsewhere (x ∷ xs) zero (suc j) y ne = refl
put_elsewhere (x ∷ xs) (suc k) zero y ne = refl
put_elsewhere (x ∷ xs) (suc k) (suc j) y ne = put_elsewhere xs k j y (λ e. ne (ap suc e))

-- an appended element is at the old length
pub behind : {X : Type 0} (xs : List X) (x : X) → slice_get (xs ++ x ∷ []) (length xs) ≡ Some x
behind [] x = refl
behind (y ∷ ys) x = behind ys x

pub some_same : (a b : WorldNode) → Some a ≡ Some b → a ≡ b
some_same a b e = cc

-- the stage of the node's claim for the unit
abbrev pub stage_here : WorldNode → ℕ → Stage Value
stage_here x u = nodes.stage_at (option_map claim_of x.claim) u

module _ (division : Division) (weights : List ℕ) (made : IsMade division weights) (w : World)
    (r : IsReached division weights made w) (k : ℕ) (x : WorldNode)
    (stands : slice_get w.nodes k ≡ Some x) (up : x.up ≡ true)
    (u : ℕ) (within : u < length w.division.units) (c : Claim) (v : Value) (then : World)
    (h : HasVoted division weights made w r k x stands up u within c v then) where
  -- the vote, as it is said in that world
  abbrev its : Message Value
  its = message then (name_of then u) k (bodies.Vote c)

  same_vote : vote division weights made w r k x stands up u within c v ≡ its
  same_vote = sym (ap (λ (d : Division). record {
    sender = k;
    tree = tree_digest d.tree;
    path = (unit_at d u).name;
    body = bodies.Vote c;
  }) h.heard.division_is)

  text : Text
  text = datagram_text (datagrams.Whole its)

  sent_then : then.sent ≡ w.sent ++ datagram_text (datagrams.Whole its) ∷ []
  sent_then = h.sent ∙ ap (λ n. w.sent ++ datagrams_of n) same_vote

  -- It was sent, and has the next number.
  pub was_sent : WasSent then.sent its
  was_sent = record {
    is_message = subst IsMessage same_vote h.good;
    went_out = and_from _ _ (subst (λ l. is_among l (datagram_text (datagrams.Whole its)) ≡ true)
        (sym sent_then) (is_found (w.sent ++ datagram_text (datagrams.Whole its) ∷ [])
        (datagram_text (datagrams.Whole its))
        (Contains-push w.sent (datagram_text (datagrams.Whole its))))) refl;
  }

  pub is_next : slice_get then.sent (length w.sent) ≡ Some (datagram_text (datagrams.Whole its))
  is_next = ap (λ l. slice_get l (length w.sent)) sent_then
      ∙ behind w.sent (datagram_text (datagrams.Whole its))

  -- a node that is up is still up, with its claim at the same stage
  pub record StandsAs (me : ℕ) (stage : Stage Value) : Type 0 where
    pub node : WorldNode
    pub there : slice_get then.nodes me ≡ Some node
    pub on : node.up ≡ true
    pub as_far : stage_here node u ≡ stage

  pub stands_as : (me : ℕ) (z : WorldNode) → slice_get w.nodes me ≡ Some z → z.up ≡ true
      → (stage : Stage Value) → stage_here z u ≡ stage → StandsAs me stage
  stands_as me z at on stage far = ⊎_elim
      (λ same.
      let is : x ≡ z = some_same x z (sym stands ∙ ap (slice_get w.nodes) (sym same) ∙ at) in
      record {
        node = h.heard.node;
        there = ap (λ l. slice_get l me) h.heard.nodes_are
            ∙ ap (slice_get (slice_set w.nodes k h.heard.node)) same
            ∙ put_there w.nodes k x h.heard.node stands;
        on = h.heard.is_on;
        as_far = h.keeps.stage ∙ ap (λ y. stage_here y u) is ∙ far;
      })
      (λ other. record {
        node = z;
        there = ap (λ l. slice_get l me) h.heard.nodes_are
            ∙ put_elsewhere w.nodes k me h.heard.node other ∙ at;
        on = on;
        as_far = far;
      })
      (cases_eq me k)

  -- The vote that completes a majority is received by the claim's node, which then holds the unit,
  -- unless its log is full.
  pub decided : (me : ℕ) (S : Members) (p : Ballot Value) → p.claim ≡ c
      → (s : StandsAs me (Voting p S)) → is_majority then.weights (with_member S k) ≡ true
      → LeadsTo (λ v. HoldsUnit v me u) then (events.Deliver (length w.sent) me ∷ [])
  decided me S p own s enough =
      let reached = h.heard.reached in
      let in_then : u < length then.division.units =
      subst (λ (d : Division). u < length d.units) (sym h.heard.division_is) within in
      leads_also (HeardBy division weights made then reached me s.node s.there s.on its
      (s.node).pieces) (λ v. HoldsUnit v me u) then (events.Deliver (length w.sent) me ∷ [])
      (whole_heard division weights made then reached me s.node s.there s.on its was_sent
      (was_sent.is_message, refl) (length w.sent) is_next)
      (λ y b. decides division weights made then reached me s.node s.there s.on u in_then p S k
      s.as_far enough (s.node).pieces y
      (subst (λ d. HeardBy division weights made then reached me s.node s.there s.on
      (message then (name_of then u) k (bodies.Vote d)) (s.node).pieces y) (sym own) b))

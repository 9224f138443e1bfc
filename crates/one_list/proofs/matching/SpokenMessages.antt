-- What a step says is sent, and what was sent after it was said: the match of a step that sends.
use Rattle.std.proofs.Common.{◌≡◌, ◌<◌, ◌⊎◌, ℕ, zero, suc, true, List, [], ◌∷◌, ◌++◌, length, map, Bool, Option, None, Some, slice_get, slice_set, refl, sym, ap, subst, ◌∙◌, ⊎_elim, inl, inr, arith}
use Rattle.std.specs.Prelude.{All, Contains}
use Rattle.std.specs.List.{list_all}
use Rattle.std.proofs.lemmas.Bool.{and_from, cases_eq}
use Rattle.std.proofs.lemmas.List.{map-append}
use Rattle.std.proofs.lemmas.List.Elements.{All-contains, All-cons, Contains-append_cases, Contains-append_left, Contains-append_right}
use Rattle.std.proofs.lemmas.List.Sums.{AllPass-from_list_all}
use Rattle.faults.specs.Bytes.{Text, is_among}
use Rattle.claims.specs.Agreed.{decided_value}
use Rattle.claims.specs.AgreedList.{Cluster, Entry, cluster_after, list_with, lookup}
use Rattle.claims.specs.Messages as theory_says
use Rattle.claims.specs.Quorums.{Quorums}
use Rattle.claims.specs.Step.{Outcome}
use Rattle.claims.specs.Votes.{Ballot, Has, ballot}
use Rattle.claims.specs.World.{Event, add_sent, after_event, member_of, outcome}
use Rattle.claims.specs.declared.claim.Claim.{Claim}
use Rattle.ballots.specs.InTheAgreement.{said as says}
use Rattle.ballots.specs.declared.message.Body.{Body}
use Rattle.ballots.specs.declared.message.Body.TheVariants as bodies
use Rattle.ballots.specs.declared.message.Message.{Message}
use Rattle.node.specs.Parcels.{datagrams_of, datagrams_to, each_to}
use Rattle.protocol.specs.Answers.{Answer}
use Rattle.protocol.specs.Laws.{GoesOut, Says, must_go_out}
use Rattle.protocol.specs.State.{Value}
use Rattle.protocol.specs.Step.{members_of}
use Rattle.protocol.specs.declared.sends.Send.{Send}
use Rattle.wire.specs.Messages.{IsMessage}
use Rattle.world.specs.Sent.{WasSent, message, with_sends}
use Rattle.world.specs.World.{World, WorldNode, member_at}
use Rattle.world.proofs.SentAdditions.{among_is, is_found, sends_come, sends_stay, sends_there, texts_alone, texts_in}
use Rattle.one_list.specs.Matches.{IsSaid, Matches, name_of, packages_of}
use Rattle.one_list.proofs.matching.MatchAfterEvent.{IsLeftAs, logs_then, members_then, sent_here, sent_there}

-- ---- sends as datagrams

texts_first : (z : Send) (zs : List Send) → texts_in (z ∷ zs) ≡ datagrams_of z.message
    ++ texts_in zs
texts_first z zs =
    map-append (λ (s : ℕ × Text). s.1) (each_to (datagrams_of z.message) z.to) (datagrams_to zs)
    ∙ ap (λ l. l ++ texts_in zs) (texts_alone (datagrams_of z.message) z.to)

-- what is sent is a datagram of a message in the sends
pub text_comes : (sends : List Send) (t : Text) → Contains (texts_in sends) t → (z : Send)
    × Contains sends z × Contains (datagrams_of z.message) t
text_comes [] t (k, within, e) = absurd (omega arith)
text_comes (z ∷ zs) t h = ⊎_elim
    (λ here. (z, (zero, omega arith, refl), here))
    (λ later. let r =
    text_comes zs t later in (r.0, (suc (r.1).0, omega (arith, (r.1).1), (r.1).2), r.2))
    (Contains-append_cases (datagrams_of z.message) (texts_in zs) t
    (subst (λ l. Contains l t) (texts_first z zs) h))

-- all datagrams of such a message are sent
pub text_goes : (sends : List Send) (z : Send) (t : Text) → Contains sends z
    → Contains (datagrams_of z.message) t → Contains (texts_in sends) t
text_goes [] z t (k, within, e) h = absurd (omega arith)
text_goes (y ∷ ys) z t (zero, within, e) h =
    subst (λ l. Contains l t) (sym (texts_first y ys))
    (Contains-append_left (datagrams_of y.message) (texts_in ys) t
    (subst (λ (x : Send). Contains (datagrams_of x.message) t) (sym e) h))
text_goes (y ∷ ys) z t (suc k, within, e) h =
    subst (λ l. Contains l t) (sym (texts_first y ys))
    (Contains-append_right (datagrams_of y.message) (texts_in ys) t
    (text_goes ys z t (k, omega (arith, within), e) h))

-- ---- what was sent

-- a test passes for a list if it passes for each element
pub passes : {X : Type 0} (p : X → Bool) (xs : List X) → ((x : X) → Contains xs x → p x ≡ true)
    → list_all p xs ≡ true
passes p [] each = refl
passes p (x ∷ xs) each =
    and_from (p x) (list_all p xs) (each x (zero, omega arith, refl))
    (passes p xs (λ y h. each y (suc h.0, omega (arith, h.1), h.2)))

-- what was sent stays sent
pub sent_more : (sent : List Text) (sends : List Send) (n : Message Value) → WasSent sent n
    → WasSent (with_sends sent sends) n
sent_more sent sends n s = record {
  is_message = s.is_message;
  went_out = passes (is_among (with_sends sent sends)) (datagrams_of n) (λ t h.
      is_found (with_sends sent sends) t (sends_stay sent sends t (among_is sent t
      (All-contains (λ t. is_among sent t ≡ true) (datagrams_of n) t
      (AllPass-from_list_all (is_among sent) (datagrams_of n) s.went_out) h))));
}

-- what is sent now was sent
pub sent_now : (sent : List Text) (sends : List Send) (z : Send) → Contains sends z
    → IsMessage z.message → WasSent (with_sends sent sends) z.message
sent_now sent sends z there is = record {
  is_message = is;
  went_out = passes (is_among (with_sends sent sends)) (datagrams_of z.message) (λ t h.
      is_found (with_sends sent sends) t (sends_there sent sends t (text_goes sends z t there h)));
}

-- ---- what was said

-- what was said stays said
pub has_added : (s : Option (theory_says.Message Value)) (l : List (theory_says.Message Value))
    (z : theory_says.Message Value) → Has l z → Has (add_sent s l) z
has_added None l z h = h
has_added (Some y) l z h = inr h

-- everything said was said before, or is said now
pub added_has : (s : Option (theory_says.Message Value)) (l : List (theory_says.Message Value))
    (z : theory_says.Message Value) → Has (add_sent s l) z
    → Has l z ⊎ (s ≡ Some z)
added_has None l z h = inl h
added_has (Some y) l z h = ⊎_elim (λ e. inr (ap (λ x. Some x) e)) (λ old. inl old) h

-- equal votes are of the same member and claim
abbrev vote_of : ℕ → Claim → theory_says.Message Value
vote_of i c = theory_says.Vote i c

votes_same : (a c : Claim) (i j : ℕ) → vote_of i a ≡ vote_of j c → (a ≡ c) × (i ≡ j)
votes_same a c i j e = (cc, cc)

-- a vote that is said is the speaker's own vote; likewise a proposal
vote_body : (k n : ℕ) (b : Claim) (body : Body Value) → says k body ≡ theory_says.Vote n b
    → (body ≡ bodies.Vote b) × (k ≡ n)
vote_body k n b (bodies.Offer c) e = absurd cc
vote_body k n b (bodies.Promise c r) e = absurd cc
vote_body k n b (bodies.Propose c v) e = absurd cc
vote_body k n b (bodies.Vote c) e = let both =
    votes_same c b k n e in (ap (λ (x : Claim). bodies.Vote x) both.0, both.1)
vote_body k n b (bodies.Agreed v) e = absurd cc
vote_body k n b bodies.Ask e = absurd cc
vote_body k n b (bodies.Nay c p) e = absurd cc

proposal_body : (k : ℕ) (b : Claim) (v : Value) (body : Body Value)
    → says k body ≡ theory_says.Propose (ballot b v) → body ≡ bodies.Propose b v
proposal_body k b v (bodies.Offer c) e = absurd cc
proposal_body k b v (bodies.Promise c r) e = absurd cc
proposal_body k b v (bodies.Propose c u) e =
    let same = ballot_is (ballot c u) (ballot b v) e in ap
    (λ (x : Ballot Value). bodies.Propose x.claim x.value) same
  where
    ballot_is : (x y : Ballot Value) → theory_says.Propose x ≡ theory_says.Propose y → x ≡ y
    ballot_is x y e = cc
proposal_body k b v (bodies.Vote c) e = absurd cc
proposal_body k b v (bodies.Agreed u) e = absurd cc
proposal_body k b v bodies.Ask e = absurd cc
proposal_body k b v (bodies.Nay c p) e = absurd cc

-- ---- a step that says something

module _ (w : World) (enough : Quorums) (c : Cluster Value) (m : Matches w c) (u : ℕ)
    (within : u < length w.division.units)
    (e : Event Value) (o : Outcome Value) (answered : outcome enough (c.at u) e ≡ Some o)
    (x y : WorldNode)
    (stands : slice_get w.nodes (member_of e) ≡ Some x) (left : IsLeftAs w enough c u e o x y)
    (a : Answer)
    (says_so : All (λ z. Says (member_at w (member_of e) x) u o.send z.message) a.sends)
    (out : GoesOut (member_at w (member_of e) x) o a)
    (written : All (λ z. IsMessage z.message) a.sends)
    (claimers : All (λ z. All (λ k. k < length w.weights) (members_of z.message.body)) a.sends)
    (is_member : member_of e < length w.weights)
    (own : (b : Ballot Value) → o.send ≡ Some (theory_says.Propose b)
    → b.claim.member ≡ member_of e) where
  -- the agreements after the step, and what was sent
  abbrev then : Cluster Value
  then = cluster_after enough c u e

  abbrev sent : List Text
  sent = with_sends w.sent a.sends

  -- the world after the step, if its list is that of the agreements
  abbrev world : World
  world = record w {
    nodes = slice_set w.nodes (member_of e) y;
    sent = sent;
    agreed = packages_of
        then.list;
  }

  -- what was said at a unit stays said there
  stays : (q : ℕ) (z : theory_says.Message Value) → Has (c.at q).sent z → Has (then.at q).sent z
  stays q z h = ⊎_elim
      (λ same. subst (λ (p : ℕ). Has (then.at p).sent z) (sym same)
      (subst (λ l. Has l z) (sym (sent_here w enough c m u within e o answered x y stands left))
      (has_added o.send (c.at u).sent z (subst (λ (p : ℕ). Has (c.at p).sent z) same h))))
      (λ ne. subst (λ l. Has l z) (sym
      (sent_there w enough c m u within e o answered x y stands left q ne)) h)
      (cases_eq q u)

  -- what is said there now was said before, or is said by this step at its unit
  comes : (q : ℕ) (z : theory_says.Message Value) → Has (then.at q).sent z → Has (c.at q).sent z
      ⊎ ((q ≡ u) × (o.send ≡ Some z))
  comes q z h = ⊎_elim
      (λ same. ⊎_elim
      (λ old. inl (subst (λ (p : ℕ). Has (c.at p).sent z) (sym same) old))
      (λ new. inr (same, new))
      (added_has o.send (c.at u).sent z
      (subst (λ l. Has l z) (sent_here w enough c m u within e o answered x y stands left)
      (subst (λ (p : ℕ). Has (then.at p).sent z) same h))))
      (λ ne. inl (subst (λ l. Has l z)
      (sent_there w enough c m u within e o answered x y stands left q ne) h))
      (cases_eq q u)

  -- each datagram that was sent belongs to a message that was said
  said_then : (text : Text) → Contains sent text → IsSaid world then text
  said_then text h = ⊎_elim
      (λ old. let s = m.sent text old in record {
        message = s.message;
        unit = s.unit;
        went_out = sent_more w.sent a.sends s.message s.went_out;
        datagram = s.datagram;
        listed = s.listed;
        about = s.about;
        tree = s.tree;
        sender = s.sender;
        claimers = s.claimers;
        said_there = stays s.unit (says s.message.sender s.message.body) s.said_there;
      })
      (λ new. by (text_comes a.sends text new))
      (sends_come w.sent a.sends text h)
    where
      by : (z : Send) × Contains a.sends z × Contains (datagrams_of z.message) text
          → IsSaid world then text
      by (z, there, datagram) =
          let s = All-contains (λ z. Says (member_at w (member_of e) x) u o.send z.message) a.sends
          z says_so there in record {
            message = z.message;
            unit = u;
            went_out = sent_now w.sent a.sends z there
                (All-contains (λ z. IsMessage z.message) a.sends z written there);
            datagram = datagram;
            listed = within;
            about = s.path;
            tree = s.tree;
            sender = subst (λ (k : ℕ). k < length w.weights) (sym s.sender) is_member;
            claimers = All-contains (λ z. All (λ k. k < length w.weights)
                (members_of z.message.body)) a.sends z claimers there;
            said_there =
                subst (λ (k : ℕ). Has (then.at u).sent (says k z.message.body)) (sym s.sender)
                (subst (λ l. Has l (says (member_of e) z.message.body))
                (sym (sent_here w enough c m u within e o answered x y stands left))
                (subst (λ s. Has (add_sent s (c.at u).sent) (says (member_of e) z.message.body))
                (sym s.body) (inl refl)));
          }

  -- what must be sent is a message that is sent
  gone : (z : theory_says.Message Value) (body : Body Value) (k : ℕ) → o.send ≡ Some z
      → must_go_out z ≡ true → k ≡ member_of e
      → ((b : Body Value) → says (member_of e) b ≡ z → b ≡ body)
      → WasSent sent (message w (name_of w u) k body)
  gone z body k send must sender is_body =
      let one = out z send must in
      let there : Contains a.sends one.1 = (one.0, one.2, one.3) in
      let s = All-contains (λ z. Says (member_at w (member_of e) x) u o.send z.message) a.sends
      one.1 says_so there in
      let same_sender : (one.1).message.sender ≡ k = s.sender ∙ sym sender in
      let same_tree = s.tree in
      let same_path = s.path in
      let same_body : (one.1).message.body ≡ body = is_body (one.1).message.body one.4 in
      let same : (one.1).message ≡ message w (name_of w u) k body =
      λ i. record {
        sender = same_sender i;
        tree = same_tree i;
        path = same_path i;
        body = same_body
            i;
      } in
      subst (WasSent sent) same (sent_now w.sent a.sends one.1 there
      (All-contains (λ z. IsMessage z.message) a.sends one.1 written there))

  -- votes that were said were sent
  votes_then : (q n : ℕ) (b : Claim) → q < length w.division.units
      → Has (then.at q).sent (theory_says.Vote n b)
      → WasSent sent (message w (name_of w q) n (bodies.Vote b))
  votes_then q n b lt h = ⊎_elim
      (λ old. sent_more w.sent a.sends _ (m.votes q n b lt old))
      (λ new. vote_now q n b new.0 new.1)
      (comes q (theory_says.Vote n b) h)
    where
      vote_now : (q n : ℕ) (b : Claim) → q ≡ u → o.send ≡ Some (theory_says.Vote n b)
          → WasSent sent (message w (name_of w q) n (bodies.Vote b))
      vote_now q n b same send =
          let one = out (theory_says.Vote n b) send refl in
          let who = vote_body (member_of e) n b (one.1).message.body one.4 in
          subst (λ (p : ℕ). WasSent sent (message w (name_of w p) n (bodies.Vote b))) (sym same)
          (gone (theory_says.Vote n b) (bodies.Vote b) n send refl (sym who.1)
          (λ body is. (vote_body (member_of e) n b body is).0))

  -- proposals that were said were sent
  proposals_then : (q : ℕ) (b : Claim) (v : Value) → q < length w.division.units
      → Has (then.at q).sent (theory_says.Propose (ballot b v))
      → WasSent sent (message w (name_of w q) b.member (bodies.Propose b v))
  proposals_then q b v lt h = ⊎_elim
      (λ old. sent_more w.sent a.sends _ (m.proposals q b v lt old))
      (λ new. subst (λ (p : ℕ). WasSent sent
      (message w (name_of w p) b.member (bodies.Propose b v))) (sym new.0)
      (gone (theory_says.Propose (ballot b v)) (bodies.Propose b v) b.member new.1 refl
      (own (ballot b v) new.1)
      (λ body is. proposal_body (member_of e) b v body is)))
      (comes q (theory_says.Propose (ballot b v)) h)

  -- the entries of the list are for units
  units_with : (p : ℕ) (list : List (Entry Value)) (o d : Option Value)
      → p < length w.division.units
      → All (λ n. n.path < length w.division.units) list
      → All (λ n. n.path < length w.division.units) (list_with p list o d)
  units_with p list (Some v) d lt are = are
  units_with p list None None lt are = are
  units_with p list None (Some v) lt are = All-cons
      (λ (n : Entry Value). n.path < length w.division.units) (record { path = p; value = v }) list
      lt are

  -- So the world after the step matches the agreements, if its list is theirs.
  pub world_matches : Matches world then
  world_matches = record {
    members =
        λ j q z g lt. members_then w enough c m u within e o answered x y stands left j q z g lt;
    logs = λ j q z g lt. logs_then w enough c m u within e o answered x y stands left j q z g lt;
    sent = said_then;
    votes = votes_then;
    proposals = proposals_then;
    list = refl;
    units = units_with u c.list (lookup c.list u)
        (decided_value enough (after_event enough (c.at u) e).sent
        (after_event enough (c.at u) e).sent) within m.units;
  }

-- All nodes in the list are asked to promise, one after another.
use Rattle.std.proofs.Common.{◌≡◌, ◌+◌, ◌⊎◌, ℕ, zero, suc, true, List, [], ◌∷◌, ◌++◌, length, Option, None, option_map, refl, sym, ap, ap₂, subst, ◌∙◌, arith, append-nil, inl, inr, ⊎_elim}
use Rattle.std.specs.Prelude.{Contains}
use Rattle.std.proofs.lemmas.List.{length-append, length-map}
use Rattle.claims.specs.Member.{Building, Gathering, Member, Stage}
use Rattle.claims.specs.Quorums.{Members, is_majority, with_member}
use Rattle.claims.specs.Step.{on_promise, on_quorum, still}
use Rattle.claims.specs.Votes.{Ballot, kept_report}
use Rattle.claims.specs.declared.claim.Claim.{Claim}
use Rattle.ballots.specs.declared.message.Body.TheVariants as bodies
use Rattle.ballots.specs.declared.message.Message.{Message}
use Rattle.protocol.specs.Events as events
use Rattle.protocol.specs.Events.{Event}
use Rattle.node.specs.Parcels.{datagrams_of}
use Rattle.protocol.specs.Answers.{tree_digest}
use Rattle.protocol.specs.InTheAgreement.{pair_of}
use Rattle.protocol.specs.State.{Value}
use Rattle.engine.specs.Division.{Division, unit_at}
use Rattle.ways_on.specs.Ways.{LeadsTo}
use Rattle.ways_on.specs.inside.Listed.{deliveries}
use Rattle.ways_on.proofs.Appending.{later}
use Rattle.ways_on.proofs.Asking.{Asks, one_ask, theirs}
use Rattle.ways_on.proofs.Going.{leads_also, leads_on}
use Rattle.ways_on.proofs.Majority.{MakeMajority}
use Rattle.ways_on.proofs.Reached.{its_own}
use Rattle.ways_on.proofs.Replies.{is_joined, is_quorum}
use Rattle.ways_on.proofs.Staying.{IsOpenStage}
use Rattle.wire.specs.Pieces.{split_of}
use Rattle.wire.specs.Spelling.{datagram_text}
use Rattle.world.specs.World.{IsMade, World}

module _ (division : Division) (weights : List ℕ) (made : IsMade division weights)
    (u : ℕ) (c : Claim) (me : ℕ) (at0 : ℕ) (told : ℕ → Option (Ballot Value)) (host : ℕ)
    (had : ℕ → Option Value) where
  -- node k's promise, and its number of datagrams
  abbrev pub promised_by : ℕ → Message Value
  promised_by k = record {
    sender = k;
    tree = tree_digest division.tree;
    path = (unit_at division u).name;
    body = bodies.Promise c (option_map pair_of (told k));
  }

  abbrev pub count_of : ℕ → ℕ
  count_of k = length (split_of (promised_by k))

  -- the offer is delivered to each node, and its promise to the claim's node
  abbrev pub asks_by : ℕ → List ℕ → List Event
  asks_by next [] = []
  asks_by next (k ∷ ks) =
      events.Deliver at0 k ∷ deliveries next (count_of k) me ++ asks_by (next + count_of k) ks

  -- Each is asked once.
  abbrev pub AreNew : List ℕ → List ℕ → Type 0
  AreNew done [] = Prim.Unit {0}
  AreNew done (k ∷ ks) = ((j : ℕ) → Contains ks j → j ≡ k → ⊥)
      × ((j : ℕ) → Contains done j → j ≡ k → ⊥) × AreNew (k ∷ done) ks

  -- the number of the first datagram after these nodes' promises
  abbrev pub behind_by : ℕ → List ℕ → ℕ
  behind_by next [] = next
  behind_by next (k ∷ ks) = behind_by (next + count_of k) ks

  -- the report with the greatest claim among these nodes' votes
  abbrev pub report_by : Option (Ballot Value) → List ℕ → Option (Ballot Value)
  report_by kept [] = kept
  report_by kept (k ∷ ks) = report_by (kept_report kept (told k)) ks

  abbrev pub AreAsked : Stage Value → List ℕ → List ℕ → World → Type 0
  AreAsked = Asks division weights made u c me at0 told host had

  abbrev pub Gathers : Members → Option (Ballot Value) → List ℕ → List ℕ → World → Type 0
  Gathers S report done ks w = AreAsked (Gathering c S report) done ks w

  -- the promise is the one in the list
  pub same_promise : (w : World) (k : ℕ) (stage : Stage Value) (is_open : IsOpenStage stage)
      (done ks : List ℕ) (s : AreAsked stage done (k ∷ ks) w)
      (fresh : (j : ℕ) → Contains ks j → j ≡ k → ⊥) (old : (j : ℕ) → Contains done j → j ≡ k → ⊥)
      → theirs division weights made u c me at0 told host had w k stage is_open done ks s fresh old
      ≡ promised_by k
  same_promise w k stage is_open done ks s fresh old =
      ap₂ (λ (d : Division) (r : Option (Ballot Value)). record {
        sender = k;
        tree = tree_digest d.tree;
        path = (unit_at d u).name;
        body = bodies.Promise c (option_map pair_of r);
      }) (its_own division weights made w s.reached).0 (s.each k (zero, omega arith, refl)).voted

  -- One turn, in terms of the list.
  one_turn : (w : World) (k : ℕ) (stage new : Stage Value) → IsOpenStage stage → IsOpenStage new
      → (done ks : List ℕ) → AreAsked stage done (k ∷ ks) w
      → ((j : ℕ) → Contains ks j → j ≡ k → ⊥) → ((j : ℕ) → Contains done j → j ≡ k → ⊥)
      → ((m : Member Value) → on_promise (is_majority weights) m stage
      (record { member = k; claim = c; report = told k }) ≡ still (record m { stage = new }))
      → LeadsTo (λ y. AreAsked new (k ∷ done) ks y × (length y.sent ≡ length w.sent + count_of k)) w
      (events.Deliver at0 k ∷ deliveries (length w.sent) (count_of k) me)
  one_turn w k stage new is_open is_open_new done ks s fresh old turns =
      let promise = theirs division weights made u c me at0 told host had w k stage is_open done ks s
      fresh old in
      subst (λ m. LeadsTo (λ y. AreAsked new (k ∷ done) ks y
      × (length y.sent ≡ length w.sent + length (split_of m))) w
      (events.Deliver at0 k ∷ deliveries (length w.sent) (length (split_of m)) me))
      (same_promise w k stage is_open done ks s fresh old)
      (leads_also (λ y. AreAsked new (k ∷ done) ks y × (y.sent ≡ w.sent ++ datagrams_of promise))
      (λ y. AreAsked new (k ∷ done) ks y × (length y.sent ≡ length w.sent + length (split_of promise)))
      w (events.Deliver at0 k ∷ deliveries (length w.sent) (length (split_of promise)) me)
      (one_ask division weights made u c me at0 told host had w k stage is_open done ks s fresh old new
      is_open_new turns)
      (λ y t. (
        t.0,
        ap length t.1 ∙ length-append w.sent (datagrams_of promise)
            ∙ ap (λ n. length w.sent + n) (length-map (split_of promise) datagram_text),
      )))

  -- The nodes that don't yet complete a majority are asked, and then the last one; `last` says what
  -- follows.
  pub all_asks : (Q : World → Type 0) (all : List ℕ) (total : Option (Ballot Value)) (behind : ℕ)
      → ((S : Members) (report : Option (Ballot Value)) (done : List ℕ) (k : ℕ) (w : World)
      → Gathers S report done (k ∷ []) w → ((j : ℕ) → Contains done j → j ≡ k → ⊥)
      → is_majority weights (with_member S k) ≡ true → kept_report report (told k) ≡ total
      → length w.sent + count_of k ≡ behind
      → ((j : ℕ) → Contains all j → Contains (k ∷ done) j)
      → LeadsTo Q w (asks_by (length w.sent) (k ∷ [])))
      → (ks : List ℕ) (S : Members) (report : Option (Ballot Value)) (done : List ℕ) (w : World)
      → AreNew done ks → MakeMajority weights S ks → Gathers S report done ks w
      → report_by report ks ≡ total → behind_by (length w.sent) ks ≡ behind
      → ((j : ℕ) → Contains all j → Contains done j ⊎ Contains ks j)
      → LeadsTo Q w (asks_by (length w.sent) ks)
  all_asks Q all total behind last [] S report done w distinct majority s kept end each =
      absurd majority
  all_asks Q all total behind last (k ∷ []) S report done w distinct majority s kept end each =
      last S report done k w s distinct.1 majority kept end
      (λ j at. ⊎_elim (λ old. later k done j old) (λ new. only k done j new) (each j at))
    where
      only : (k : ℕ) (done : List ℕ) (j : ℕ) → Contains (k ∷ []) j → Contains (k ∷ done) j
      only k done j (zero, lt, e) = (zero, omega arith, e)
      only k done j (suc i, lt, e) = absurd (omega (arith, lt))
  all_asks Q all total behind last (k ∷ l ∷ ks) S report done w distinct majority s kept end each =
      leads_on (λ y. Gathers (with_member S k) (kept_report report (told k)) (k ∷ done) (l ∷ ks) y
      × (length y.sent ≡ length w.sent + count_of k)) Q w
      (events.Deliver at0 k ∷ deliveries (length w.sent) (count_of k) me)
      (asks_by (length w.sent + count_of k) (l ∷ ks))
      (one_turn w k (Gathering c S report)
      (Gathering c (with_member S k) (kept_report report (told k))) tt tt done (l ∷ ks) s
      distinct.0 distinct.1
      (λ m. is_joined (is_majority weights) m c S report k (told k) majority.0))
      (λ y t. subst (λ n. LeadsTo Q y (asks_by n (l ∷ ks))) t.1
      (all_asks Q all total behind last (l ∷ ks) (with_member S k) (kept_report report (told k))
      (k ∷ done) y distinct.2 majority.1 t.0 kept
      (ap (λ n. behind_by n (l ∷ ks)) t.1 ∙ end)
      (λ j at. ⊎_elim (λ old. inl (later k done j old)) (λ new. moved k done (l ∷ ks) j new)
      (each j at))))
    where
      moved : (k : ℕ) (done ks : List ℕ) (j : ℕ) → Contains (k ∷ ks) j
          → Contains (k ∷ done) j ⊎ Contains ks j
      moved k done ks j (zero, lt, e) = inl (zero, omega arith, e)
      moved k done ks j (suc i, lt, e) = inr (i, omega (arith, lt), e)

  -- If no node reported a vote, the claim waits for a build after the last node was asked.
  pub last_waits : (S : Members) (report : Option (Ballot Value)) (done : List ℕ) (k : ℕ)
      (w : World) → Gathers S report done (k ∷ []) w
      → ((j : ℕ) → Contains done j → j ≡ k → ⊥)
      → is_majority weights (with_member S k) ≡ true → kept_report report (told k) ≡ None
      → LeadsTo (λ y. AreAsked (Building c) (k ∷ done) [] y
      × (length y.sent ≡ length w.sent + count_of k)) w (asks_by (length w.sent) (k ∷ []))
  last_waits S report done k w s old enough none =
      subst (λ es. LeadsTo (λ y. AreAsked (Building c) (k ∷ done) [] y
      × (length y.sent ≡ length w.sent + count_of k)) w (events.Deliver at0 k ∷ es))
      (sym (append-nil (deliveries (length w.sent) (count_of k) me)))
      (one_turn w k (Gathering c S report) (Building c) tt tt done [] s
      (λ j at. absurd (omega (arith, at.1))) old
      (λ m. is_quorum (is_majority weights) m c S report k (told k) enough
      ∙ ap (on_quorum m c) none))

-- What one turn's step offered, and the next turn receives.
use Rattle.std.proofs.Common.{◌≡◌, ◌∙◌, ◌++◌, ℕ, Bool, true, false, List, [], ◌∷◌, Option, None, Some, Result, Ok, Err, ap, drop, map, refl, subst}
use Rattle.std.proofs.lemmas.List.Elements.{Contains-append_left, Contains-append_right, Contains-push}
use Rattle.std.specs.Prelude.{Contains}
use Rattle.turn_rules.specs.declared.fault.TurnFault.{TurnFault}
use Rattle.protocol.specs.Events.{event_view, node_of}
use Rattle.protocol.specs.declared.event.Event as declared
use Rattle.faults.specs.Bytes.{Text}
use Rattle.node.specs.Parcels.{datagrams_to}
use Rattle.turn_rules.specs.Offered.{Answered, parcels_from}
use Rattle.datagram_ports.specs.InMemory.{MemPortState, Orders, first_of, put_by}
use Rattle.datagram_ports.specs.Kept.{Parcel}
use Rattle.protocol.specs.Given.{Given}
use Rattle.cluster_turns.specs.State.{ClusterState, IsWorldOf}
use Rattle.check_turns.specs.Going.{GoesOnWith}
use Rattle.check_turns.specs.Heard.{SendsAreKnown}
use Rattle.check_turns.specs.InMemory.{HearsOffered, TurnsInMemory, left_by, put_by_all, waits_for_answer}
use Rattle.world.specs.World.{World}

-- the texts of what was offered
abbrev texts_in : List Answered → List Text
texts_in offered = map (λ (p : Parcel). p.text) (map (λ (a : Answered). a.0) offered)

-- what a send appended was offered
put_was_offered : (is_twice : Bool) (offered : List Answered) (k : ℕ) (text : Text)
    → first_of (put_by_all is_twice offered) ≡ Some (k, text) → Contains (texts_in offered) text
put_was_offered is_twice [] k text is =
    absurd (let no : ◌≡◌ {A = Option (ℕ × Text)} None (Some (k, text)) = is in cc)
put_was_offered is_twice ((p, Err f) ∷ rest) k text is =
    Contains-append_right (p.text ∷ []) (texts_in rest) text
    (put_was_offered is_twice rest k text is)
put_was_offered is_twice ((p, Ok u) ∷ rest) k text is = by is_twice is
  where
    first : ◌≡◌ {A = Option (ℕ × Text)} (Some (p.to, p.text)) (Some (k, text))
        → Contains (p.text ∷ texts_in rest) text
    first same =
        let pairs : ◌≡◌ {A = ℕ × Text} (p.to, p.text) (k, text) = cc in
        let texts : p.text ≡ text = ap (λ (x : ℕ × Text). x.1) pairs in
        Contains-append_left (p.text ∷ []) (texts_in rest) text
        (subst (λ (t : Text). Contains (p.text ∷ []) t) texts (Contains-push [] p.text))

    by : (b : Bool) → first_of (put_by b p.to p.text ++ put_by_all b rest) ≡ Some (k, text)
        → Contains (p.text ∷ texts_in rest) text
    by true same = first same
    by false same = first same

texts_from : (k : ℕ) (sends : List (ℕ × Text))
    → map (λ (p : Parcel). p.text) (parcels_from k sends) ≡ map (λ (s : ℕ × Text). s.1) sends
texts_from k [] = refl
texts_from k (s ∷ rest) = ap (λ (l : List Text). s.1 ∷ l) (texts_from k rest)

-- nothing is left of an empty queue
none_left : (job is_deaf : Bool) → left_by job is_deaf [] ≡ []
none_left true is_deaf = refl
none_left false true = refl
none_left false false = refl

-- what is appended twice is queued again
waits_again : (is_twice : Bool) (offered : List Answered) (d : ℕ × Text) (more : List (ℕ × Text))
    → is_twice ≡ true → first_of (put_by_all is_twice offered) ≡ Some d
    → first_of (drop 1 (put_by_all is_twice offered) ++ more) ≡ Some d
waits_again is_twice [] d more twice is =
    absurd (let no : ◌≡◌ {A = Option (ℕ × Text)} None (Some d) = is in cc)
waits_again is_twice ((p, Err f) ∷ rest) d more twice is =
    waits_again is_twice rest d more twice is
waits_again true ((p, Ok u) ∷ rest) d more twice is = is
waits_again false ((p, Ok u) ∷ rest) d more twice is =
    absurd (let no : false ≡ true = twice in cc)

module _ {D : Type 0} (old mid new : ClusterState D MemPortState) (first second : Given)
    (e : declared.Event) (answer : Result (Option declared.Event) TurnFault)
    (empty : old.port.waiting ≡ []) (one : TurnsInMemory old mid first (Ok (Some e)))
    (other : TurnsInMemory mid new second answer) where
  abbrev put : List (ℕ × Text)
  put = put_by_all old.port.orders.is_twice one.offered

  abbrev more : List (ℕ × Text)
  more = put_by_all mid.port.orders.is_twice other.offered

  waits : mid.port.waiting ≡ put
  waits =
      one.waiting
      ∙ ap (λ (l : List (ℕ × Text)). l ++ put)
      (ap (left_by (waits_for_answer old first) old.port.orders.is_deaf) empty
      ∙ none_left (waits_for_answer old first) old.port.orders.is_deaf)

  listens : old.port.orders.is_deaf ≡ false → mid.port.orders.is_deaf ≡ false
  listens hears = ap (λ (o : Orders). o.is_deaf) one.orders ∙ hears

  left_then : waits_for_answer mid second ≡ false → old.port.orders.is_deaf ≡ false
      → new.port.waiting ≡ drop 1 put ++ more
  left_then idle hears =
      other.waiting
      ∙ (ap (λ (b : Bool). left_by b mid.port.orders.is_deaf mid.port.waiting ++ more) idle
      ∙ (ap (λ (b : Bool). left_by false b mid.port.waiting ++ more) (listens hears)
      ∙ ap (λ (l : List (ℕ × Text)). drop 1 l ++ more) waits))

  pub hears_offered : GoesOnWith old mid (event_view e ∷ []) → SendsAreKnown old mid e
      → (w : World) → IsWorldOf old w → HearsOffered old new second e answer
  hears_offered goes_on known w is = record {
    between = mid;
    goes_on = goes_on;
    offered = one.offered;
    sends = one.sends;
    answered = one.answered;
    hears = λ k text s took idle up.
        let acts = known w is in
        let texts =
        ap (λ (l : List Parcel). map (λ (p : Parcel). p.text) l)
        (one.sends w acts.0 acts.1 is acts.2)
        ∙ texts_from (node_of (event_view e)) (datagrams_to acts.1.answer.sends) in
        let among = acts.3 text
        (subst (λ (l : List Text). Contains l text) texts
        (put_was_offered old.port.orders.is_twice one.offered k text took.0)) in
        other.hears k text s (ap (λ (l : List (ℕ × Text)). first_of l) waits ∙ took.0)
        (listens took.1) idle among up;
    again = λ k text took twice idle.
        ap (λ (l : List (ℕ × Text)). first_of l) (left_then idle took.1)
        ∙ waits_again old.port.orders.is_twice one.offered (k, text) more twice took.0;
  }

-- A turn of a node that hears only what it sent itself.
use Rattle.std.proofs.Common.{◌≡◌, ◌++◌, ◌<◌, ℕ, zero, suc, List, [], ◌∷◌, Option, None, Some, Result, Ok, length, map, slice_get, refl, sym, ap, subst, ◌∙◌, arith, inl}
use Rattle.std.specs.Prelude.{Contains, option_map}
use Rattle.std.proofs.lemmas.List.{append-nil, map-append}
use Rattle.datagram_ports.specs.Granted.{IsGranted}
use Rattle.datagram_ports.specs.Kept.{GoesOnBy, Parcel}
use Rattle.faults.specs.Bytes.{Text}
use Rattle.laws.proofs.OnHosts.{turns_are_of_a_run}
use Rattle.laws.proofs.Places.{some_same}
use Rattle.laws.specs.Hosts.{Hosts, sends_of}
use Rattle.laws.specs.OnHosts.{IsAfterTurn, TookOffered}
use Rattle.laws.specs.Recorded.{HasHeard, IsAlone, offered_to, texts_of}
use Rattle.laws.specs.Run.{Run}
use Rattle.laws.specs.declared.recorded.Recorded.{Recorded}
use Rattle.listing.specs.Tree.{Tree}
use Rattle.lone_node.specs.Handed.{Handed}
use Rattle.lone_node.specs.State.{SoloState, me_of}
use Rattle.lone_node.specs.Turns.{IsTurn}
use Rattle.node.proofs.OneStep.{one_step}
use Rattle.node.specs.OnLog.{texts_of as texts_on}
use Rattle.node.specs.Parcels.{datagrams_to}
use Rattle.node.specs.Step.{Taken}
use Rattle.node.specs.declared.fault.NodeFault.{NodeFault}
use Rattle.turn_rules.specs.Acts.{asked_by}
use Rattle.turn_rules.specs.Offered.{parcels_from}
use Rattle.turn_rules.specs.declared.act.Act.{Act}
use Rattle.turn_rules.specs.declared.act.Act.TheVariants.{Own, Datagram}
use Rattle.stable_record.specs.declared.disk.Disk.{Ghosts as Disk}
use Rattle.datagram_ports.specs.declared.port.Port.{Ghosts as Port}

-- ---- the record

-- a record that is unchanged went on by nothing
pub nothing_more : {X : Type 0} (o : Option (List X)) → GoesOnBy [] o o
nothing_more None = tt
nothing_more (Some xs) = sym (append-nil xs)

-- how a record went on that is known before and afterwards
went_on : {X : Type 0} (more : List X) (a b : Option (List X)) (xs ys : List X) → a ≡ Some xs
    → b ≡ Some ys → GoesOnBy more a b → ys ≡ xs ++ more
went_on {X} more None b xs ys old new goes =
    absurd (let no : ◌≡◌ {A = Option (List X)} None (Some xs) = old in cc)
went_on {X} more (Some us) None xs ys old new goes =
    absurd (let no : ◌≡◌ {A = Option (List X)} None (Some ys) = new in cc)
went_on {X} more (Some us) (Some vs) xs ys old new goes =
    sym (some_same vs ys new) ∙ goes ∙ ap (λ l. l ++ more) (some_same us xs old)

-- the texts of what a node sends
texts_from : (k : ℕ) (sends : List (ℕ × Text))
    → texts_of (parcels_from k sends) ≡ map (λ s. s.1) sends
texts_from k [] = refl
texts_from k (s ∷ sends) = ap (λ l. s.1 ∷ l) (texts_from k sends)

-- what is among the first is one of these
among : (xs more : List Parcel) (place : ℕ) (x : Parcel) → place < length xs
    → slice_get (xs ++ more) place ≡ Some x → Contains (texts_of xs) x.text
among [] more place x below at = absurd (omega (arith, below))
among (y ∷ ys) more zero x below at =
    (zero, omega arith, ap (λ (p : Parcel). p.text) (some_same y x at))
among (y ∷ ys) more (suc place) x below at =
    let r = among ys more place x (omega (arith, below)) at in (suc r.0, omega (arith, r.1), r.2)

-- ---- a turn

-- what contracts see of a port that records what is offered, over this one
abbrev pub recording : {P : Type 0} → Port P → Port (Recorded P)
recording port = record {
  given = λ r. port.given r.port;
  offered = λ r. r.sends.offered;
  failures_of = λ r. port.failures_of r.port;
  does = λ old call new. port.does old.port call new.port;
  vouches = λ r text. port.vouches r.port text;
  may_send = λ r text. port.may_send r.port text × IsGranted r.sends.granted text;
}

module _ {D P : Type 0} (disk : Disk D)
    (port : Port P) (handed : Handed) (old new : SoloState D (Recorded P))
    (tree : Tree) (weights : List ℕ) (first h : Hosts) (k : ℕ) (so_far : Run tree weights first h)
    (alone : IsAlone h k old) where
  abbrev its_port : Port (Recorded P)
  its_port = recording port

  abbrev IsTurnSo : Option Act → Type 0
  IsTurnSo done = IsTurn disk its_port handed old new (Ok done)

  abbrev Goes : Type 0
  Goes = (g : Hosts) × Run tree weights first g × IsAlone g k new

  -- The law, if what the turn took was offered before.
  by_law : (done : Option Act) → (turn : IsTurnSo done)
      → TookOffered disk its_port handed old new (Ok done) turn h.offered
      → (g : Hosts) × Run tree weights first g
      × IsAfterTurn h g k old new (texts_on old.node.node.notes) (Ok done)
  by_law done turn came =
      turns_are_of_a_run disk its_port tree weights first h k handed old new (texts_on old.node.node.notes) (Ok done) so_far
      alone.up (inl refl) turn came

  -- the node took a step
  took : (act : Act) (turn : IsTurnSo (Some act)) (ys : List Parcel)
      → offered_to new.port ≡ Some ys
      → TookOffered disk its_port handed old new (Ok (Some act)) turn h.offered
      → Goes
  took act turn ys recorded came =
      let next = by_law (Some act) turn came in
      let t = (turn.done.taken).taken in
      let more = parcels_from (me_of old) (datagrams_to t.answer.sends) in
      let goes = went_on more (offered_to old.port) (offered_to new.port) alone.parcels ys
      alone.recorded recorded (turn.done.taken).offers in
      let other = (next.2).offered in
      let two : ◌≡◌ {A = Result Taken NodeFault} (Ok other.0) (Ok t) =
      one_step old.node.node (asked_by act) (Ok other.0) (Ok t) other.1 (turn.done.taken).takes in
      let same : other.0 ≡ t = cc in (
        next.0,
        next.1,
        record {
          up = (next.2).here;
          parcels = ys;
          recorded = recorded;
          offered = other.2 ∙ ap (λ (x : Taken). h.offered ++ sends_of x) same
              ∙ ap (λ (l : List Text). l ++ sends_of t) alone.offered
              ∙ ap (λ (l : List Text). texts_of alone.parcels ++ l)
              (sym (texts_from (me_of old) (datagrams_to t.answer.sends)))
              ∙ sym (map-append (λ (p : Parcel). p.text) alone.parcels more)
              ∙ ap texts_of (sym goes);
        },
      )

  -- there was nothing to do
  stayed : (turn : IsTurnSo None) (ys : List Parcel) → offered_to new.port ≡ Some ys → Goes
  stayed turn ys recorded =
      let next = by_law None turn tt in
      let goes = went_on [] (offered_to old.port) (offered_to new.port) alone.parcels ys
      alone.recorded recorded (turn.done.same).2 in (
        next.0,
        next.1,
        record {
          up = (next.2).here;
          parcels = ys;
          recorded = recorded;
          offered = (next.2).offered ∙ alone.offered
              ∙ ap texts_of (sym (goes ∙ append-nil alone.parcels));
        },
      )

  -- what was heard was offered before
  heard_before : (count : ℕ) → Some count ≡ option_map length (offered_to old.port)
      → (act : Act) (turn : IsTurnSo (Some act)) (ys : List Parcel)
      → offered_to new.port ≡ Some ys → (place : ℕ) → place < count → (parcel : Parcel)
      → slice_get ys place ≡ Some parcel → Contains h.offered parcel.text
  heard_before count counted act turn ys recorded place below parcel at =
      let t = (turn.done.taken).taken in
      let more = parcels_from (me_of old) (datagrams_to t.answer.sends) in
      let goes = went_on more (offered_to old.port) (offered_to new.port) alone.parcels ys
      alone.recorded recorded (turn.done.taken).offers in
      let all : count ≡ length alone.parcels =
      some_same count (length alone.parcels)
      (counted ∙ ap (option_map length) alone.recorded) in
      subst (λ (l : List Text). Contains l parcel.text) (sym alone.offered)
      (among alone.parcels more place parcel (omega (arith, below, all))
      (ap (λ (l : List Parcel). slice_get l place) (sym goes) ∙ at))

  pub goes_so : (count : ℕ) → Some count ≡ option_map length (offered_to old.port)
      → (done : Option Act) → (turn : IsTurnSo done) → HasHeard new.port count done → Goes
  goes_so count counted None turn (ys, recorded) = stayed turn ys recorded
  goes_so count counted (Some (Own input)) turn (ys, recorded) =
      took (Own input) turn ys recorded tt
  goes_so count counted (Some (Datagram bytes)) turn
      (ys, recorded, place, below, parcel, at, is) =
      took (Datagram bytes) turn ys recorded
      (subst (Contains h.offered) is
      (heard_before count counted (Datagram bytes) turn ys recorded place below parcel at))

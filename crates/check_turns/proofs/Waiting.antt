-- What calls of a port in memory leave in its queue, and what its receives returned.
use Rattle.std.proofs.Common.{◌≡◌, ◌∙◌, ◌++◌, ℕ, Bool, true, false, List, [], ◌∷◌, Option, None, Some, Result, Ok, Err, append-nil, append_assoc, ap, drop, map, refl, subst, sym}
use Rattle.std.proofs.lemmas.List.Elements.{All-cons, All-nil}
use Rattle.std.specs.Prelude.{⊤, All}
use Rattle.faults.specs.Bytes.{Text}
use Rattle.turn_rules.specs.Calls.{came_by}
use Rattle.turn_rules.specs.Offered.{Answered, sends_of}
use Rattle.datagram_ports.specs.Calls.{Call, Received, Sent, WentThrough}
use Rattle.datagram_ports.specs.Granted.{IsGranted}
use Rattle.datagram_ports.specs.InMemory.{DoesInMemory, MemPortState, Orders, first_of, put_by, waiting_after}
use Rattle.datagram_ports.specs.Kept.{Arrived}
use Rattle.datagram_ports.specs.declared.fault.PortFault.{PortFault}
use Rattle.datagram_ports.specs.declared.port.Port.{Ghosts as Port}
use Rattle.check_turns.specs.InMemory.{IsAnswered, left_by, put_by_all}

-- what contracts see of a port in memory
abbrev pub mem_port : Port MemPortState
mem_port = record {
  given = λ port. port.given;
  offered = λ port. port.offered;
  failures_of = λ port. port.failures;
  does = DoesInMemory;
  vouches = λ port text. ⊤;
  may_send = λ port text. IsGranted port.granted text;
}

-- ---- the queue

pub after_both : (o : Orders) (first then : List Call) (w : List (ℕ × Text))
    → waiting_after o (first ++ then) w ≡ waiting_after o then (waiting_after o first w)
after_both o [] then w = refl
after_both o (Received (Ok a) ∷ first) then w = after_both o first then (drop 1 w)
after_both o (Received (Err f) ∷ first) then w = after_both o first then w
after_both o (Sent p (Ok u) ∷ first) then w =
    after_both o first then (w ++ put_by o.is_twice p.to p.text)
after_both o (Sent p (Err f) ∷ first) then w = after_both o first then w

-- sends append to it
pub after_sends : (o : Orders) (offered : List Answered) (w : List (ℕ × Text))
    → waiting_after o (sends_of offered) w ≡ w ++ put_by_all o.is_twice offered
after_sends o [] w = sym (append-nil w)
after_sends o ((p, Ok u) ∷ rest) w =
    after_sends o rest (w ++ put_by o.is_twice p.to p.text)
    ∙ append_assoc w (put_by o.is_twice p.to p.text) (put_by_all o.is_twice rest)
after_sends o ((p, Err f) ∷ rest) w = after_sends o rest w

-- receives leave the settings
pub after_receives : (old new : MemPortState) (received : List (Result Arrived PortFault))
    (calls : List Call) → WentThrough DoesInMemory old (map Received received ++ calls) new
    → (mid : MemPortState) × (mid.orders ≡ old.orders) × WentThrough DoesInMemory mid calls new
after_receives old new [] calls went = (old, refl, went)
after_receives old new (Ok a ∷ rest) calls (between, (gives, hears, is, now, counted), others) =
    let r = after_receives between new rest calls others in (r.0, r.1 ∙ gives.orders, r.2)
after_receives old new (Err f ∷ rest) calls (between, (gives, deaf, is, now, counted), others) =
    let r = after_receives between new rest calls others in (r.0, r.1 ∙ gives.orders, r.2)

-- how sends are answered
pub sends_answered : (old new : MemPortState) (offered : List Answered)
    → WentThrough DoesInMemory old (sends_of offered) new
    → All (IsAnswered old.orders.lost_to) offered
sends_answered old new [] same = All-nil (IsAnswered old.orders.lost_to)
sends_answered old new ((p, Ok u) ∷ rest) (between, (kept, whole, now, counted), others) =
    All-cons (IsAnswered old.orders.lost_to) (p, Ok u) rest whole
    (subst (λ (o : Orders). All (IsAnswered o.lost_to) rest) kept.orders
    (sends_answered between new rest others))
sends_answered old new ((p, Err f) ∷ rest) (between, (kept, lost, now, counted), others) =
    All-cons (IsAnswered old.orders.lost_to) (p, Err f) rest lost
    (subst (λ (o : Orders). All (IsAnswered o.lost_to) rest) kept.orders
    (sends_answered between new rest others))

-- one receive removes the first datagram, unless receives are set to fail
pub left_one : (old new : MemPortState) (answer : Result Arrived PortFault) (calls : List Call)
    → WentThrough DoesInMemory old (Received answer ∷ calls) new
    → waiting_after old.orders (Received answer ∷ []) old.waiting
    ≡ left_by false old.orders.is_deaf old.waiting
left_one old new (Ok a) calls (between, (gives, hears, is, now, counted), others) =
    ap (λ (d : Bool). left_by false d old.waiting) (sym hears)
left_one old new (Err f) calls (between, (gives, deaf, is, now, counted), others) =
    ap (λ (d : Bool). left_by false d old.waiting) (sym deaf)

-- and returns it
pub gave_first : (old new : MemPortState) (answer : Result Arrived PortFault) (calls : List Call)
    (d : ℕ × Text) → WentThrough DoesInMemory old (Received answer ∷ calls) new
    → first_of old.waiting ≡ Some d → old.orders.is_deaf ≡ false → came_by answer ≡ Some d
gave_first old new (Ok a) calls d (between, (gives, hears, is, now, counted), others) first
    listens = is ∙ first
gave_first old new (Err f) calls d (between, (gives, deaf, is, now, counted), others) first
    listens = absurd (let no : true ≡ false = sym deaf ∙ listens in cc)

-- ---- what was received

pub received_none : (received : List (Result Arrived PortFault)) → map came_by received ≡ []
    → received ≡ []
received_none [] is = refl
received_none (a ∷ rest) is =
    absurd (let no : ◌≡◌ {A = List Arrived} (came_by a ∷ map came_by rest) [] = is in cc)

pub received_one : (received : List (Result Arrived PortFault)) (came : Arrived)
    → map came_by received ≡ came ∷ []
    → (answer : Result Arrived PortFault) × (received ≡ answer ∷ []) × (came_by answer ≡ came)
received_one [] came is =
    absurd (let no : ◌≡◌ {A = List Arrived} [] (came ∷ []) = is in cc)
received_one (a ∷ rest) came is =
    let both : ◌≡◌ {A = List Arrived} (came_by a ∷ map came_by rest) (came ∷ []) = is in
    let others : map came_by rest ≡ [] = cc in
    let same : came_by a ≡ came = cc in (
      a,
      ap (λ (l : List (Result Arrived PortFault)). a ∷ l) (received_none rest others),
      same,
    )

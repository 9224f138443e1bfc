-- The queue of a port in memory after calls.
use Rattle.std.proofs.Common.{◌≡◌, ◌∙◌, ℕ, List, [], ◌∷◌, ◌++◌, drop, Ok, Err, refl, sym, ap}
use Rattle.faults.specs.Bytes.{Text}
use Rattle.datagram_ports.specs.Calls.{Call, Received, Sent, WentThrough}
use Rattle.datagram_ports.specs.InMemory.{DoesInMemory, IsLeftWaiting, MemPortState, Orders, put_by, waiting_after}

-- a call that leaves the settings, and then others
then_others : (old between new : MemPortState) (call : Call) (calls : List Call) (left : List (ℕ × Text)) → between.orders ≡ old.orders → between.waiting ≡ left → waiting_after old.orders (call ∷ calls) old.waiting ≡ waiting_after old.orders calls left → IsLeftWaiting between new calls → IsLeftWaiting old new (call ∷ calls)
then_others old between new call calls left same now after others = record {
  orders = others.orders ∙ same;
  waiting = others.waiting
      ∙ (ap (λ (o : Orders). waiting_after o calls between.waiting) same
      ∙ (ap (λ (w : List (ℕ × Text)). waiting_after old.orders calls w) now ∙ sym after));
}

-- the calls determine the queue
pub left_waiting : (old new : MemPortState) (calls : List Call) → WentThrough DoesInMemory old calls new → IsLeftWaiting old new calls
left_waiting old new [] same = record { orders = ap (λ (p : MemPortState). p.orders) same; waiting = ap (λ (p : MemPortState). p.waiting) same }
left_waiting old new (Received (Ok arrived) ∷ calls) (between, (kept, hears, first, now, counted), others) =
    then_others old between new (Received (Ok arrived)) calls (drop 1 old.waiting) kept.orders now refl (left_waiting between new calls others)
left_waiting old new (Received (Err f) ∷ calls) (between, (kept, deaf, failed, now, counted), others) =
    then_others old between new (Received (Err f)) calls old.waiting kept.orders now refl (left_waiting between new calls others)
left_waiting old new (Sent parcel (Ok u) ∷ calls) (between, (kept, whole, now, counted), others) =
    then_others old between new (Sent parcel (Ok u)) calls (old.waiting ++ put_by old.orders.is_twice parcel.to parcel.text) kept.orders now refl (left_waiting between new calls others)
left_waiting old new (Sent parcel (Err f) ∷ calls) (between, (kept, lost, now, counted), others) =
    then_others old between new (Sent parcel (Err f)) calls old.waiting kept.orders now refl (left_waiting between new calls others)

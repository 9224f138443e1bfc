-- Known requests, and datagrams that aren't requests.
use Rattle.std.proofs.Common.{◌≡◌, ℕ, Bool, false, List, Option, None, Some, refl, subst}
use Rattle.std.specs.declared.time.Instant.{Instant}
use Rattle.faults.specs.Bytes.{Text}
use Rattle.udp.specs.Coming.{Became}
use Rattle.udp.specs.Inbox.{InboxState}
use Rattle.udp.specs.Requests.{is_repeat, is_request, known_after, request_in}
use Rattle.udp.specs.declared.inbox.Came.{Came}
use Rattle.udp.specs.declared.inbox.Came.TheVariants.{Lost, Repeated, Unsealed, Waits}
use Rattle.udp.specs.declared.requests.Request.{Request}

-- what holds of no request holds only of `None`
pub none_alone : (holds : Option Request → Type 0) → ((r : Request) → ¬ (holds (Some r))) → (o : Option Request) → holds o → o ≡ None
none_alone holds never None is = refl
none_alone holds never (Some r) is = absurd (never r is)

-- if nothing was queued, no request is noted
pub known_after_other : (came : Came) (request : Option Request) (next : ℕ) (known : List (Option Request)) → ¬ (came ≡ Waits) → known ≡ known_after came request next known
known_after_other Waits request next known other = absurd (other refl)
known_after_other Lost request next known other = refl
known_after_other Unsealed request next known other = refl
known_after_other Repeated request next known other = refl

-- nor if it isn't a request
pub known_after_none : (came : Came) (next : ℕ) (known : List (Option Request)) → known ≡ known_after came None next known
known_after_none Waits next known = refl
known_after_none Lost next known = refl
known_after_none Unsealed next known = refl
known_after_none Repeated next known = refl

-- bytes that begin otherwise aren't a repeated request
no_repeat : (front : Option Text) (now : Option Instant) (node member : ℕ) (bytes : Text) (known : List (Option Request)) → is_request front bytes ≡ false → is_repeat (request_in front now node member bytes) known ≡ false
no_repeat front None node member bytes known plain = refl
no_repeat front (Some now) node member bytes known plain = rw plain refl

-- so they are always taken
pub taken_as_ever : (front : Option Text) (now : Option Instant) (node member : ℕ) (bytes : Text) (known : List (Option Request)) (old new : InboxState) (came : Came) → Became node bytes (is_repeat (request_in front now node member bytes) known) old new came → is_request front bytes ≡ false → Became node bytes false old new came
taken_as_ever front now node member bytes known old new came became plain =
    subst (λ (may_drop : Bool). Became node bytes may_drop old new came) (no_repeat front now node member bytes known plain) became

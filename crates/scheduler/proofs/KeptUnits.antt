-- A desk keeps what a datagram says of its unit, and nothing of another one.
use Rattle.std.proofs.Common.{◌≡◌, ◌<◌, ◌≤◌, ◌∙◌, ℕ, Bool, Err, None, Ok, Option, Result, Some, true, false, ap, eqb-true, length, refl, subst, sym}
use Rattle.std.proofs.lemmas.Bool.{le-ltb, lt-ltb}
use Rattle.std.specs.Prelude.{OnOk, if◌then◌else◌, nat_eq}
use Rattle.std.specs.declared.time.Instant.{Instant}
use Rattle.ballots.specs.declared.message.Body.{Body}
use Rattle.ballots.specs.declared.message.Body.TheVariants.{Ask, Nay, Offer}
use Rattle.ballots.specs.declared.message.Message.{Message}
use Rattle.claims.specs.Claims.{claim_same}
use Rattle.claims.specs.declared.claim.Claim.{Claim}
use Rattle.engine.specs.Division.{number_found}
use Rattle.faults.specs.Bytes.{Text}
use Rattle.indexmap.specs.IndexMap.{get}
use Rattle.protocol.specs.State.{State, Value}
use Rattle.scheduler.specs.Hearing.{Hears, HearsMessage, HearsOf, HearsWhole, back_after, failures_after, longest, message_in, named_after, put, whole_of, with_back}
use Rattle.scheduler.specs.declared.desk.Desk.{Desk}
use Rattle.scheduler.specs.declared.heard.GivenBack.{GivenBack}
use Rattle.wire.specs.Reading.{datagram_of}
use Rattle.wire.specs.declared.WireFault.{WireFault}
use Rattle.wire.specs.declared.datagram.Datagram.{Datagram}
use Rattle.wire.specs.declared.datagram.Datagram.TheVariants.{Piece as PieceOf, Whole}
use Rattle.wire.specs.declared.datagram.Piece.{Piece}

-- none was given back, or under another claim
abbrev pub IsOther : Option GivenBack → Claim → Type 0
IsOther None c = Unit {0}
IsOther (Some b) c = claim_same b.claim c ≡ false

same_if : {A : Type 0} (b : Bool) (all : ℕ → A) (u v : ℕ) → (b ≡ true → u ≡ v)
    → all v ≡ (if b then all u else all v)
same_if true all u v is = ap all (sym (is refl))
same_if false all u v is = refl

-- all stays if the unit's entry does
pub put_same : {A : Type 0} (all : ℕ → A) (u v : ℕ) → all v ≡ put all u (all u) v
put_same all u v = same_if (nat_eq u v) all u v (eqb-true u v)

-- what was given back under the same claim was so before
pub back_before : (all : ℕ → Option GivenBack) (u v : ℕ) (c : Claim) (now : Instant) (b : GivenBack)
    → all u ≡ Some b → claim_same b.claim c ≡ true
    → all v ≡ put all u (with_back (Some c) now (all u)) v
back_before all u v c now b is same =
    put_same all u v
    ∙ ap (λ o. put all u o v)
    (is ∙ (sym (ap (λ t. if t then Some b else Some (record { claim = c; since = now })) same)
    ∙ ap (with_back (Some c) now) (sym is)))

-- what was given back under another one is so anew
pub back_anew : (all new : ℕ → Option GivenBack) (u v : ℕ) (c : Claim) (now : Instant)
    (o : Option GivenBack) → all u ≡ o → IsOther o c
    → new v ≡ put all u (Some (record { claim = c; since = now })) v
    → new v ≡ put all u (with_back (Some c) now (all u)) v
back_anew all new u v c now None is other kept =
    kept ∙ ap (λ o. put all u (with_back (Some c) now o) v) (sym is)
back_anew all new u v c now (Some b) is other kept =
    kept
    ∙ (ap (λ t. put all u (if t then Some b else Some (record { claim = c; since = now })) v)
    (sym other)
    ∙ ap (λ o. put all u (with_back (Some c) now o) v) (sym is))

module _ (bytes : Text) where
  -- a datagram that is longer isn't read
  long_none : longest < length bytes → message_in bytes ≡ None
  long_none long =
      ap (λ b. if b then None else whole_of (datagram_of bytes))
      (lt-ltb longest (length bytes) long)

  -- one that isn't may be
  short_read : length bytes ≤ longest → message_in bytes ≡ whole_of (datagram_of bytes)
  short_read short =
      ap (λ b. if b then None else whole_of (datagram_of bytes))
      (le-ltb longest (length bytes) short)

module _ (s : State) (now : Instant) (bytes : Text) (old new : Desk) where
  -- what the desk heard of the message in a datagram it heard of the datagram
  heard : (o : Option (Message Value)) → message_in bytes ≡ o → HearsWhole s now o old new
      → Hears s now bytes old new
  heard o is heard_it = subst (λ m. HearsWhole s now m old new) (sym is) heard_it

  -- so it is of one that is this message
  pub heard_whole : (d : Datagram) (m : Message Value) → length bytes ≤ longest
      → datagram_of bytes ≡ Ok d → d ≡ Whole m
      → HearsMessage s now m (number_found s.division m.path) old new → Hears s now bytes old new
  heard_whole d m short is whole =
      heard (Some m)
      (short_read bytes short ∙ (ap whole_of is ∙ ap (λ d. whole_of (Ok d)) whole))

module _ (s : State) (now : Instant) (bytes : Text) (d : Desk) where
  -- of a piece it keeps nothing
  pub heard_piece : (p : Piece) → length bytes ≤ longest → datagram_of bytes ≡ Ok (PieceOf p)
      → Hears s now bytes d d
  heard_piece p short is =
      heard s now bytes d d None (short_read bytes short ∙ ap whole_of is) (refl, refl, refl)

  -- nor of a text that isn't a datagram
  pub heard_fault : (f : WireFault) → length bytes ≤ longest → datagram_of bytes ≡ Err f
      → Hears s now bytes d d
  heard_fault f short is =
      heard s now bytes d d None (short_read bytes short ∙ ap whole_of is) (refl, refl, refl)

  -- nor of one that is longer
  pub heard_long : longest < length bytes → Hears s now bytes d d
  heard_long long = heard s now bytes d d None (long_none bytes long) (refl, refl, refl)

module _ (s : State) (now : Instant) (m : Message Value) (u : ℕ) (old new : Desk) where
  -- what the desk keeps of a message with this body, of nays
  abbrev pub KeepsNamed : ℕ → Body Value → Type 0
  KeepsNamed sender b =
      (v : ℕ) → get nat_eq new.named v
      ≡ put (get nat_eq old.named) u (named_after s sender b now (get nat_eq old.named u)) v

  -- of what was given back
  abbrev pub KeepsBack : Body Value → Type 0
  KeepsBack b =
      (v : ℕ) → get nat_eq new.given_back v
      ≡ put (get nat_eq old.given_back) u
      (back_after s old u m.sender b now (get nat_eq old.given_back u)) v

  -- and of where else builds failed
  abbrev pub KeepsElsewhere : Body Value → Type 0
  KeepsElsewhere b =
      (v : ℕ) → get nat_eq new.failed_elsewhere v
      ≡ put (get nat_eq old.failed_elsewhere) u
      (failures_after s u b (get nat_eq old.failed_elsewhere u)) v

  -- what the desk heard of the message's body it heard of the message
  pub hears_body : (b : Body Value) → m.body ≡ b → KeepsNamed m.sender b → KeepsBack b
      → KeepsElsewhere b → HearsOf s now m u old new
  hears_body b is named given elsewhere =
      let Holds : Body Value → Type 0 =
      λ b. KeepsNamed m.sender b × KeepsBack b × KeepsElsewhere b in
      let all : Holds m.body = subst Holds (sym is) (named, given, elsewhere) in
      record { named = all.0; given_back = all.1; failed_elsewhere = all.2 }

  -- what isn't changed is kept
  same_named : new.named ≡ old.named → (v : ℕ)
      → get nat_eq new.named v ≡ put (get nat_eq old.named) u (get nat_eq old.named u) v
  same_named same v =
      ap (λ all. get nat_eq all v) same ∙ put_same (get nat_eq old.named) u v

  same_back : new.given_back ≡ old.given_back → (v : ℕ)
      → get nat_eq new.given_back v
      ≡ put (get nat_eq old.given_back) u (get nat_eq old.given_back u) v
  same_back same v =
      ap (λ all. get nat_eq all v) same ∙ put_same (get nat_eq old.given_back) u v

  same_elsewhere : new.failed_elsewhere ≡ old.failed_elsewhere → (v : ℕ)
      → get nat_eq new.failed_elsewhere v
      ≡ put (get nat_eq old.failed_elsewhere) u (get nat_eq old.failed_elsewhere u) v
  same_elsewhere same v =
      ap (λ all. get nat_eq all v) same ∙ put_same (get nat_eq old.failed_elsewhere) u v

  -- so it is of a question for the unit that is found
  pub hears_question : {T E : Type 0} (r : Result T E) (o : Option ℕ) → o ≡ Some u → m.body ≡ Ask
      → OnOk r (KeepsNamed m.sender Ask) → OnOk r (KeepsBack Ask)
      → new.failed_elsewhere ≡ old.failed_elsewhere
      → OnOk r (HearsMessage s now m o old new)
  hears_question (Ok done) o found is named given same =
      subst (λ n. HearsMessage s now m n old new) (sym found)
      (hears_body Ask is named given (same_elsewhere same))
  hears_question (Err fault) o found is named given same = tt

  -- of a nay
  pub hears_nay : {T E : Type 0} (r : Result T E) (o : Option ℕ) (refused claim : Claim)
      → o ≡ Some u → m.body ≡ Nay refused claim
      → OnOk r ((sender : ℕ) → KeepsNamed sender (Nay refused claim))
      → new.given_back ≡ old.given_back
      → new.failed_elsewhere ≡ old.failed_elsewhere
      → OnOk r (HearsMessage s now m o old new)
  hears_nay (Ok done) o refused claim found is named back same =
      subst (λ n. HearsMessage s now m n old new) (sym found)
      (hears_body (Nay refused claim) is (named m.sender) (same_back back) (same_elsewhere same))
  hears_nay (Err fault) o refused claim found is named back same = tt

  -- and of an offer
  pub hears_offer : {T E : Type 0} (r : Result T E) (o : Option ℕ) (claim : Claim)
      → o ≡ Some u → m.body ≡ Offer claim
      → OnOk r (KeepsElsewhere (Offer claim))
      → (new.named ≡ old.named) × (new.given_back ≡ old.given_back)
      → OnOk r (HearsMessage s now m o old new)
  hears_offer (Ok done) o claim found is elsewhere (named, back) =
      subst (λ n. HearsMessage s now m n old new) (sym found)
      (hears_body (Offer claim) is (same_named named) (same_back back) elsewhere)
  hears_offer (Err fault) o claim found is elsewhere same = tt

-- What a step adds to the datagrams that were sent, if it says something new.
use Rattle.std.proofs.Common.{◌≡◌, ◌≢◌, ℕ, zero, suc, List, [], ◌∷◌, ◌++◌, refl, sym, ap, subst, ◌∙◌, arith, append_assoc, ⊎_elim}
use Rattle.std.specs.Prelude.{AllPairs, Contains, fold}
use Rattle.std.proofs.lemmas.Bool.{cond-false, cond-true, false_from_ne_true}
use Rattle.std.proofs.lemmas.List.{append-nil, map-append}
use Rattle.std.proofs.lemmas.List.Elements.{Contains-push_cases, Contains-append_right}
use Rattle.faults.specs.Bytes.{Text, is_among}
use Rattle.ballots.specs.declared.message.Message.{Message}
use Rattle.node.specs.Parcels.{datagrams_of, datagrams_to, each_to}
use Rattle.protocol.specs.State.{Value}
use Rattle.protocol.specs.declared.sends.Send.{Send}
use Rattle.world.specs.Sent.{with_datagram, with_sends}
use Rattle.world.proofs.SentAdditions.{among_is, is_found, texts_alone, texts_in}
use Rattle.one_list.proofs.matching.SpokenMessages.{text_comes}

-- an element of the rest is an element of the whole
pub later : {X : Type 0} (y : X) (xs : List X) (x : X) → Contains xs x → Contains (y ∷ xs) x
later y xs x h = (suc h.0, omega (arith, h.1), h.2)

-- distinct texts that were not sent are appended to those that were sent
pub all_new : (sent texts : List Text) → AllPairs ◌≢◌ texts
    → ((t : Text) → Contains texts t → Contains sent t → ⊥)
    → fold with_datagram sent texts ≡ sent ++ texts
all_new sent [] once new = sym (append-nil sent)
all_new sent (t ∷ ts) once new =
    ap (λ l. fold with_datagram l ts) (cond-false (is_among sent t) sent (sent ++ t ∷ [])
    (false_from_ne_true (is_among sent t) (λ e. new t (zero, omega arith, refl)
    (among_is sent t e))))
    ∙ all_new (sent ++ t ∷ []) ts
    (λ i j d lt within. once (suc i) (suc j) d (omega (arith, lt)) (omega (arith, within)))
    (λ u h there. ⊎_elim (λ old. new u (later t ts u h) old)
    (λ same. once 0 (suc h.0) u (omega arith) (omega (arith, h.1)) (same ∙ sym h.2))
    (Contains-push_cases sent t u there))
    ∙ append_assoc sent (t ∷ []) ts

-- texts that were all sent before add nothing
pub none_new : (sent texts : List Text) → ((t : Text) → Contains texts t → Contains sent t)
    → fold with_datagram sent texts ≡ sent
none_new sent [] all = refl
none_new sent (t ∷ ts) all =
    ap (λ l. fold with_datagram l ts) (cond-true (is_among sent t) sent (sent ++ t ∷ [])
    (is_found sent t (all t (zero, omega arith, refl))))
    ∙ none_new sent ts (λ u h. all u (later t ts u h))

-- texts in two parts
fold_parts : (sent early late : List Text)
    → fold with_datagram sent (early ++ late)
    ≡ fold with_datagram (fold with_datagram sent early) late
fold_parts sent [] late = refl
fold_parts sent (t ∷ ts) late = fold_parts (with_datagram sent t) ts late

texts_first : (z : Send) (zs : List Send)
    → texts_in (z ∷ zs) ≡ datagrams_of z.message ++ texts_in zs
texts_first z zs =
    map-append (λ (s : ℕ × Text). s.1) (each_to (datagrams_of z.message) z.to) (datagrams_to zs)
    ∙ ap (λ l. l ++ texts_in zs) (texts_alone (datagrams_of z.message) z.to)

-- A message with at least one receiver, none of whose datagrams was sent, appends exactly its
-- datagrams.
pub sends_add : (sent : List Text) (m : Message Value) (z : Send) (zs : List Send)
    → ((y : Send) → Contains (z ∷ zs) y → y.message ≡ m)
    → AllPairs ◌≢◌ (datagrams_of m)
    → ((t : Text) → Contains (datagrams_of m) t → Contains sent t → ⊥)
    → with_sends sent (z ∷ zs) ≡ sent ++ datagrams_of m
sends_add sent m z zs is once new =
    ap (fold with_datagram sent) (texts_first z zs
    ∙ ap (λ (n : Message Value). datagrams_of n ++ texts_in zs) (is z (zero, omega arith, refl)))
    ∙ fold_parts sent (datagrams_of m) (texts_in zs)
    ∙ ap (λ l. fold with_datagram l (texts_in zs)) (all_new sent (datagrams_of m) once new)
    ∙ none_new (sent ++ datagrams_of m) (texts_in zs) (λ t h.
    let c = text_comes zs t h in
    Contains-append_right sent (datagrams_of m) t
    (subst (λ (n : Message Value). Contains (datagrams_of n) t)
    (is c.0 (later z zs c.0 c.1)) c.2))

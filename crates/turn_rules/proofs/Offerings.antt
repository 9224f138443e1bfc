-- The calls of a port to which datagrams were offered.
use Rattle.std.proofs.Common.{None, Option, Some, append_assoc, arith, ◌≡◌, ◌∙◌, ◌+◌, ◌<◌, ℕ, List, [], ◌∷◌, ◌++◌, Result, Vec, map, get_or, take, length, refl, sym, ap, subst, suc, zero}
use Rattle.std.specs.Prelude.{All}
use Rattle.std.proofs.lemmas.List.{map-append, map_push, take_more, flat_map_more}
use Rattle.std.specs.declared.alloc.Global.{Global}
use Rattle.faults.specs.Bytes.{Text}
use Rattle.node.specs.Parcels.{each_to, parcels_to, texts_in}
use Rattle.datagram_ports.proofs.Calls.{WentThrough-append}
use Rattle.datagram_ports.specs.Calls.{Call, Sent, WentThrough}
use Rattle.datagram_ports.specs.Kept.{GoesOnBy, Parcel}
use Rattle.datagram_ports.specs.declared.fault.PortFault.{PortFault}
use Rattle.turn_rules.specs.Offered.{Answered, IsSent, WasOffered, parcels_from, sends_of}

-- two appends to a record are one
pub goes_on_more : {X : Type 0} (more later : List X) (a b c : Option (List X)) → GoesOnBy more a b → GoesOnBy later b c → GoesOnBy (more ++ later) a c
goes_on_more more later a b None first then = tt
goes_on_more more later a None (Some zs) first then = absurd then
goes_on_more more later None (Some ys) (Some zs) first then = absurd first
goes_on_more more later (Some xs) (Some ys) (Some zs) first then =
    then ∙ (ap (λ l. l ++ later) first ∙ append_assoc xs more later)

module _ {P : Type 0} (does : P → Call → P → Type 0) where
  -- nothing was offered
  pub none_offered : (p : P) → WasOffered does p [] p
  none_offered p = ([], refl, refl)

  -- one was offered
  pub one_offered : (old new : P) (parcel : Parcel) (answer : Result (Unit {0}) PortFault) → does old (Sent parcel answer) new → WasOffered does old (parcel ∷ []) new
  one_offered old new parcel answer done = ((parcel, answer) ∷ [], refl, (new, done, refl))

  -- these were offered, and then more
  pub more_offered : (old between new : P) (parcels more : List Parcel) → WasOffered does old parcels between → WasOffered does between more new → WasOffered does old (parcels ++ more) new
  more_offered old between new parcels more (before, these, first) (after, those, later) = (
    before ++ after,
    map-append (λ (a : Answered). a.0) before after ∙ (ap (λ xs. xs ++ map (λ (a : Answered). a.0) after) these ∙ ap (λ ys. parcels ++ ys) those),
    subst (λ calls. WentThrough does old calls new) (sym (map-append (λ (a : Answered). Sent a.0 a.1) before after))
        (WentThrough-append does old between new (sends_of before) (sends_of after) first later),
  )

-- one more text for the receiver
pub text_more : (from to : ℕ) (texts : List (Vec ℕ Global)) (i : ℕ) (text : Vec ℕ Global) → i < length texts → text ≡ get_or texts i text
    → parcels_from from (each_to (texts_in (take (i + 1) texts)) to) ≡ parcels_from from (each_to (texts_in (take i texts)) to) ++ record { from = from; to = to; text = text.items } ∷ []
text_more from to texts i text below is =
    ap (λ ts. parcels_from from (each_to (texts_in ts) to)) (take_more texts i text below ∙ ap (λ t. take i texts ++ t ∷ []) (sym is))
    ∙ (ap (λ ts. parcels_from from (each_to ts to)) (map_push (λ (t : Vec ℕ Global). t.items) (take i texts) text)
    ∙ (ap (parcels_from from) (map_push (λ (t : Text). (to, t)) (texts_in (take i texts)) text.items)
    ∙ map_push (λ (s : ℕ × Text). record { from = from; to = s.0; text = s.1 }) (each_to (texts_in (take i texts)) to) (to, text.items)))

-- all texts for one more receiver
pub receiver_more : (from : ℕ) (receivers : List ℕ) (texts : List Text) (i d : ℕ) → i < length receivers
    → parcels_from from (parcels_to (take (i + 1) receivers) texts) ≡ parcels_from from (parcels_to (take i receivers) texts) ++ parcels_from from (each_to texts (get_or receivers i d))
receiver_more from receivers texts i d below =
    ap (λ rs. parcels_from from (parcels_to rs texts)) (take_more receivers i d below)
    ∙ (ap (parcels_from from) (sym (flat_map_more (each_to texts) [] (take i receivers) (get_or receivers i d)))
    ∙ map-append (λ (s : ℕ × Text). record { from = from; to = s.0; text = s.1 }) (parcels_to (take i receivers) texts) (each_to texts (get_or receivers i d)))

-- ---- what is sent

-- the place of a text among the datagrams to one receiver, which others follow
at_text : (to : ℕ) (texts : List (Vec ℕ Global)) (rest : List (ℕ × Text)) (k : ℕ) (d : Vec ℕ Global) (x : ℕ × Text) → k < length texts
    → get_or (each_to (texts_in texts) to ++ rest) k x ≡ (to, (get_or texts k d).items)
at_text to [] rest k d x within = absurd (omega (arith, within))
at_text to (t ∷ ts) rest zero d x within = refl
at_text to (t ∷ ts) rest (suc k) d x within = at_text to ts rest k d x (omega (arith, within))

-- that place exists
is_place : (to : ℕ) (texts : List (Vec ℕ Global)) (rest : List (ℕ × Text)) (k : ℕ) → k < length texts → k < length (each_to (texts_in texts) to ++ rest)
is_place to [] rest k within = absurd (omega (arith, within))
is_place to (t ∷ ts) rest zero within = omega arith
is_place to (t ∷ ts) rest (suc k) within = let later = is_place to ts rest k (omega (arith, within)) in omega (arith, later)

-- if there is a receiver, each of the texts is sent
pub each_is_sent : (receivers : List ℕ) (texts : List (Vec ℕ Global)) (i : ℕ) → i < length receivers
    → All (λ (t : Vec ℕ Global). IsSent (parcels_to receivers (texts_in texts)) t.items) texts
each_is_sent [] texts i within = absurd (omega (arith, within))
each_is_sent (to ∷ others) texts i within = λ k d below.
    let rest = parcels_to others (texts_in texts) in
    let x : ℕ × Text = (to, (get_or texts k d).items) in
    (k, x, is_place to texts rest k below, at_text to texts rest k d x below, refl)

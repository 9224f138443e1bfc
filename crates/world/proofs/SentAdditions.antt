-- What sends add to the datagrams that were sent.
use Rattle.std.proofs.Common.{◌≡◌, ◌≢◌, ◌<◌, ◌⊎◌, ℕ, zero, suc, Bool, true, false, cond, List, [], ◌∷◌, ◌++◌, length, get_or, refl, sym, ap, subst, ◌∙◌, arith, append_assoc, inl, inr, ⊎_elim}
use Rattle.std.specs.Prelude.{AllPairs, Contains, fold, map}
use Rattle.std.specs.Str.{bytes_eq}
use Rattle.std.proofs.lemmas.Bool.{cond_both, true≢false}
use Rattle.std.proofs.lemmas.List.{append-nil}
use Rattle.std.proofs.lemmas.List.Elements.{Contains-append_left, Contains-push, Contains-push_cases}
use Rattle.std.proofs.lemmas.List.Folds.{Any-from_list_any, list_any_at}
use Rattle.std.proofs.lemmas.List.Quantifiers.{all_pairs_push}
use Rattle.faults.specs.Bytes.{Text, is_among}
use Rattle.engine.proofs.Places.{equal_bytes, same_bytes}
use Rattle.node.specs.Parcels.{datagrams_to, each_to}
use Rattle.protocol.specs.declared.sends.Send.{Send}
use Rattle.world.specs.Sent.{with_datagram, with_sends}

-- a text is found among these if and only if it is one of them
pub among_is : (texts : List Text) (t : Text) → is_among texts t ≡ true → Contains texts t
among_is texts t h =
    let a = Any-from_list_any (λ u. bytes_eq u t) texts h in
    (a.0, a.2, subst (λ u. get_or texts a.0 u ≡ u) (same_bytes a.1 t a.4) a.3)

pub is_found : (texts : List Text) (t : Text) → Contains texts t → is_among texts t ≡ true
is_found texts t h =
    list_any_at (λ u. bytes_eq u t) texts h.0 t h.1 (equal_bytes (get_or texts h.0 t) t h.2)

-- a datagram that is sent is appended, or is there already
datagram_behind : (sent : List Text) (t : Text) → (more : List Text)
    × (with_datagram sent t ≡ sent ++ more)
datagram_behind sent t = by_case (is_among sent t)
  where
    by_case : (b : Bool) → (more : List Text) × (cond b sent (sent ++ t ∷ []) ≡ sent ++ more)
    by_case true = ([], sym (append-nil sent))
    by_case false = (t ∷ [], refl)

datagram_there : (sent : List Text) (t : Text) → Contains (with_datagram sent t) t
datagram_there sent t =
    cond_both (is_among sent t) sent (sent ++ t ∷ []) (λ l. Contains l t) (λ e. among_is sent t e)
    (λ e. Contains-push sent t)

datagram_comes : (sent : List Text) (t u : Text) → Contains (with_datagram sent t) u
    → Contains sent u ⊎ (t ≡ u)
datagram_comes sent t u =
    cond_both (is_among sent t) sent (sent ++ t ∷ [])
    (λ l. Contains l u → Contains sent u ⊎ (t ≡ u)) (λ e h. inl h)
    (λ e h. Contains-push_cases sent t u h)

-- what was sent before keeps its place, and these are appended
pub texts_behind : (sent texts : List Text) → (more : List Text)
    × (fold with_datagram sent texts ≡ sent ++ more)
texts_behind sent [] = ([], sym (append-nil sent))
texts_behind sent (t ∷ ts) =
    let one = datagram_behind sent t in
    let rest = texts_behind (with_datagram sent t) ts in
    (one.0 ++ rest.0, rest.1 ∙ ap (λ l. l ++ rest.0) one.1 ∙ append_assoc sent one.0 rest.0)

pub texts_stay : (sent texts : List Text) (t : Text) → Contains sent t
    → Contains (fold with_datagram sent texts) t
texts_stay sent texts t h =
    let g = texts_behind sent texts in subst (λ l. Contains l t) (sym g.1)
    (Contains-append_left sent g.0 t h)

-- each of these was sent then
pub texts_there : (sent texts : List Text) (t : Text) → Contains texts t
    → Contains (fold with_datagram sent texts) t
texts_there sent [] t (k, within, e) = absurd (omega arith)
texts_there sent (x ∷ xs) t (zero, within, e) = subst (Contains (fold with_datagram sent (x ∷ xs)))
    e (texts_stay (with_datagram sent x) xs x (datagram_there sent x))
texts_there sent (x ∷ xs) t (suc k, within, e) =
    texts_there (with_datagram sent x) xs t (k, omega (arith, within), e)

-- nothing else was sent
pub texts_come : (sent texts : List Text) (t : Text) → Contains (fold with_datagram sent texts) t
    → Contains sent t ⊎ Contains texts t
texts_come sent [] t h = inl h
texts_come sent (x ∷ xs) t h = ⊎_elim
    (λ early. ⊎_elim (λ old. inl old) (λ new. inr (zero, omega arith, new))
    (datagram_comes sent x t early))
    (λ late. inr (suc late.0, omega (arith, late.1), late.2))
    (texts_come (with_datagram sent x) xs t h)

-- no datagram is listed twice
datagram_once : (sent : List Text) (t : Text) → AllPairs ◌≢◌ sent
    → AllPairs ◌≢◌ (with_datagram sent t)
datagram_once sent t once =
    cond_both (is_among sent t) sent (sent ++ t ∷ []) (AllPairs ◌≢◌) (λ e. once)
    (λ e. all_pairs_push ◌≢◌ sent t once (λ k d within same. true≢false
    (sym (is_found sent t (k, within, get_or_any sent k t d within ∙ same)) ∙ e)))
  where
    get_or_any : (l : List Text) (k : ℕ) (d e : Text) → k < length l → get_or l k d ≡ get_or l k e
    get_or_any [] k d e within = absurd (omega arith)
    get_or_any (x ∷ xs) zero d e within = refl
    get_or_any (x ∷ xs) (suc k) d e within = get_or_any xs k d e (omega (arith, within))

pub texts_once : (sent texts : List Text) → AllPairs ◌≢◌ sent
    → AllPairs ◌≢◌ (fold with_datagram sent texts)
texts_once sent [] once = once
texts_once sent (t ∷ ts) once = texts_once (with_datagram sent t) ts (datagram_once sent t once)

-- what goes to one receiver, without the receiver
pub texts_alone : (texts : List Text) (to : ℕ)
    → map (λ (s : ℕ × Text). s.1) (each_to texts to) ≡ texts
texts_alone [] to = refl
texts_alone (t ∷ ts) to = ap (λ l. t ∷ l) (texts_alone ts to)

-- ---- the same for sends

-- the datagrams of these sends
abbrev pub texts_in : List Send → List Text
texts_in sends = map (λ s. s.1) (datagrams_to sends)

pub sends_behind : (sent : List Text) (sends : List Send) → (more : List Text)
    × (with_sends sent sends ≡ sent ++ more)
sends_behind sent sends = texts_behind sent (texts_in sends)

pub sends_stay : (sent : List Text) (sends : List Send) (t : Text) → Contains sent t
    → Contains (with_sends sent sends) t
sends_stay sent sends t h = texts_stay sent (texts_in sends) t h

pub sends_there : (sent : List Text) (sends : List Send) (t : Text) → Contains (texts_in sends) t
    → Contains (with_sends sent sends) t
sends_there sent sends t h = texts_there sent (texts_in sends) t h

pub sends_come : (sent : List Text) (sends : List Send) (t : Text)
    → Contains (with_sends sent sends) t → Contains sent t ⊎ Contains (texts_in sends) t
sends_come sent sends t h = texts_come sent (texts_in sends) t h

pub sends_once : (sent : List Text) (sends : List Send) → AllPairs ◌≢◌ sent
    → AllPairs ◌≢◌ (with_sends sent sends)
sends_once sent sends once = texts_once sent (texts_in sends) once

-- What is entered in the table is appended, and is there only once.
use Rattle.std.proofs.Common.{◌≡◌, ◌≤◌, ℕ, zero, suc, Bool, true, false, cond, List, [], ◌∷◌, ◌++◌, length, map, take, fold, refl, sym, ap, ◌∙◌, arith}
use Rattle.std.specs.Prelude.{Contains}
use Rattle.std.specs.List.{list_any}
use Rattle.std.specs.Str.{bytes_eq}
use Rattle.std.specs.Cmp.Lexicographic.{nat_list_eq_equiv}
use Rattle.std.proofs.lemmas.Bool.{cond-true}
use Rattle.std.proofs.lemmas.List.{length-take, map-append, take-take, take_all, take_at}
use Rattle.std.proofs.lemmas.List.Sums.{fold-append}
use Rattle.faults.specs.Bytes.{Text, is_among}
use Rattle.indexmap.specs.IndexSet.{insert_key}
use Rattle.node.specs.Parcels.{each_to, parcels_to}
use Rattle.world.specs.Sent.{with_datagram}
use Rattle.world.proofs.SentAdditions.{is_found, texts_alone, texts_there}
use Rattle.world.specs.Growing.{HasGrown}

-- ---- growing

-- prefixes are transitive
pub grown_on : (a b c : List Text) → HasGrown a b → HasGrown b c → HasGrown a c
grown_on a b c ab bc =
    let less : length a ≤ length b = omega (arith, length-take (length a) b, ap length ab) in
    sym (take-take (length a) (length b) c less) ∙ ap (take (length a)) bc ∙ ab

pub grown_none : (a : List Text) → HasGrown a a
grown_none a = take_all (length a) a (omega arith)

-- entering one more appends it
pub grown_text : (a : List Text) (text : Text) → HasGrown a (with_datagram a text)
grown_text a text = by (is_among a text)
  where
    by : (b : Bool) → HasGrown a (cond b a (a ++ text ∷ []))
    by true = grown_none a
    by false = take_at a (text ∷ []) (length a) refl

-- ---- a datagram

-- a key equals the text if the text is among the keys
pub among_keys : (text : Text) (keys : List Text)
    → list_any (bytes_eq text) keys ≡ is_among keys text
among_keys text [] = refl
among_keys text (k ∷ keys) = rw (nat_list_eq_equiv.symm text k, among_keys text keys) refl

-- inserting a key in a table is entering a datagram in the list of those sent
pub key_entered : (keys : List Text) (text : Text)
    → insert_key bytes_eq keys text ≡ with_datagram keys text
key_entered keys text =
    ap (λ b. cond b keys (keys ++ text ∷ [])) (among_keys text keys)

-- ---- datagrams to several receivers

-- entering datagrams that are all there adds nothing
all_there : (sent texts : List Text) → ((t : Text) → Contains texts t → Contains sent t)
    → fold with_datagram sent texts ≡ sent
all_there sent [] there = refl
all_there sent (t ∷ ts) there =
    let here : with_datagram sent t ≡ sent =
    cond-true (is_among sent t) sent (sent ++ t ∷ [])
    (is_found sent t (there t (zero, omega arith, refl))) in
    ap (λ s. fold with_datagram s ts) here
    ∙ all_there sent ts (λ u m. there u (suc m.0, omega (arith, m.1), m.2))

-- so nothing is added for another receiver
for_more : (sent texts : List Text) (receivers : List ℕ)
    → fold with_datagram (fold with_datagram sent texts)
    (map (λ s. s.1) (parcels_to receivers texts)) ≡ fold with_datagram sent texts
for_more sent texts [] = refl
for_more sent texts (r ∷ rs) =
    let then = fold with_datagram sent texts in
    let others = map (λ (s : ℕ × Text). s.1) (parcels_to rs texts) in
    ap (fold with_datagram then)
    (map-append (λ (s : ℕ × Text). s.1) (each_to texts r) (parcels_to rs texts)
    ∙ ap (λ l. l ++ others) (texts_alone texts r))
    ∙ fold-append with_datagram then texts others
    ∙ ap (λ s. fold with_datagram s others)
    (all_there then texts (λ t m. texts_there sent texts t m))
    ∙ for_more sent texts rs

-- If there is a receiver, sending to all of them enters the same as sending to one.
pub once_for_all : (sent texts : List Text) (receivers : List ℕ) → (length receivers ≡ 0 → ⊥)
    → fold with_datagram sent texts
    ≡ fold with_datagram sent (map (λ s. s.1) (parcels_to receivers texts))
once_for_all sent texts [] some = absurd (some refl)
once_for_all sent texts (r ∷ rs) some =
    let others = map (λ (s : ℕ × Text). s.1) (parcels_to rs texts) in
    sym (ap (fold with_datagram sent)
    (map-append (λ (s : ℕ × Text). s.1) (each_to texts r) (parcels_to rs texts)
    ∙ ap (λ l. l ++ others) (texts_alone texts r))
    ∙ fold-append with_datagram sent texts others
    ∙ for_more sent texts rs)

-- If there is none, nothing is sent.
pub nobody : (sent texts : List Text) (receivers : List ℕ) → length receivers ≡ 0
    → sent ≡ fold with_datagram sent (map (λ s. s.1) (parcels_to receivers texts))
nobody sent texts [] none = refl
nobody sent texts (r ∷ rs) none = absurd (omega (arith, none))

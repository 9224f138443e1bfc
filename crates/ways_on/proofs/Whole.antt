-- Pieces that arrive in order, among pieces of other messages, complete their message when the last
-- arrives, and not before.
use Rattle.std.proofs.Common.{◌≡◌, ◌<◌, ◌≤◌, ◌+◌, ◌⊎◌, ◌&&◌, ◌||◌, ◌==◌, ℕ, zero, suc, Bool, true, false, not, cond, filter, map, List, [], ◌∷◌, ◌++◌, refl, sym, ap, subst, ◌∙◌, inl, inr, ⊎_elim, arith, eq-eqb}
use Rattle.std.specs.Prelude.{Contains}
use Rattle.std.specs.List.{list_any, range_with_len}
use Rattle.std.proofs.lemmas.Bool.{and_from, cases_eq, false_from_ne_true, ne_eqb, or_right}
use Rattle.std.proofs.lemmas.List.Elements.{filter-append}
use Rattle.std.proofs.lemmas.List.Folds.{list_any-append}
use Rattle.std.proofs.lemmas.List.{append-nil}
use Rattle.claims.specs.Claims.{claim_same}
use Rattle.claims.specs.declared.claim.Claim.{Claim}
use Rattle.faults.specs.Bytes.{Text}
use Rattle.engine.proofs.Places.{equal_bytes}
use Rattle.wire.specs.Joining.{is_numbered, same_carrier, same_header}
use Rattle.wire.specs.Pieces.{piece_at}
use Rattle.wire.specs.declared.datagram.Carrier.{Carrier}
use Rattle.wire.specs.declared.datagram.Carrier.TheVariants as carriers
use Rattle.wire.specs.declared.datagram.Header.{Header}
use Rattle.wire.specs.declared.datagram.Piece.{Piece}
use Rattle.one_list.proofs.sent.ArrivedMessages.{headers_same}

-- ---- a header equals itself

claim_itself : (c : Claim) → claim_same c c ≡ true
claim_itself c = and_from _ _ (eq-eqb c.round c.round refl) (eq-eqb c.member c.member refl)

carrier_itself : (c : Carrier) → same_carrier c c ≡ true
carrier_itself (carriers.Promise c d) = and_from _ _ (claim_itself c) (claim_itself d)
carrier_itself (carriers.Propose c) = claim_itself c
carrier_itself carriers.Agreed = refl

pub header_itself : (h : Header) → same_header h h ≡ true
header_itself h =
    and_from _ _ (and_from _ _ (and_from _ _ (and_from _ _ (eq-eqb h.sender h.sender refl)
    (equal_bytes h.tree h.tree refl)) (equal_bytes h.path h.path refl)) (carrier_itself h.carrier))
    (eq-eqb h.length h.length refl)

-- ---- lists of which no element passes a test, or every element does

module _ {X : Type 0} (t : X → Bool) where
  none_any : (xs : List X) → ((x : X) → Contains xs x → t x ≡ false) → list_any t xs ≡ false
  none_any [] off = refl
  none_any (x ∷ xs) off =
      ap (λ b. b || list_any t xs) (off x (zero, omega arith, refl))
      ∙ none_any xs (λ y h. off y (suc h.0, omega (arith, h.1), h.2))

  none_kept : (xs : List X) → ((x : X) → Contains xs x → t x ≡ false) → filter t xs ≡ []
  none_kept [] off = refl
  none_kept (x ∷ xs) off =
      ap (λ b. cond b (x ∷ filter t xs) (filter t xs)) (off x (zero, omega arith, refl))
      ∙ none_kept xs (λ y h. off y (suc h.0, omega (arith, h.1), h.2))

  all_kept : (xs : List X) → ((x : X) → Contains xs x → t x ≡ true) → filter t xs ≡ xs
  all_kept [] on = refl
  all_kept (x ∷ xs) on =
      ap (λ b. cond b (x ∷ filter t xs) (filter t xs)) (on x (zero, omega arith, refl))
      ∙ ap (λ (l : List X). x ∷ l) (all_kept xs (λ y h. on y (suc h.0, omega (arith, h.1), h.2)))

module _ (h : Header) (text : Text) where
  -- the piece with this number
  abbrev f : ℕ → Piece
  f = piece_at h text

  -- ---- the pieces from number a on

  numbered_here : (k : ℕ) → is_numbered h k (f k) ≡ true
  numbered_here k = and_from (k == k) (same_header h h) (eq-eqb k k refl) (header_itself h)

  numbered_not : (a k : ℕ) → (a ≡ k → ⊥) → is_numbered h k (f a) ≡ false
  numbered_not a k ne = ap (λ b. b && same_header h h) (ne_eqb a k ne)

  not_among : (k a c : ℕ) → (k < a) ⊎ (a + c ≤ k)
      → list_any (is_numbered h k) (map f (range_with_len a c)) ≡ false
  not_among k a zero out = refl
  not_among k a (suc c) out =
      ap (λ b. b || list_any (is_numbered h k) (map f (range_with_len (a + 1) c)))
      (numbered_not a k (λ e. ⊎_elim (λ lt. omega (arith, lt, e)) (λ ge. omega (arith, ge, e)) out))
      ∙ not_among k (a + 1) c (⊎_elim (λ lt. inl (omega (arith, lt))) (λ ge. inr (omega (arith, ge)))
      out)

  is_among_them : (k a c : ℕ) → a ≤ k → k < a + c
      → list_any (is_numbered h k) (map f (range_with_len a c)) ≡ true
  is_among_them k a zero from to = absurd (omega (arith, from, to))
  is_among_them k a (suc c) from to = ⊎_elim
      (λ here. ap (λ b. b || list_any (is_numbered h k) (map f (range_with_len (a + 1) c)))
      (subst (λ j. is_numbered h k (f j) ≡ true) (sym here) (numbered_here k)))
      (λ other. or_right (is_numbered h k (f a))
      (list_any (is_numbered h k) (map f (range_with_len (a + 1) c)))
      (is_among_them k (a + 1) c (omega (arith, from, other)) (omega (arith, to))))
      (cases_eq a k)

  not_kept : (k a c : ℕ) → (k < a) ⊎ (a + c ≤ k)
      → filter (is_numbered h k) (map f (range_with_len a c)) ≡ []
  not_kept k a zero out = refl
  not_kept k a (suc c) out =
      ap (λ b. cond b (f a ∷ filter (is_numbered h k) (map f (range_with_len (a + 1) c)))
      (filter (is_numbered h k) (map f (range_with_len (a + 1) c))))
      (numbered_not a k (λ e. ⊎_elim (λ lt. omega (arith, lt, e)) (λ ge. omega (arith, ge, e)) out))
      ∙ not_kept k (a + 1) c (⊎_elim (λ lt. inl (omega (arith, lt))) (λ ge. inr (omega (arith, ge)))
      out)

  kept_once : (k a c : ℕ) → a ≤ k → k < a + c
      → filter (is_numbered h k) (map f (range_with_len a c)) ≡ f k ∷ []
  kept_once k a zero from to = absurd (omega (arith, from, to))
  kept_once k a (suc c) from to = ⊎_elim
      (λ here.
      ap (λ b. cond b (f a ∷ filter (is_numbered h k) (map f (range_with_len (a + 1) c)))
      (filter (is_numbered h k) (map f (range_with_len (a + 1) c))))
      (subst (λ j. is_numbered h k (f j) ≡ true) (sym here) (numbered_here k))
      ∙ ap (λ (l : List Piece). f a ∷ l) (not_kept k (a + 1) c (inl (omega (arith, here))))
      ∙ ap (λ j. f j ∷ []) here)
      (λ other.
      ap (λ b. cond b (f a ∷ filter (is_numbered h k) (map f (range_with_len (a + 1) c)))
      (filter (is_numbered h k) (map f (range_with_len (a + 1) c)))) (numbered_not a k other)
      ∙ kept_once k (a + 1) c (omega (arith, from, other)) (omega (arith, to)))
      (cases_eq a k)

  all_dropped : (a c : ℕ)
      → filter (λ (p : Piece). not (same_header h p.header)) (map f (range_with_len a c)) ≡ []
  all_dropped a zero = refl
  all_dropped a (suc c) =
      ap (λ b. cond (not b) (f a ∷ filter (λ (p : Piece). not (same_header h p.header))
      (map f (range_with_len (a + 1) c)))
      (filter (λ (p : Piece). not (same_header h p.header)) (map f (range_with_len (a + 1) c))))
      (header_itself h)
      ∙ all_dropped (a + 1) c

  -- ---- among pieces of other messages

  module _ (old : List Piece) (none : (p : Piece) → Contains old p → p.header ≡ h → ⊥) where
    -- these pieces, and the first i of the message
    abbrev pub with_first : ℕ → List Piece
    with_first i = old ++ map f (range_with_len 0 i)

    other : (p : Piece) → Contains old p → same_header h p.header ≡ false
    other p there = false_from_ne_true (same_header h p.header)
        (λ e. none p there (sym (headers_same h p.header e)))

    other_number : (k : ℕ) (p : Piece) → Contains old p → is_numbered h k p ≡ false
    other_number k p there = ap (λ b. (p.number == k) && b) (other p there) ∙ and_off (p.number == k)
      where
        and_off : (b : Bool) → (b && false) ≡ false
        and_off true = refl
        and_off false = refl

    -- the piece with number k is not among them before it arrived
    pub lacks : (i k : ℕ) → i ≤ k → list_any (is_numbered h k) (with_first i) ≡ false
    lacks i k le =
        list_any-append (is_numbered h k) old (map f (range_with_len 0 i))
        ∙ ap (λ b. b || list_any (is_numbered h k) (map f (range_with_len 0 i)))
        (none_any (is_numbered h k) old (other_number k))
        ∙ not_among k 0 i (inr (omega (arith, le)))

    -- it is among them after it arrived
    pub has : (i k : ℕ) → k < i → list_any (is_numbered h k) (with_first i) ≡ true
    has i k lt =
        list_any-append (is_numbered h k) old (map f (range_with_len 0 i))
        ∙ or_right (list_any (is_numbered h k) old)
        (list_any (is_numbered h k) (map f (range_with_len 0 i)))
        (is_among_them k 0 i (omega arith) (omega (arith, lt)))

    -- it is there only once
    pub once : (i k : ℕ) → k < i → filter (is_numbered h k) (with_first i) ≡ f k ∷ []
    once i k lt =
        filter-append (is_numbered h k) old (map f (range_with_len 0 i))
        ∙ ap (λ l. l ++ filter (is_numbered h k) (map f (range_with_len 0 i)))
        (none_kept (is_numbered h k) old (other_number k))
        ∙ kept_once k 0 i (omega arith) (omega (arith, lt))

    -- without the message's pieces, those of other messages remain
    pub left : (i : ℕ)
        → filter (λ (p : Piece). not (same_header h p.header)) (with_first i) ≡ old
    left i =
        filter-append (λ (p : Piece). not (same_header h p.header)) old
        (map f (range_with_len 0 i))
        ∙ ap (λ l. l ++ filter (λ (p : Piece). not (same_header h p.header))
        (map f (range_with_len 0 i)))
        (all_kept (λ (p : Piece). not (same_header h p.header)) old
        (λ p there. ap not (other p there)))
        ∙ ap (λ l. old ++ l) (all_dropped 0 i)
        ∙ append-nil old

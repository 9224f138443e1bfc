-- Which pieces are kept.
use Rattle.std.proofs.Common.{◌≡◌, ◌==◌, ◌&&◌, ◌||◌, ℕ, Bool, true, false, List, [], ◌∷◌, eq-eqb, refl, sym, ◌∙◌}
use Rattle.std.specs.Str.{bytes_eq}
use Rattle.std.proofs.lemmas.List.Folds.{list_any-append}
use Rattle.std.proofs.lemmas.Slice.Eq.{bytes_eq-Decides}
use Rattle.claims.specs.Claims.{claim_same}
use Rattle.claims.specs.declared.claim.Claim.{Claim}
use Rattle.wire.specs.Joining.{is_numbered, same_carrier, same_header}
use Rattle.wire.specs.declared.datagram.Carrier.{Carrier}
use Rattle.wire.specs.declared.datagram.Carrier.TheVariants as carriers
use Rattle.wire.specs.declared.datagram.Header.{Header}
use Rattle.wire.specs.declared.datagram.Piece.{Piece}
use Rattle.node.specs.Kept.{has_number, with_piece}

both : (a b : Bool) → a ≡ true → b ≡ true → (a && b) ≡ true
both a b p q = rw (p, q) refl

same_claim : (c : Claim) → claim_same c c ≡ true
same_claim c = both (c.round == c.round) (c.member == c.member) (eq-eqb c.round c.round refl) (eq-eqb c.member c.member refl)

carrier_itself : (c : Carrier) → same_carrier c c ≡ true
carrier_itself (carriers.Promise c d) = both (claim_same c c) (claim_same d d) (same_claim c) (same_claim d)
carrier_itself (carriers.Propose c) = same_claim c
carrier_itself carriers.Agreed = refl

-- each header equals itself
pub header_itself : (h : Header) → same_header h h ≡ true
header_itself h =
    let bytes : (t : List ℕ) → bytes_eq t t ≡ true = λ t. (bytes_eq-Decides t t).1 refl in
    let carrier = carrier_itself h.carrier in
    let sender : (h.sender == h.sender) ≡ true = eq-eqb h.sender h.sender refl in
    let size : (h.length == h.length) ≡ true = eq-eqb h.length h.length refl in
    both _ _ (both _ _ (both _ _ (both _ _ sender (bytes h.tree)) (bytes h.path)) carrier) size

or_true : (a b : Bool) → b ≡ true → (a || (b || false)) ≡ true
or_true true b e = refl
or_true false b e = rw e refl

-- a piece is among those with it added
pub with_it : (pieces : List Piece) (p : Piece) (k : ℕ) → k ≡ p.number → has_number p.header (with_piece pieces p) k ≡ true
with_it pieces p k e =
    let same : is_numbered p.header k p ≡ true = both (p.number == k) (same_header p.header p.header) (eq-eqb p.number k (sym e)) (header_itself p.header) in
    list_any-append (is_numbered p.header k) pieces (p ∷ []) ∙ or_true (has_number p.header pieces k) (is_numbered p.header k p) same

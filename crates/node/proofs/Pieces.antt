-- The pieces that a node keeps.
use Rattle.std.proofs.Common.{◌≡◌, ◌&&◌, ◌||◌, ◌++◌, ℕ, suc, All, AllPairs, Bool, true, false, not, List, [], ◌∷◌, arith, filter, refl, subst, ap, None, Some, Ok, if◌then◌else◌}
use Rattle.std.specs.List.{list_all}
use Rattle.std.proofs.lemmas.List.Elements.{All-append, All-cons, All-filter, All-nil}
use Rattle.std.proofs.lemmas.List.Kept.{AllPairs-cons, AllPairs-filter}
use Rattle.faults.specs.Bytes.{Text}
use Rattle.ballots.specs.declared.message.Body.{Body}
use Rattle.ballots.specs.declared.message.Body.TheVariants as bodies
use Rattle.ballots.specs.declared.message.Message.{Message}
use Rattle.package_record.proofs.BuildsTaken.{whole_build_taken as build_taken}
use Rattle.package_record.specs.BuildReading.{whole_build_of}
use Rattle.protocol.specs.State.{State, Value}
use Rattle.wire.proofs.FieldTexts.{whole_build_taken}
use Rattle.wire.proofs.Steps.{bind_ok, ok_is}
use Rattle.wire.specs.Joining.{is_numbered, same_header}
use Rattle.wire.specs.Messages.{IsBody, IsBuildOf, IsGoodBody}
use Rattle.wire.specs.Pieces.{IsCarrier, IsHeader, IsPiece, body_with, message_with}
use Rattle.wire.specs.Reading.{build_in, joined}
use Rattle.wire.specs.declared.datagram.Carrier.{Carrier}
use Rattle.wire.specs.declared.datagram.Carrier.TheVariants as carriers
use Rattle.wire.specs.declared.datagram.Header.{Header}
use Rattle.wire.specs.declared.datagram.Piece.{Piece}
use Rattle.node.specs.Arrival.{refusal_of}
use Rattle.node.specs.Kept.{has_number, with_piece, without}
use Rattle.node.specs.inside.Stepping.{AreKept}

-- the second piece differs from the first
abbrev pub Differ : Piece → Piece → Type 0
Differ p q = is_numbered q.header q.number p ≡ false

-- no two of these are equal
abbrev pub AreDifferent : List Piece → Type 0
AreDifferent pieces = AllPairs Differ pieces

-- a test of those that are kept, as a test of all
pub all_numbered : (f p : ℕ → Bool) (xs : List ℕ) → list_all f (filter p xs) ≡ list_all (λ k. not (p k) || f k) xs
all_numbered f p [] = refl
all_numbered f p (x ∷ xs) = by (p x) (all_numbered f p xs)
  where
    by : (b : Bool) → list_all f (filter p xs) ≡ list_all (λ k. not (p k) || f k) xs
        → list_all f (if b then x ∷ filter p xs else filter p xs) ≡ ((not b || f x) && list_all (λ k. not (p k) || f k) xs)
    by true rest = ap (λ b. f x && b) rest
    by false rest = rest

-- what is left without some of them are pieces
pub without_pieces : (h : Header) (pieces : List Piece) → All IsPiece pieces → All IsPiece (without h pieces)
without_pieces h pieces are = All-filter _ IsPiece pieces are

pub without_once : (h : Header) (pieces : List Piece) → AreDifferent pieces → AreDifferent (without h pieces)
without_once h pieces once = AllPairs-filter Differ (λ p. not (same_header h p.header)) pieces once

-- with one added they are pieces
pub with_pieces : (pieces : List Piece) (p : Piece) → All IsPiece pieces → IsPiece p → All IsPiece (with_piece pieces p)
with_pieces pieces p are is = All-append IsPiece pieces (p ∷ []) are (All-cons IsPiece p [] is (All-nil IsPiece))

neither : (a b : Bool) → (a || b) ≡ false → (a ≡ false) × (b ≡ false)
neither true b e = absurd (let no : true ≡ false = e in cc)
neither false b e = (refl, e)

-- with a new one added, no two are equal
pub with_once : (pieces : List Piece) (p : Piece) → AreDifferent pieces → has_number p.header pieces p.number ≡ false → AreDifferent (with_piece pieces p)
with_once [] p once new = AllPairs-cons Differ p [] (All-nil (Differ p)) (λ i j d lt within. absurd (omega (arith, within)))
with_once (q ∷ qs) p once new =
    let here = neither (is_numbered p.header p.number q) (has_number p.header qs p.number) new in
    AllPairs-cons Differ q (qs ++ p ∷ [])
    (All-append (Differ q) qs (p ∷ []) (λ k d lt. once 0 (suc k) d (omega arith) (omega (arith, lt))) (All-cons (Differ q) p [] here.0 (All-nil (Differ q))))
    (with_once qs p (λ i j d lt within. once (suc i) (suc j) d (omega (arith, lt)) (omega (arith, within))) here.1)

body_good : (name : Text) (c : Carrier) (v : Value) → IsCarrier c → IsBuildOf name v → IsGoodBody name (body_with c v)
body_good name (carriers.Promise c d) v carrier build = (carrier.0.round, (carrier.1.round, build))
body_good name (carriers.Propose c) v carrier build = (carrier.round, build)
body_good name carriers.Agreed v carrier build = build

-- a message that pieces join to has its rounds in range, and a build of its unit
pub joined_good : (h : Header) (text : Text) (m : Message Value) → IsHeader h → joined h text ≡ Ok m → IsGoodBody m.path m.body
joined_good h text m good e =
    let a = bind_ok (build_in h.path (whole_build_of text)) (λ v. Ok (message_with h v)) m e in
    let v = whole_build_taken build_taken h.path text a.0 a.1 in
    subst (λ (m : Message Value). IsGoodBody m.path m.body) (ok_is (message_with h a.0) m a.2) (body_good h.path h.carrier a.0 good.carrier v.0)

-- and so has a message that can be encoded
pub message_good : (name : Text) (body : Body Value) → IsBody name body → IsGoodBody name body
message_good name (bodies.Offer c) is = is.round
message_good name (bodies.Promise c None) is = (is.0.round, tt)
message_good name (bodies.Promise c (Some vote)) is = (is.0.round, (is.1.0.round, is.1.1))
message_good name (bodies.Propose c v) is = (is.0.round, is.1)
message_good name (bodies.Vote c) is = is.round
message_good name (bodies.Agreed v) is = is
message_good name bodies.Ask is = tt
message_good name (bodies.Nay c p) is = (is.0.round, is.1.round)

-- the pieces of other messages are still valid
pub others_kept : (s : State) (h : Header) (pieces : List Piece) → AreKept s pieces → AreKept s (without h pieces)
others_kept s h pieces kept = record {
  each = without_pieces h pieces kept.each;
  once = without_once h pieces kept.once;
  let_through = All-filter _ (λ p. refusal_of s p.header ≡ None) pieces kept.let_through;
}

-- and so are those with a new one
pub new_kept : (s : State) (pieces : List Piece) (p : Piece) → AreKept s pieces → IsPiece p → has_number p.header pieces p.number ≡ false → refusal_of s p.header ≡ None
    → AreKept s (with_piece pieces p)
new_kept s pieces p kept is new through = record {
  each = with_pieces pieces p kept.each is;
  once = with_once pieces p kept.once new;
  let_through = All-append (λ p. refusal_of s p.header ≡ None) pieces (p ∷ []) kept.let_through
      (All-cons (λ p. refusal_of s p.header ≡ None) p [] through (All-nil (λ p. refusal_of s p.header ≡ None)));
}

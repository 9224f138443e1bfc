-- The text of a vote differs from that of every other message.
use Rattle.std.proofs.Common.{◌≡◌, ◌+◌, ℕ, zero, suc, List, [], ◌∷◌, ◌++◌, length, drop, Option, None, Some, slice_get, refl, sym, ap, subst, ◌∙◌, arith}
use Rattle.std.specs.Int.{bytes_high_first}
use Rattle.std.specs.Prelude.{Contains}
use Rattle.std.proofs.lemmas.List.{length-append}
use Rattle.faults.specs.Bytes.{Text}
use Rattle.claims.specs.declared.claim.Claim.{Claim}
use Rattle.ballots.specs.declared.message.Body.{Body}
use Rattle.ballots.specs.declared.message.Body.TheVariants as bodies
use Rattle.ballots.specs.declared.message.Message.{Message}
use Rattle.claims.specs.Claim.{IsClaim}
use Rattle.package_record.specs.Build.{build_text}
use Rattle.protocol.specs.State.{Value}
use Rattle.wire.specs.Messages.{IsBody, IsMessage}
use Rattle.wire.specs.Pieces.{carried_in, header_with, numbers_of, piece_at, split_by, split_of}
use Rattle.wire.specs.Reading.{claim_at}
use Rattle.wire.specs.Spelling.{body_text, claim_text, datagram_text, kind_of, message_text, path_text}
use Rattle.wire.specs.declared.datagram.Carrier.{Carrier}
use Rattle.wire.specs.declared.datagram.Datagram.{Datagram}
use Rattle.wire.specs.declared.datagram.Datagram.TheVariants as datagrams
use Rattle.wire.proofs.FieldTexts.{claim_read}
use Rattle.wire.proofs.Numbers.{length-big_bytes}
use Rattle.wire.proofs.Steps.{ok_is}
use Rattle.one_list.proofs.sent.SentMessages.{has_preimage}
use Rattle.one_list.proofs.nodes.EqualParts.{only_one, some_same}

-- ---- lists

cons_same : {X : Type 0} (x y : X) (xs ys : List X) → x ∷ xs ≡ y ∷ ys → (x ≡ y) × (xs ≡ ys)
cons_same x y xs ys e = (cc, cc)

-- concatenations are equal part by part, if the first parts have equal lengths
both_parts : {X : Type 0} (a b c d : List X) → length a ≡ length c → a ++ b ≡ c ++ d
    → (a ≡ c) × (b ≡ d)
both_parts [] b [] d same e = (refl, e)
both_parts [] b (y ∷ c) d same e = absurd (omega (arith, same))
both_parts (x ∷ a) b [] d same e = absurd (omega (arith, same))
both_parts (x ∷ a) b (y ∷ c) d same e =
    let parts = cons_same x y (a ++ b) (c ++ d) e in
    let rest = both_parts a b c d (omega (arith, same)) parts.1 in
    (ap (λ z. z ∷ a) parts.0 ∙ ap (λ l. y ∷ l) rest.0, rest.1)

-- the same if the last parts have equal lengths
last_parts : {X : Type 0} (a b c d : List X) → length b ≡ length d → a ++ b ≡ c ++ d
    → (a ≡ c) × (b ≡ d)
last_parts a b c d same e =
    let all : length a + length b ≡ length c + length d =
    sym (length-append a b) ∙ ap length e ∙ length-append c d in
    both_parts a b c d (omega (arith, all, same)) e

-- ---- fields

-- a claim is determined by its text
claims_same : (a b : Claim) → IsClaim a → IsClaim b → claim_text a ≡ claim_text b → a ≡ b
claims_same a b first second e =
    let same = ok_is (a, []) (b, [])
    (sym (claim_read a [] first) ∙ ap (λ (t : Text). claim_at (t ++ [])) e
    ∙ claim_read b [] second) in
    ap (λ (z : Claim × Text). z.0) same

claim_length : (c : Claim) → length (claim_text c) ≡ 9
claim_length c = length-append (bytes_high_first 8 c.round) (c.member ∷ [])
    ∙ ap (λ n. n + 1) (length-big_bytes 8 c.round)

-- paths are equal if their texts are
paths_same : (a b : Text) → path_text a ≡ path_text b → a ≡ b
paths_same a b e = (both_parts (bytes_high_first 2 (length a)) a (bytes_high_first 2 (length b)) b
    (length-big_bytes 2 (length a) ∙ sym (length-big_bytes 2 (length b))) e).1

-- only a vote has the kind number of a vote
is_vote : (b : Body Value) → 4 ≡ kind_of b → (c : Claim) × (b ≡ bodies.Vote c)
is_vote (bodies.Offer c) e = absurd (omega (arith, e))
is_vote (bodies.Promise c r) e = absurd (omega (arith, e))
is_vote (bodies.Propose c v) e = absurd (omega (arith, e))
is_vote (bodies.Vote c) e = (c, refl)
is_vote (bodies.Agreed v) e = absurd (omega (arith, e))
is_vote bodies.Ask e = absurd (omega (arith, e))
is_vote (bodies.Nay c p) e = absurd (omega (arith, e))

-- ---- messages

-- the vote of a member
abbrev pub vote : ℕ → Text → Text → Claim → Message Value
vote k tree name c = record { sender = k; tree = tree; path = name; body = bodies.Vote c }

-- a message in one datagram, with the text of a vote, is that vote
same_vote : (n : Message Value) (k : ℕ) (tree name : Text) (c : Claim) → IsMessage n → IsClaim c
    → n.tree ≡ tree → message_text (vote k tree name c) ≡ message_text n → n ≡ vote k tree name c
same_vote n k tree name c is claim_is tree_is e = by b.0 b.1
  where
    kind : 4 ≡ kind_of n.body
    kind = some_same 4 (kind_of n.body) (ap (λ (t : Text). slice_get t 4) e)

    sender : k ≡ n.sender
    sender = some_same k n.sender (ap (λ (t : Text). slice_get t 5) e)

    rest : (tree ++ path_text name) ++ claim_text c ≡ (n.tree ++ path_text n.path)
        ++ body_text n.body
    rest = ap (λ (t : Text). drop 6 t) e

    b : (d : Claim) × (n.body ≡ bodies.Vote d)
    b = is_vote n.body kind

    by : (d : Claim) → n.body ≡ bodies.Vote d → n ≡ vote k tree name c
    by d body =
        let parts = last_parts (tree ++ path_text name) (claim_text c)
        (n.tree ++ path_text n.path) (claim_text d) (claim_length c ∙ sym (claim_length d))
        (rest ∙ ap (λ (x : Body Value). (n.tree ++ path_text n.path) ++ body_text x) body) in
        let front = both_parts tree (path_text name) n.tree (path_text n.path)
        (ap length (sym tree_is)) parts.0 in
        let path = paths_same name n.path front.1 in
        let good : IsClaim d = subst (IsBody n.path) body is.body in
        let claim = claims_same c d claim_is good parts.1 in
        let said : n.body ≡ bodies.Vote c = body ∙ ap (λ (x : Claim). bodies.Vote x) (sym claim) in
        λ i. record {
          sender = sym sender i;
          tree = tree_is i;
          path = sym path i;
          body = said i;
        }

-- So a message that was sent, with a datagram of that text, is that vote.
pub is_that_vote : (n : Message Value) (d : Datagram) (k : ℕ) (tree name : Text) (c : Claim)
    → IsMessage n → IsClaim c → n.tree ≡ tree → Contains (split_of n) d
    → datagram_text (datagrams.Whole (vote k tree name c)) ≡ datagram_text d
    → n ≡ vote k tree name c
is_that_vote n (datagrams.Piece p) k tree name c is claim_is tree_is there e =
    let wrong : 49 ≡ 50 = some_same 49 50 (ap (λ (t : Text). slice_get t 3) e) in
    absurd (omega (arith, wrong))
is_that_vote n (datagrams.Whole x) k tree name c is claim_is tree_is there e =
    by (carried_in n.body) there
  where
    whole_same : (a b : Message Value) → datagrams.Whole a ≡ datagrams.Whole b → a ≡ b
    whole_same a b h = cc

    by : (o : Option (Carrier × Value)) → Contains (split_by n o) (datagrams.Whole x)
        → n ≡ vote k tree name c
    by None h =
        let same = whole_same n x (only_one (datagrams.Whole n) (datagrams.Whole x) h) in
        same_vote n k tree name c is claim_is tree_is (e ∙ ap message_text (sym same))
    by (Some y) h =
        let p = has_preimage (λ j. datagrams.Piece
        (piece_at (header_with n y.0 y.1) (build_text y.1) j))
        (numbers_of (length (build_text y.1))) (datagrams.Whole x) h in
        absurd (let wrong = p.2 in cc)

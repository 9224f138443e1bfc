-- Messages that are sent whole.
use Rattle.std.proofs.Common.{◌≡◌, ℕ, ◌≤◌, true, [], ◌∷◌, ◌++◌, None, Some, Result, Ok, inl, inr, refl, sym, ap, subst, ◌∙◌, append_assoc, arith}
use Rattle.faults.specs.Bytes.{Text, is_one_of}
use Rattle.claims.specs.declared.claim.Claim.{Claim}
use Rattle.claims.specs.Claim.{IsClaim}
use Rattle.ballots.specs.Value.{Value}
use Rattle.ballots.specs.declared.message.Body.{Body}
use Rattle.ballots.specs.declared.message.Body.TheVariants.{Offer, Promise, Propose, Vote, Agreed, Ask, Nay}
use Rattle.ballots.specs.declared.message.Message.{Message}
use Rattle.wire.specs.Laws.{AreBytes}
use Rattle.wire.specs.Messages.{IsBody, IsMessage}
use Rattle.wire.specs.Pieces.{carried_in}
use Rattle.wire.specs.Reading.{◌>>=◌, body_at, claim_at, front_at, nay_at, number_at, promise_at, whole, whole_at, whole_kinds}
use Rattle.wire.specs.Spelling.{body_text, claim_text, kind_of}
use Rattle.wire.specs.declared.WireFault.{WireFault}
use Rattle.wire.specs.declared.datagram.Datagram.{Datagram}
use Rattle.wire.specs.declared.datagram.Datagram.TheVariants.{Whole}
use Rattle.wire.specs.declared.fields.Front.{Front}
use Rattle.wire.proofs.FieldTexts.{byte_read, claim_read, claim_taken, gives, number_taken, one_byte}
use Rattle.wire.proofs.Fronts.{IsFront, fields_text, front_of, front_read, front_taken}
use Rattle.wire.proofs.Readers.{one_of}
use Rattle.wire.proofs.Steps.{bind_ok, ok_is}

-- ---- from the message to its text and back

promise_read : (c : Claim) (rest : Text) → IsClaim c → promise_at ((claim_text c ++ 0 ∷ []) ++ rest) ≡ gives (Promise c None) rest
unfolding promise_at
promise_read c rest good =
    ap (λ (t : Text). claim_at t >>= λ claim. number_at 1 0 0 claim.1 >>= λ mark. gives (Promise claim.0 None) mark.1) (append_assoc (claim_text c) (0 ∷ []) rest)
    ∙ ap (λ (r : Result (Claim × Text) WireFault). r >>= λ claim. number_at 1 0 0 claim.1 >>= λ mark. gives (Promise claim.0 None) mark.1) (claim_read c (0 ∷ rest) good)
    ∙ ap (λ (r : Result (ℕ × Text) WireFault). r >>= λ mark. gives (Promise c None) mark.1) (byte_read 0 0 0 rest (omega arith) (omega arith) (omega arith))

nay_read : (c d : Claim) (rest : Text) → IsClaim c → IsClaim d → nay_at ((claim_text c ++ claim_text d) ++ rest) ≡ gives (Nay c d) rest
unfolding nay_at
nay_read c d rest first second =
    ap (λ (t : Text). claim_at t >>= λ claim. claim_at claim.1 >>= λ promised. gives (Nay claim.0 promised.0) promised.1) (append_assoc (claim_text c) (claim_text d) rest)
    ∙ ap (λ (r : Result (Claim × Text) WireFault). r >>= λ claim. claim_at claim.1 >>= λ promised. gives (Nay claim.0 promised.0) promised.1) (claim_read c (claim_text d ++ rest) first)
    ∙ ap (λ (r : Result (Claim × Text) WireFault). r >>= λ promised. gives (Nay c promised.0) promised.1) (claim_read d rest second)

body_read : (name : Text) (b : Body Value) (rest : Text) → IsBody name b → carried_in b ≡ None → body_at (kind_of b) (body_text b ++ rest) ≡ gives b rest
body_read name (Offer c) rest good none = ap (λ (r : Result (Claim × Text) WireFault). r >>= λ c. gives (Offer c.0) c.1) (claim_read c rest good)
body_read name (Promise c None) rest good none = promise_read c rest good.0
body_read name (Promise c (Some vote)) rest good none = absurd cc
body_read name (Propose c v) rest good none = absurd cc
body_read name (Vote c) rest good none = ap (λ (r : Result (Claim × Text) WireFault). r >>= λ c. gives (Vote c.0) c.1) (claim_read c rest good)
body_read name (Agreed v) rest good none = absurd cc
body_read name Ask rest good none = refl
body_read name (Nay c d) rest good none = nay_read c d rest good.0 good.1

is_whole_kind : (b : Body Value) → carried_in b ≡ None → is_one_of whole_kinds (kind_of b) ≡ true
is_whole_kind (Offer c) none = refl
is_whole_kind (Promise c report) none = refl
is_whole_kind (Propose c v) none = absurd cc
is_whole_kind (Vote c) none = refl
is_whole_kind (Agreed v) none = absurd cc
is_whole_kind Ask none = refl
is_whole_kind (Nay c d) none = refl

-- the first fields of a message that is sent whole
abbrev pub front_in : Message Value → Front
front_in m = front_of (kind_of m.body) m.sender m.tree m.path

pub whole_read : (m : Message Value) (rest : Text) → IsMessage m → carried_in m.body ≡ None → whole_at ((fields_text (front_in m) ++ body_text m.body) ++ rest) ≡ gives (Whole m) rest
unfolding whole_at
whole_read m rest good none =
    let front : IsFront whole_kinds (front_in m) = record { kind = is_whole_kind m.body none; sender = good.sender; tree = good.tree; path = good.path } in
    ap (λ (t : Text). front_at whole_kinds t >>= λ front. body_at front.0.kind front.1 >>= λ body. gives (Whole (whole front.0 body.0)) body.1)
    (append_assoc (fields_text (front_in m)) (body_text m.body) rest)
    ∙ ap (λ (r : Result (Front × Text) WireFault). r >>= λ front. body_at front.0.kind front.1 >>= λ body. gives (Whole (whole front.0 body.0)) body.1)
    (front_read whole_kinds (front_in m) (body_text m.body ++ rest) front)
    ∙ ap (λ (r : Result (Body Value × Text) WireFault). r >>= λ body. gives (Whole (whole (front_in m) body.0)) body.1) (body_read m.path m.body rest good.body none)

-- ---- from the text to the message and back

-- the result of parsing the body of a message of this kind
record TookBody (name : Text) (kind : ℕ) (text : Text) (y : Body Value × Text) : Type 0 where
  good : IsBody name y.0
  whole : carried_in y.0 ≡ None
  kind_is : kind_of y.0 ≡ kind
  spelled : text ≡ body_text y.0 ++ y.1
  bytes : AreBytes y.1

offer_taken : (name text : Text) (y : Body Value × Text) → AreBytes text → body_at 1 text ≡ Ok y → TookBody name 1 text y
offer_taken name text y bytes e =
    let a = bind_ok (claim_at text) (λ c. gives (Offer c.0) c.1) y e in
    let t = claim_taken text a.0 bytes a.1 in
    subst (λ (z : Body Value × Text). TookBody name 1 text z) (ok_is (Offer a.0.0, a.0.1) y a.2)
    (record { good = t.good; whole = refl; kind_is = refl; spelled = t.spelled; bytes = t.bytes })

vote_taken : (name text : Text) (y : Body Value × Text) → AreBytes text → body_at 4 text ≡ Ok y → TookBody name 4 text y
vote_taken name text y bytes e =
    let a = bind_ok (claim_at text) (λ c. gives (Vote c.0) c.1) y e in
    let t = claim_taken text a.0 bytes a.1 in
    subst (λ (z : Body Value × Text). TookBody name 4 text z) (ok_is (Vote a.0.0, a.0.1) y a.2)
    (record { good = t.good; whole = refl; kind_is = refl; spelled = t.spelled; bytes = t.bytes })

promise_taken : (name text : Text) (y : Body Value × Text) → AreBytes text → promise_at text ≡ Ok y → TookBody name 2 text y
unfolding promise_at
promise_taken name text y bytes e =
    let a = bind_ok (claim_at text) (λ claim. number_at 1 0 0 claim.1 >>= λ mark. gives (Promise claim.0 None) mark.1) y e in
    let b = bind_ok (number_at 1 0 0 a.0.1) (λ mark. gives (Promise a.0.0 None) mark.1) y a.2 in
    let c = claim_taken text a.0 bytes a.1 in
    let m = number_taken 1 0 0 a.0.1 b.0 c.bytes b.1 in
    let most : b.0.0 ≤ 0 = m.good.1 in
    let none : b.0.0 ≡ 0 = omega arith in
    subst (λ (z : Body Value × Text). TookBody name 2 text z) (ok_is (Promise a.0.0 None, b.0.1) y b.2) (record {
      good = (c.good, tt);
      whole = refl;
      kind_is = refl;
      spelled = c.spelled
          ∙ ap (λ (t : Text). claim_text a.0.0 ++ t) (m.spelled ∙ ap (λ (t : Text). t ++ b.0.1) (one_byte b.0.0 (omega arith)) ∙ ap (λ (n : ℕ). n ∷ b.0.1) none)
          ∙ sym (append_assoc (claim_text a.0.0) (0 ∷ []) b.0.1);
      bytes = m.bytes;
    })

ask_taken : (name text : Text) (y : Body Value × Text) → AreBytes text → body_at 6 text ≡ Ok y → TookBody name 6 text y
ask_taken name text y bytes e =
    subst (λ (z : Body Value × Text). TookBody name 6 text z) (ok_is (Ask, text) y e) (record { good = tt; whole = refl; kind_is = refl; spelled = refl; bytes = bytes })

nay_taken : (name text : Text) (y : Body Value × Text) → AreBytes text → nay_at text ≡ Ok y → TookBody name 7 text y
unfolding nay_at
nay_taken name text y bytes e =
    let a = bind_ok (claim_at text) (λ claim. claim_at claim.1 >>= λ promised. gives (Nay claim.0 promised.0) promised.1) y e in
    let b = bind_ok (claim_at a.0.1) (λ promised. gives (Nay a.0.0 promised.0) promised.1) y a.2 in
    let c = claim_taken text a.0 bytes a.1 in
    let d = claim_taken a.0.1 b.0 c.bytes b.1 in
    subst (λ (z : Body Value × Text). TookBody name 7 text z) (ok_is (Nay a.0.0 b.0.0, b.0.1) y b.2) (record {
      good = (c.good, d.good);
      whole = refl;
      kind_is = refl;
      spelled = c.spelled ∙ ap (λ (t : Text). claim_text a.0.0 ++ t) d.spelled ∙ sym (append_assoc (claim_text a.0.0) (claim_text b.0.0) b.0.1);
      bytes = d.bytes;
    })

body_taken : (name : Text) (kind : ℕ) (text : Text) (y : Body Value × Text) → is_one_of whole_kinds kind ≡ true → AreBytes text → body_at kind text ≡ Ok y → TookBody name kind text y
body_taken name kind text y good bytes e =
    let here : (k : ℕ) → k ≡ kind → (body_at k text ≡ Ok y → TookBody name k text y) → TookBody name kind text y =
    λ k is took. subst (λ (k : ℕ). TookBody name k text y) is (took (subst (λ (k : ℕ). body_at k text ≡ Ok y) (sym is) e)) in
    elim (one_of kind 1 (2 ∷ 4 ∷ 6 ∷ 7 ∷ []) good) [
      | inl is ↦ here 1 is (offer_taken name text y bytes)
      | inr from_2 ↦ elim (one_of kind 2 (4 ∷ 6 ∷ 7 ∷ []) from_2) [
        | inl is ↦ here 2 is (promise_taken name text y bytes)
        | inr from_4 ↦ elim (one_of kind 4 (6 ∷ 7 ∷ []) from_4) [
          | inl is ↦ here 4 is (vote_taken name text y bytes)
          | inr from_6 ↦ elim (one_of kind 6 (7 ∷ []) from_6) [
            | inl is ↦ here 6 is (ask_taken name text y bytes)
            | inr from_7 ↦ elim (one_of kind 7 [] from_7) [
              | inl is ↦ here 7 is (nay_taken name text y bytes)
              | inr none ↦ absurd cc
            ]
          ]
        ]
      ]
    ]

-- the text of a whole message, after its first four bytes
abbrev pub whole_tail : Message Value → Text
whole_tail m = fields_text (front_in m) ++ body_text m.body

-- the result of parsing a whole message
pub record TookWhole (text : Text) (y : Datagram × Text) : Type 0 where
  pub message : Message Value
  pub is : y.0 ≡ Whole message
  pub good : IsMessage message × (carried_in message.body ≡ None)
  pub spelled : text ≡ whole_tail message ++ y.1
  pub bytes : AreBytes y.1

pub whole_taken : (text : Text) (y : Datagram × Text) → AreBytes text → whole_at text ≡ Ok y → TookWhole text y
unfolding whole_at
whole_taken text y bytes e =
    let a = bind_ok (front_at whole_kinds text) (λ front. body_at front.0.kind front.1 >>= λ body. gives (Whole (whole front.0 body.0)) body.1) y e in
    let b = bind_ok (body_at a.0.0.kind a.0.1) (λ body. gives (Whole (whole a.0.0 body.0)) body.1) y a.2 in
    let f = front_taken whole_kinds text a.0 bytes a.1 in
    let d = body_taken a.0.0.path a.0.0.kind a.0.1 b.0 f.good.kind f.bytes b.1 in
    subst (λ (z : Datagram × Text). TookWhole text z) (ok_is (Whole (whole a.0.0 b.0.0), b.0.1) y b.2) (record {
      message = whole a.0.0 b.0.0;
      is = refl;
      good = (record { sender = f.good.sender; tree = f.good.tree; path = f.good.path; body = d.good }, d.whole);
      spelled = f.spelled
          ∙ ap (λ (t : Text). fields_text a.0.0 ++ t) d.spelled
          ∙ ap (λ (k : ℕ). fields_text (front_of k a.0.0.sender a.0.0.tree a.0.0.path) ++ (body_text b.0.0 ++ b.0.1)) (sym d.kind_is)
          ∙ sym (append_assoc (fields_text (front_in (whole a.0.0 b.0.0))) (body_text b.0.0) b.0.1);
      bytes = d.bytes;
    })

-- The texts of notes are parsed as these, and what is parsed has its text.
use Rattle.std.proofs.Common.{◌≡◌, ℕ, ◌≤◌, true, [], ◌∷◌, ◌++◌, Result, Ok, inl, inr, refl, sym, ap, subst, ◌∙◌, append_assoc, arith}
use Rattle.faults.specs.Bytes.{Text, is_one_of}
use Rattle.claims.specs.Claim.{greatest_round}
use Rattle.claims.specs.declared.claim.Claim.{Claim}
use Rattle.package_record.specs.Laws.{BuildTextIsReadAgain, WhatIsReadIsABuild}
use Rattle.ballots.specs.Value.{Value}
use Rattle.ballots.specs.declared.message.Fact.{Fact}
use Rattle.ballots.specs.declared.message.Fact.TheVariants.{Opened, Promised, Voted, Held}
use Rattle.ballots.specs.declared.message.Note.{Note}
use Rattle.wire.specs.Laws.{AreBytes}
use Rattle.wire.specs.Messages.{IsFact, IsNote}
use Rattle.wire.specs.Reading.{◌>>=◌, build_at, claim_at, fact_at, kind_at, note_at, note_kinds, note_of, number_at, path_at, voted_at}
use Rattle.wire.specs.Spelling.{claim_text, fact_text, note_kind, note_text, path_text, sized_build}
use Rattle.wire.specs.declared.WireFault.{WireFault}
use Rattle.wire.proofs.FieldTexts.{Took, build_read, build_taken, claim_read, claim_taken, gives, kind_read, kind_taken, number_read, number_taken, path_read, path_taken}
use Rattle.wire.proofs.Readers.{begins_none, one_of, read_again, whole_took}
use Rattle.wire.proofs.Steps.{bind_ok, ok_is}

-- ---- from the note to its text and back

voted_read : BuildTextIsReadAgain → (name : Text) (c : Claim) (v : Value) (rest : Text) → IsFact name (Voted c v) → voted_at name (fact_text (Voted c v) ++ rest) ≡ gives (Voted c v) rest
unfolding voted_at
voted_read again name c v rest good =
    ap (λ (t : Text). claim_at t >>= λ claim. build_at name claim.1 >>= λ build. gives (Voted claim.0 build.0) build.1) (append_assoc (claim_text c) (sized_build v) rest)
    ∙ ap (λ (r : Result (Claim × Text) WireFault). r >>= λ claim. build_at name claim.1 >>= λ build. gives (Voted claim.0 build.0) build.1) (claim_read c (sized_build v ++ rest) good.0)
    ∙ ap (λ (r : Result (Value × Text) WireFault). r >>= λ build. gives (Voted c build.0) build.1) (build_read again name v rest good.1)

fact_read : BuildTextIsReadAgain → (name : Text) (f : Fact Value) (rest : Text) → IsFact name f → fact_at name (note_kind f) (fact_text f ++ rest) ≡ gives f rest
fact_read again name (Opened round) rest good =
    let most : round ≤ greatest_round = good.1 in
    ap (λ (r : Result (ℕ × Text) WireFault). r >>= λ round. gives (Opened round.0) round.1) (number_read 8 1 greatest_round round rest good.0 most (omega arith))
fact_read again name (Promised c) rest good = ap (λ (r : Result (Claim × Text) WireFault). r >>= λ c. gives (Promised c.0) c.1) (claim_read c rest good)
fact_read again name (Voted c v) rest good = voted_read again name c v rest good
fact_read again name (Held v) rest good = ap (λ (r : Result (Value × Text) WireFault). r >>= λ v. gives (Held v.0) v.1) (build_read again name v rest good)

is_a_kind : (f : Fact Value) → is_one_of note_kinds (note_kind f) ≡ true
is_a_kind (Opened round) = refl
is_a_kind (Promised c) = refl
is_a_kind (Voted c v) = refl
is_a_kind (Held v) = refl

abbrev note_from : Text → Fact Value → Note Value
note_from path fact = record { path = path; fact = fact }

pub note_read : BuildTextIsReadAgain → (n : Note Value) (rest : Text) → IsNote n → note_at (note_text n ++ rest) ≡ gives n rest
unfolding note_at
note_read again n rest good =
    let kind = note_kind n.fact in
    ap (λ (t : Text). kind_at note_kinds (kind ∷ t) >>= λ kind. path_at kind.1 >>= λ path. fact_at path.0 kind.0 path.1 >>= λ fact. gives (note_from path.0 fact.0) fact.1)
    (append_assoc (path_text n.path) (fact_text n.fact) rest)
    ∙ ap (λ (r : Result (ℕ × Text) WireFault). r >>= λ kind. path_at kind.1 >>= λ path. fact_at path.0 kind.0 path.1 >>= λ fact. gives (note_from path.0 fact.0) fact.1)
    (kind_read note_kinds kind (path_text n.path ++ (fact_text n.fact ++ rest)) (is_a_kind n.fact))
    ∙ ap (λ (r : Result (Text × Text) WireFault). r >>= λ path. fact_at path.0 kind path.1 >>= λ fact. gives (note_from path.0 fact.0) fact.1)
    (path_read n.path (fact_text n.fact ++ rest) good.path)
    ∙ ap (λ (r : Result (Fact Value × Text) WireFault). r >>= λ fact. gives (note_from n.path fact.0) fact.1) (fact_read again n.path n.fact rest good.fact)

-- ---- from the text to the note and back

-- the result of parsing the fact of a note of this kind
record TookFact (name : Text) (kind : ℕ) (text : Text) (y : Fact Value × Text) : Type 0 where
  good : IsFact name y.0
  kind_is : note_kind y.0 ≡ kind
  spelled : text ≡ fact_text y.0 ++ y.1
  bytes : AreBytes y.1

opened_taken : (name text : Text) (y : Fact Value × Text) → AreBytes text → fact_at name 1 text ≡ Ok y → TookFact name 1 text y
opened_taken name text y bytes e =
    let a = bind_ok (number_at 8 1 greatest_round text) (λ round. gives (Opened round.0) round.1) y e in
    let t = number_taken 8 1 greatest_round text a.0 bytes a.1 in
    subst (λ (z : Fact Value × Text). TookFact name 1 text z) (ok_is (Opened a.0.0, a.0.1) y a.2) (record { good = t.good; kind_is = refl; spelled = t.spelled; bytes = t.bytes })

promised_taken : (name text : Text) (y : Fact Value × Text) → AreBytes text → fact_at name 2 text ≡ Ok y → TookFact name 2 text y
promised_taken name text y bytes e =
    let a = bind_ok (claim_at text) (λ c. gives (Promised c.0) c.1) y e in
    let t = claim_taken text a.0 bytes a.1 in
    subst (λ (z : Fact Value × Text). TookFact name 2 text z) (ok_is (Promised a.0.0, a.0.1) y a.2) (record { good = t.good; kind_is = refl; spelled = t.spelled; bytes = t.bytes })

voted_taken : WhatIsReadIsABuild → (name text : Text) (y : Fact Value × Text) → AreBytes text → voted_at name text ≡ Ok y → TookFact name 3 text y
unfolding voted_at
voted_taken made name text y bytes e =
    let a = bind_ok (claim_at text) (λ claim. build_at name claim.1 >>= λ build. gives (Voted claim.0 build.0) build.1) y e in
    let b = bind_ok (build_at name a.0.1) (λ build. gives (Voted a.0.0 build.0) build.1) y a.2 in
    let c = claim_taken text a.0 bytes a.1 in
    let v = build_taken made name a.0.1 b.0 c.bytes b.1 in
    subst (λ (z : Fact Value × Text). TookFact name 3 text z) (ok_is (Voted a.0.0 b.0.0, b.0.1) y b.2) (record {
      good = (c.good, v.good);
      kind_is = refl;
      spelled = c.spelled ∙ ap (λ (t : Text). claim_text a.0.0 ++ t) v.spelled ∙ sym (append_assoc (claim_text a.0.0) (sized_build b.0.0) b.0.1);
      bytes = v.bytes;
    })

held_taken : WhatIsReadIsABuild → (name text : Text) (y : Fact Value × Text) → AreBytes text → fact_at name 4 text ≡ Ok y → TookFact name 4 text y
held_taken made name text y bytes e =
    let a = bind_ok (build_at name text) (λ v. gives (Held v.0) v.1) y e in
    let t = build_taken made name text a.0 bytes a.1 in
    subst (λ (z : Fact Value × Text). TookFact name 4 text z) (ok_is (Held a.0.0, a.0.1) y a.2) (record { good = t.good; kind_is = refl; spelled = t.spelled; bytes = t.bytes })

fact_taken : WhatIsReadIsABuild → (name : Text) (kind : ℕ) (text : Text) (y : Fact Value × Text) → is_one_of note_kinds kind ≡ true → AreBytes text → fact_at name kind text ≡ Ok y → TookFact name kind text y
fact_taken made name kind text y good bytes e =
    let here : (k : ℕ) → k ≡ kind → (fact_at name k text ≡ Ok y → TookFact name k text y) → TookFact name kind text y =
    λ k is took. subst (λ (k : ℕ). TookFact name k text y) is (took (subst (λ (k : ℕ). fact_at name k text ≡ Ok y) (sym is) e)) in
    elim (one_of kind 1 (2 ∷ 3 ∷ 4 ∷ []) good) [
      | inl is ↦ here 1 is (opened_taken name text y bytes)
      | inr above ↦ elim (one_of kind 2 (3 ∷ 4 ∷ []) above) [
        | inl is ↦ here 2 is (promised_taken name text y bytes)
        | inr higher ↦ elim (one_of kind 3 (4 ∷ []) higher) [
          | inl is ↦ here 3 is (voted_taken made name text y bytes)
          | inr highest ↦ elim (one_of kind 4 [] highest) [
            | inl is ↦ here 4 is (held_taken made name text y bytes)
            | inr none ↦ absurd cc
          ]
        ]
      ]
    ]

pub note_taken : WhatIsReadIsABuild → (text : Text) (y : Note Value × Text) → AreBytes text → note_at text ≡ Ok y → Took IsNote note_text text y
unfolding note_at
note_taken made text y bytes e =
    let a = bind_ok (kind_at note_kinds text) (λ kind. path_at kind.1 >>= λ path. fact_at path.0 kind.0 path.1 >>= λ fact. gives (note_from path.0 fact.0) fact.1) y e in
    let b = bind_ok (path_at a.0.1) (λ path. fact_at path.0 a.0.0 path.1 >>= λ fact. gives (note_from path.0 fact.0) fact.1) y a.2 in
    let d = bind_ok (fact_at b.0.0 a.0.0 b.0.1) (λ fact. gives (note_from b.0.0 fact.0) fact.1) y b.2 in
    let k = kind_taken note_kinds text a.0 bytes a.1 in
    let p = path_taken a.0.1 b.0 k.bytes b.1 in
    let f = fact_taken made b.0.0 a.0.0 b.0.1 d.0 k.good p.bytes d.1 in
    subst (λ (z : Note Value × Text). Took IsNote note_text text z) (ok_is (note_from b.0.0 d.0.0, d.0.1) y d.2) (record {
      good = record { path = p.good; fact = f.good };
      spelled = k.spelled
          ∙ ap (λ (t : Text). a.0.0 ∷ t) (p.spelled ∙ ap (λ (t : Text). path_text b.0.0 ++ t) f.spelled ∙ sym (append_assoc (path_text b.0.0) (fact_text d.0.0) d.0.1))
          ∙ ap (λ (kind : ℕ). kind ∷ ((path_text b.0.0 ++ fact_text d.0.0) ++ d.0.1)) (sym f.kind_is);
      bytes = f.bytes;
    })

-- ---- whole texts

pub note_again : BuildTextIsReadAgain → (n : Note Value) → IsNote n → note_of (note_text n) ≡ Ok n
unfolding note_of
note_again again n good = read_again note_at note_text n (λ rest. note_read again n rest good)

pub note_is_spelled : WhatIsReadIsABuild → (text : Text) (n : Note Value) → AreBytes text → note_of text ≡ Ok n → IsNote n × (text ≡ note_text n)
unfolding note_of
note_is_spelled made text n bytes e = whole_took note_at IsNote note_text text n (λ y at. note_taken made text y bytes at) e

pub no_note_begins : BuildTextIsReadAgain → (m n : Note Value) (rest : Text) → IsNote m → IsNote n → note_text n ≡ note_text m ++ rest → (m ≡ n) × (rest ≡ [])
no_note_begins again m n rest first other same =
    begins_none note_at note_text m n rest (λ rest. note_read again m rest first) (λ rest. note_read again n rest other) same

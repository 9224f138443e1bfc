-- The effect of an offer.
use Rattle.std.proofs.Common.{◌≡◌, ◌∙◌, ℕ, List, Bool, true, false, not, ◌&&◌, eqb, eq-eqb, Option, Some, Result, Ok, Err, if◌then◌else◌, refl, sym, ap}
use Rattle.std.proofs.lemmas.Bool.{cond-true}
use Rattle.claims.specs.Claims.{is_above, is_promised}
use Rattle.claims.specs.declared.claim.Claim.{Claim}
use Rattle.claims.specs.Member as members
use Rattle.claims.specs.Member.{Facts, greater}
use Rattle.claims.specs.Nodes as nodes
use Rattle.claims.specs.Step.{Outcome, on_offer}
use Rattle.claims.specs.Votes.{is_voted}
use Rattle.claims.specs.World.{put}
use Rattle.ballots.specs.declared.message.Body.{Body}
use Rattle.ballots.specs.declared.message.Body.TheVariants.{Offer}
use Rattle.ballots.specs.declared.message.Message.{Message}
use Rattle.engine.specs.declared.Letter.TheVariants.{Q}
use Rattle.node.specs.Laws.{StepsAreTheMembers}
use Rattle.node.specs.State.{IsNode, NodeState}
use Rattle.node.specs.Step.{Taken, after, heard}
use Rattle.node.specs.declared.prepared_step.Effects.{Effects}
use Rattle.check_worlds.specs.Rows.{TookMessage}
use Rattle.protocol.specs.Answers.{Answer, after as member_after}
use Rattle.protocol.specs.InTheAgreement.{view}
use Rattle.protocol.specs.Laws.{AnswersMessage, MessagesAreAnsweredAsInTheTheory}
use Rattle.protocol.specs.State.{State, Value, facts_at}
use Rattle.protocol.specs.Step as protocol
use Rattle.protocol.specs.Step.{facts_named, facts_of_unit, outcome_of, unit_in}
use Rattle.protocol.specs.declared.refusal.Refusal.{Refusal}
use Rattle.engine.specs.Division.{number_found}
use Rattle.wire.specs.declared.datagram.Piece.{Piece}

-- what is put at a place is there
put_same : {X : Type 0} (f : ℕ → X) (i : ℕ) (x : X) → put f i x i ≡ x
put_same f i x = cond-true (eqb i i) x (f i) (eq-eqb i i refl)

-- after an offer the promise is the greater of the previous one and the offered claim
pub offered : (i : ℕ) (x : members.Member Value) (c : Claim) → (on_offer i x c).member.promised ≡ greater x.promised c
offered i x c = by (is_above c x.promised) (is_promised c x.promised && not (is_voted c x.voted)) _ _ _ refl refl refl
  where
    by : (a b : Bool) (A B C : Outcome Value) → A.member.promised ≡ Some c → B.member.promised ≡ x.promised → C.member.promised ≡ x.promised
        → (if a then A else (if b then B else C)).member.promised ≡ (if a then Some c else x.promised)
    by true b A B C e f h = e
    by false true A B C e f h = f
    by false false A B C e f h = h

-- if a node handled a message, its member answered it
pub answer_of : (pieces : List Piece) (r : Result Answer Refusal) (step : Taken) → heard pieces r ≡ Ok step
    → (a : Answer) × (r ≡ Ok a) × (step ≡ record { answer = a; pieces = pieces })
answer_of pieces (Ok a) step e = (a, refl, (let two : Ok (record { answer = a; pieces = pieces }) ≡ Ok step = e in cc))
answer_of pieces (Err r) step e = absurd (let no : heard pieces (Err r) ≡ Ok step = e in cc)

module _ (old new : NodeState) (is : IsNode old) (m : Message Value) (c : Claim) (body : m.body ≡ Offer c) (out : Effects) (took : TookMessage old new m out)
    (steps : StepsAreTheMembers) (messages : MessagesAreAnsweredAsInTheTheory) where
  abbrev s : State
  s = old.member

  promised_so : (a : Answer) → took.step ≡ record { answer = a; pieces = old.pieces } → AnswersMessage s m a
      → (facts_named new.member m.path).promised ≡ greater (facts_named s m.path).promised c
  promised_so a same answers =
      let u = answers.unit in
      let now : new ≡ after old (record { answer = a; pieces = old.pieces }) = took.taken.state ∙ ap (after old) same in
      let found : number_found s.division m.path ≡ Some u = rw answers.named refl in
      let stays : facts_at (after old (record { answer = a; pieces = old.pieces })).member u ≡ facts_at (member_after s a) u =
      ap (λ (x : State). facts_at x u) (steps old (record { answer = a; pieces = old.pieces }) is) in
      let known : (facts_at (member_after s a) u).promised ≡ (outcome_of s u m.sender m.body).member.promised =
      ap (λ (n : nodes.Node Value). (n.facts u).promised) answers.is.node
      ∙ ap (λ (f : Facts Value). f.promised) (put_same (facts_at s) u _) in
      let told : (outcome_of s u m.sender m.body).member.promised ≡ greater (facts_at s u).promised c =
      ap (λ (b : Body Value). (outcome_of s u m.sender b).member.promised) body ∙ offered s.me (view s u) c in
      let before : (facts_named s m.path).promised ≡ (facts_at s u).promised = ap (λ (v : Option ℕ). (facts_of_unit s v).promised) found in
      let later : (facts_named new.member m.path).promised ≡ (facts_at (after old (record { answer = a; pieces = old.pieces })).member u).promised =
      ap (λ (n : NodeState). (facts_named n.member m.path).promised) now
      ∙ ap (λ (v : Option ℕ). (facts_of_unit (after old (record { answer = a; pieces = old.pieces })).member v).promised) found in
      later ∙ ap (λ (f : Facts Value). f.promised) stays ∙ known ∙ told ∙ ap (λ (p : Option Claim). greater p c) (sym before)

  pub promised_then : (facts_named new.member m.path).promised ≡ greater (facts_named s m.path).promised c
  promised_then =
      let given = answer_of old.pieces (protocol.heard s m) took.step took.is in
      promised_so given.0 given.2 (messages s Q m given.0 is.member given.1)

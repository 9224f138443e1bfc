-- The outcome of the abstract member can be encoded if its inputs can.
use Rattle.std.proofs.Common.{◌≡◌, ℕ, Bool, not, ◌&&◌, All, List, [], ◌∷◌, Option, Some, None, arith, refl, subst, ap, if◌then◌else◌}
use Rattle.std.specs.Prelude.{unwrap_or}
use Rattle.std.specs.Option.{ForSome}
use Rattle.std.proofs.lemmas.Bool.{cond_both}
use Rattle.std.proofs.lemmas.List.Elements.{All-head, All-tail}
use Rattle.faults.specs.Bytes.{Text}
use Rattle.claims.specs.Votes.{Ballot, ballot, kept_report}
use Rattle.claims.specs.Quorums.{Quorums, with_member, nobody}
use Rattle.claims.specs.Claims.{claim_same, is_above, is_below, is_promised}
use Rattle.claims.specs.Votes.{is_voted, PromiseOf}
use Rattle.claims.specs.Member as members
use Rattle.claims.specs.Member.{Facts, facts_of, first, greater, no_facts, noted}
use Rattle.claims.specs.Messages as messages
use Rattle.claims.specs.Step.{Outcome, notes, notes_and_says, on_agreed, on_ask, on_message, on_offer, on_promise, on_propose, on_quorum, on_vote, says, still}
use Rattle.claims.specs.declared.claim.Claim.{Claim}
use Rattle.claims.specs.Claim.{IsClaim}
use Rattle.protocol.specs.State.{Value}
use Rattle.wire.specs.Messages.{IsBuildOf}
use Rattle.node.specs.Ranges.{AreFactsOf, IsOutcomeOf, IsSayable, IsStageOf, IsTold, IsVoteFor}

-- a property of the value holds of it as an option
pub for_this : {X : Type 0} (P : X → Type 0) (x : X) → P x → ForSome (Some x) P
for_this P x holds y e = subst P (ap (λ o. unwrap_or o x) e) holds

-- and of no value
pub for_none : {X : Type 0} (P : X → Type 0) → ForSome None P
for_none P y e = absurd (let no : None ≡ Some y = e in cc)

-- ---- facts

greater_claim : (p : Option Claim) (c : Claim) → ForSome p IsClaim → IsClaim c → ForSome (greater p c) IsClaim
greater_claim p c is is_c = cond_both (is_above c p) (Some c) p (λ (o : Option Claim). ForSome o IsClaim) (λ above. for_this IsClaim c is_c) (λ not_above. is)

first_held : (name : Text) (h : Option Value) (v : Value) → ForSome h (IsBuildOf name) → IsBuildOf name v → ForSome (first h v) (IsBuildOf name)
first_held name None v is is_v = for_this (IsBuildOf name) v is_v
first_held name (Some u) v is is_v = is

-- facts after a note that can be encoded can be encoded
pub noted_facts : (name : Text) (f : Facts Value) (n : members.Note Value) → AreFactsOf name f → IsTold name n → AreFactsOf name (noted f n)
noted_facts name f (members.Opened round) are is =
    let before = are.opened in
    let now = is.1 in
    record { opened = omega (arith, before, now); promised = are.promised; voted = are.voted; held = are.held }
noted_facts name f (members.Promised c) are is =
    record { opened = are.opened; promised = greater_claim f.promised c are.promised is; voted = are.voted; held = are.held }
noted_facts name f (members.Voted b) are is =
    record { opened = are.opened; promised = greater_claim f.promised b.claim are.promised is.0; voted = for_this (IsVoteFor name) b is; held = are.held }
noted_facts name f (members.Held v) are is =
    record { opened = are.opened; promised = are.promised; voted = are.voted; held = first_held name f.held v are.held is }

-- so can the facts after all notes
pub restored_facts : (name : Text) (ns : List (members.Note Value)) → All (IsTold name) ns → AreFactsOf name (members.restored ns)
restored_facts name [] are = record { opened = omega arith; promised = for_none IsClaim; voted = for_none (IsVoteFor name); held = for_none (IsBuildOf name) }
restored_facts name (n ∷ ns) are = noted_facts name (members.restored ns) n (restored_facts name ns (All-tail (IsTold name) n ns are)) (All-head (IsTold name) n ns are)

-- ---- outcomes

-- nothing is noted or sent
pub still_of : (name : Text) (x : members.Member Value) → IsStageOf name x.stage → IsOutcomeOf name (still x)
still_of name x is = record { note = for_none (IsTold name); send = for_none (IsSayable name); stage = is }

pub says_of : (name : Text) (x : members.Member Value) (y : messages.Message Value) → IsStageOf name x.stage → IsSayable name y → IsOutcomeOf name (says x y)
says_of name x y is sayable = record { note = for_none (IsTold name); send = for_this (IsSayable name) y sayable; stage = is }

notes_of : (name : Text) (x : members.Member Value) (n : members.Note Value) → IsStageOf name x.stage → IsTold name n → IsOutcomeOf name (notes x n)
notes_of name x n is told = record { note = for_this (IsTold name) n told; send = for_none (IsSayable name); stage = is }

pub notes_and_says_of : (name : Text) (x : members.Member Value) (n : members.Note Value) (y : messages.Message Value)
    → IsStageOf name x.stage → IsTold name n → IsSayable name y → IsOutcomeOf name (notes_and_says x n y)
notes_and_says_of name x n y is told sayable = record { note = for_this (IsTold name) n told; send = for_this (IsSayable name) y sayable; stage = is }

-- one of two outcomes
either : (name : Text) (b : Bool) (o p : Outcome Value) → IsOutcomeOf name o → IsOutcomeOf name p → IsOutcomeOf name (if b then o else p)
either name b o p is_o is_p = cond_both b o p (IsOutcomeOf name) (λ yes. is_o) (λ no. is_p)

offer_of : (name : Text) (i : ℕ) (x : members.Member Value) (c : Claim) → AreFactsOf name (facts_of x) → IsStageOf name x.stage → IsClaim c → IsOutcomeOf name (on_offer i x c)
offer_of name i x c are is is_c =
    let promise : messages.Message Value = messages.Promise (record { member = i; claim = c; report = x.voted }) in
    either name (is_above c x.promised) (notes_and_says (record x { promised = Some c }) (members.Promised c) promise)
    (if is_promised c x.promised && not (is_voted c x.voted) then says x promise else says x (messages.Nay i c x.promised))
    (notes_and_says_of name (record x { promised = Some c }) (members.Promised c) promise is is_c (is_c, are.voted))
    (either name (is_promised c x.promised && not (is_voted c x.voted)) (says x promise) (says x (messages.Nay i c x.promised))
    (says_of name x promise is (is_c, are.voted)) (says_of name x (messages.Nay i c x.promised) is (is_c, are.promised)))

propose_of : (name : Text) (i : ℕ) (x : members.Member Value) (b : Ballot Value) → AreFactsOf name (facts_of x) → IsStageOf name x.stage → IsVoteFor name b → IsOutcomeOf name (on_propose i x b)
propose_of name i x b are is is_b =
    let vote : messages.Message Value = messages.Vote i b.claim in
    let nay : messages.Message Value = messages.Nay i b.claim x.promised in
    let voted = record x { promised = Some b.claim; voted = Some b } in
    either name (not (is_below b.claim x.promised) && not (is_voted b.claim x.voted)) (notes_and_says voted (members.Voted b) vote)
    (if is_voted b.claim x.voted && is_promised b.claim x.promised then says x vote else says x nay)
    (notes_and_says_of name voted (members.Voted b) vote is is_b is_b.0)
    (either name (is_voted b.claim x.voted && is_promised b.claim x.promised) (says x vote) (says x nay)
    (says_of name x vote is is_b.0) (says_of name x nay is (is_b.0, are.promised)))

quorum_of : (name : Text) (x : members.Member Value) (c : Claim) (k : Option (Ballot Value)) → IsClaim c → ForSome k (IsVoteFor name) → IsOutcomeOf name (on_quorum x c k)
quorum_of name x c None is_c is_k = still_of name (record x { stage = members.Building c }) is_c
quorum_of name x c (Some b) is_c is_k =
    let is_b = is_k b refl in
    says_of name (record x { stage = members.Voting (ballot c b.value) nobody }) (messages.Propose (ballot c b.value)) (is_c, is_b.1) (is_c, is_b.1)

kept_of : (name : Text) (k r : Option (Ballot Value)) → ForSome k (IsVoteFor name) → ForSome r (IsVoteFor name) → ForSome (kept_report k r) (IsVoteFor name)
kept_of name k None is_k is_r = is_k
kept_of name None (Some b) is_k is_r = is_r
kept_of name (Some a) (Some b) is_k is_r = cond_both _ (Some b) (Some a) (λ (o : Option (Ballot Value)). ForSome o (IsVoteFor name)) (λ yes. is_r) (λ no. is_k)

promise_of : (name : Text) (enough : Quorums) (x : members.Member Value) (stage : members.Stage Value) (p : PromiseOf Value)
    → IsStageOf name x.stage → IsStageOf name stage → ForSome p.report (IsVoteFor name) → IsOutcomeOf name (on_promise enough x stage p)
promise_of name enough x members.Closed p is is_stage is_p = still_of name x is
promise_of name enough x (members.Building c) p is is_stage is_p = still_of name x is
promise_of name enough x (members.Voting b S) p is is_stage is_p = still_of name x is
promise_of name enough x (members.Gathering c S k) p is is_stage is_p =
    let kept = kept_of name k p.report is_stage.1 is_p in
    let gathers = record x { stage = members.Gathering c (with_member S p.member) (kept_report k p.report) } in
    either name (claim_same p.claim c) (if enough (with_member S p.member) then on_quorum x c (kept_report k p.report) else still gathers) (still x)
    (either name (enough (with_member S p.member)) (on_quorum x c (kept_report k p.report)) (still gathers)
    (quorum_of name x c (kept_report k p.report) is_stage.0 kept) (still_of name gathers (is_stage.0, kept)))
    (still_of name x is)

vote_of : (name : Text) (enough : Quorums) (x : members.Member Value) (stage : members.Stage Value) (m : ℕ) (c : Claim)
    → IsStageOf name x.stage → IsStageOf name stage → IsOutcomeOf name (on_vote enough x stage m c)
vote_of name enough x members.Closed m c is is_stage = still_of name x is
vote_of name enough x (members.Gathering d S k) m c is is_stage = still_of name x is
vote_of name enough x (members.Building d) m c is is_stage = still_of name x is
vote_of name enough x (members.Voting b S) m c is is_stage =
    let holds = record x { held = Some b.value; stage = members.Closed } in
    let counts = record x { stage = members.Voting b (with_member S m) } in
    either name (claim_same c b.claim) (if enough (with_member S m) then notes_and_says holds (members.Held b.value) (messages.Agreed b.value) else still counts) (still x)
    (either name (enough (with_member S m)) (notes_and_says holds (members.Held b.value) (messages.Agreed b.value)) (still counts)
    (notes_and_says_of name holds (members.Held b.value) (messages.Agreed b.value) tt is_stage.1 is_stage.1) (still_of name counts is_stage))
    (still_of name x is)

agreed_of : (name : Text) (x : members.Member Value) (h : Option Value) (v : Value) → IsStageOf name x.stage → IsBuildOf name v → IsOutcomeOf name (on_agreed x h v)
agreed_of name x None v is is_v = notes_of name (record x { held = Some v; stage = members.Closed }) (members.Held v) tt is_v
agreed_of name x (Some u) v is is_v = still_of name x is

ask_of : (name : Text) (x : members.Member Value) (h : Option Value) → IsStageOf name x.stage → ForSome h (IsBuildOf name) → IsOutcomeOf name (on_ask x h)
ask_of name x None is is_h = still_of name x is
ask_of name x (Some v) is is_h = says_of name x (messages.Agreed v) is (is_h v refl)

-- a received message
pub message_of : (name : Text) (enough : Quorums) (i : ℕ) (x : members.Member Value) (y : messages.Message Value)
    → AreFactsOf name (facts_of x) → IsStageOf name x.stage → IsSayable name y → IsOutcomeOf name (on_message enough i x y)
message_of name enough i x (messages.Offer c) are is is_y = offer_of name i x c are is is_y
message_of name enough i x (messages.Promise p) are is is_y = promise_of name enough x x.stage p is is is_y.1
message_of name enough i x (messages.Propose b) are is is_y = propose_of name i x b are is is_y
message_of name enough i x (messages.Vote m c) are is is_y = vote_of name enough x x.stage m c is is
message_of name enough i x (messages.Nay m c p) are is is_y = still_of name x is
message_of name enough i x (messages.Agreed v) are is is_y = agreed_of name x x.held v is is_y
message_of name enough i x messages.Ask are is is_y = ask_of name x x.held is are.held

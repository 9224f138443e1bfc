-- What is known of a unit, by a member's fields.
use Rattle.std.proofs.Common.{◌≡◌, ◌<◌, ◌∙◌, ℕ, ap, get_or, length, subst, sym}
use Rattle.std.proofs.lemmas.List.{get_or-map, length-map}
use Rattle.claims.specs.Member.{no_facts}
use Rattle.ballots.specs.InTheAgreement.{IsVoter}
use Rattle.protocol.specs.InTheAgreement.{view}
use Rattle.protocol.specs.Member.{IsMember}
use Rattle.protocol.specs.State.{State, Value, facts_at}
use Rattle.member.specs.declared.known.Known.{Known}
use Rattle.member.specs.declared.member.Member.TheInside.{Inside}
use Rattle.member.specs.shared.Fields.{facts_of_known, state_of}

-- the state that a contract sees is a member's
pub seen_member : (m : Inside) (s : State) → state_of m ≡ s → IsMember (state_of m) → IsMember s
seen_member m s view_is is = subst IsMember view_is is

-- each unit has its place in the list of facts
pub unit_within : (m : Inside) (s : State) (u : ℕ) → state_of m ≡ s → IsMember (state_of m)
    → u < length s.division.units → u < length m.known.items
unit_within m s u view_is is lt =
    let within = subst (λ (s : State). u < length s.division.units) (sym view_is) lt in
    let each = sym is.each ∙ length-map m.known.items facts_of_known in
    subst (λ n. u < n) each within

-- and the facts there are those of the member
pub facts_known : (m : Inside) (s : State) (u : ℕ) (k : Known) → state_of m ≡ s
    → u < length m.known.items → k ≡ get_or m.known.items u k → facts_at s u ≡ facts_of_known k
facts_known m s u k view_is lt at =
    ap (λ s. facts_at s u) (sym view_is)
    ∙ (get_or-map facts_of_known m.known.items u k no_facts lt ∙ ap facts_of_known (sym at))

-- so its voter is that of the abstract member
pub voter_known : (s : State) (u : ℕ) (k : Known) → facts_at s u ≡ facts_of_known k
    → IsVoter Value k.voter (view s u)
voter_known s u k known =
    record { promised = ap (λ f. f.promised) known; voted = ap (λ f. f.voted) known }

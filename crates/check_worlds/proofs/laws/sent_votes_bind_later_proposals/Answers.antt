use Rattle.std.proofs.Common.{◌≡◌, ◌≤◌, ◌&&◌, ℕ, List, true, ap, arith, length, nat_le, subst, sym}
use Rattle.std.proofs.lemmas.Bool.{and_parts, leb-true}
use Rattle.std.specs.List.{list_all}
use Rattle.claims.specs.Quorums.{is_majority}
use Rattle.ballots.specs.Weights.{AreWeights, is_weight}
use Rattle.claims.specs.Claim.{most_members}
use Rattle.one_list.specs.Safety.{LaterRepeats, SentVotesAreNoted}
use Rattle.world.specs.Sent.{voters}
use Rattle.world.specs.World.{start}
use Rattle.check_worlds.proofs.Knowing.{at_end}
use Rattle.check_worlds.proofs.laws.sent_votes_bind_later_proposals.Goals as goal

-- there are at most nine members
few_members : (weights : List ℕ) → AreWeights weights → length weights ≤ most_members
few_members weights are =
    let counted = and_parts (nat_le 1 (length weights) && nat_le (length weights) most_members) (list_all is_weight weights) are in
    leb-true (length weights) most_members (and_parts (nat_le 1 (length weights)) (nat_le (length weights) most_members) counted.0).1

pub returns : goal.returns
returns g division weights events last name c d a b made led voted proposed later at =
    let same : last.weights ≡ weights = (g.events_lead_to_later_worlds.ensures (start division weights) last events led).weights in
    let repeats : LaterRepeats last = at_end division weights events last LaterRepeats
    (g.worlds_have_one_list.ensures.later_repeats division weights events last made led) in
    let noted : SentVotesAreNoted last = at_end division weights events last SentVotesAreNoted
    (g.worlds_have_one_list.ensures.votes_noted division weights events last made led) in
    let few = few_members weights made.weigh in
    let many : length last.weights ≡ length weights = ap length same in
    let said = proposed.1.is_message in
    repeats name c d a b (voters last last.sent name c)
    (subst (λ (ws : List ℕ). is_majority ws (voters last last.sent name c) ≡ true) (sym same) voted)
    (λ k lt among. noted k name c (record {
      is_message = record { sender = omega (arith, lt, few, many); tree = said.tree; path = said.path; body = said.body.0 };
      went_out = among;
    }))
    proposed later at

use Rattle.std.proofs.Common.{◌≡◌, ℕ, true, false, List, length, slice_set, sym, ap, ◌∙◌, arith, set-set}
use Rattle.std.proofs.lemmas.List.{length-set}
use Rattle.ballots.specs.Support.{Support}
use Rattle.faults.specs.Bytes.{Text, is_among}
use Rattle.simulator.proofs.Voting.{voters_below, voters_more}
use Rattle.simulator.specs.inside.Deciding.{sender_place}
use Rattle.simulator.proofs.votes.voters.Goals as goal
use Rattle.simulator.proofs.votes.voters.Goals.{then-contains, else-contains}

pub loop-member-preserved : goal.loop-member-preserved
loop-member-preserved c =
    let l = c.loop-member in
    let sent : List Text = c.args.sent.now in
    let length_is = ap length c.put.ensures ∙ length-set l.vote 5 l.member ∙ l.invariant.length in
    let same = λ (k : ℕ). ap (λ t. slice_set t 5 k) c.put.ensures ∙ set-set l.vote 5 l.member k
    ∙ l.invariant.vote k in
    let test : c.contains.result ≡ is_among sent (slice_set c.args.text.now sender_place l.member) =
    c.contains.ensures ∙ ap (is_among sent) (c.put.ensures ∙ l.invariant.vote l.member) in
    elim c.if-contains.branch [
      | then-contains w ↦ record {
        length = length_is;
        vote = same;
        weights = ap (λ (s : Support). s.weights) (w.tally-is ∙ w.join.ensures)
            ∙ l.invariant.weights;
        voters = voters_more l.member sent c.args.text.now true l.tally c.if-contains.tally
            (sym w.if-contains.true ∙ test) (w.tally-is ∙ w.join.ensures) l.invariant.voters;
      }
      | else-contains w ↦ record {
        length = length_is;
        vote = same;
        weights = ap (λ (s : Support). s.weights) w.tally-is ∙ l.invariant.weights;
        voters = voters_more l.member sent c.args.text.now false l.tally c.if-contains.tally
            (sym w.if-contains.false ∙ test) w.tally-is l.invariant.voters;
      }
    ]

pub returns-clause-voters : goal.returns-clause-voters
returns-clause-voters c =
    let all : c.loop-member.member ≡ length c.args.weights.now = omega arith in
    c.loop-member.invariant.voters
    ∙ ap (λ n. voters_below n c.args.sent.now c.args.text.now) all

use Rattle.std.proofs.Common.{◌∙◌}
use Rattle.member.proofs.SaidAgain.{building_said, gathering_said, unit_seen, voting_said}
use Rattle.member.proofs.member.Member.nudged.Goals as goal

pub sent-requires : goal.sent-requires
sent-requires c =
    unit_seen c.self.inside c.args.self.now c.in-Some.open c.self.invariant c.self.view_is
    c.in-Some.is

pub proposed-requires : goal.proposed-requires
proposed-requires c =
    unit_seen c.self.inside c.args.self.now c.in-Some.open c.self.invariant c.self.view_is
    c.in-Some.is

pub returns-in_ok-sends-in-Gathering : goal.returns-in_ok-sends-in-Gathering
returns-in_ok-sends-in-Gathering c =
    gathering_said c.self.inside c.args.self.now c.in-Some.open c.self.invariant c.self.view_is
    c.in-Some.is c.in-Gathering.claim c.in-Gathering.promised c.in-Gathering.report c.saying.result
    c.missing-to.result.items c.in-Gathering.is c.missing-to.ensures c.saying.ensures.note
    (c.saying.ensures.sends ∙ c.in_ok-sends-in-Gathering.ensures) c.saying.ensures.job
    c.saying.ensures.change

pub returns-in_ok-building_again-in-Building : goal.returns-in_ok-building_again-in-Building
returns-in_ok-building_again-in-Building c =
    building_said c.self.inside c.args.self.now c.in-Some.open c.self.invariant c.self.view_is
    c.in-Some.is c.in-Building.claim c.in-Building.weights
    c.in_ok-building_again-in-Building.field-0 c.in-Building.is
    c.in_ok-building_again-in-Building.ensures

pub returns-in_ok-sends-in-Voting : goal.returns-in_ok-sends-in-Voting
returns-in_ok-sends-in-Voting c =
    let s = c.args.self.now in
    let claim = c.in-Voting.claim in
    let sends = c.saying-in-Voting.ensures.sends ∙ c.in_ok-sends-in-Voting.ensures in
    voting_said c.self.inside s c.in-Some.open c.self.invariant c.self.view_is c.in-Some.is claim
    c.in-Voting.value c.in-Voting.voted c.saying-in-Voting.result
    c.missing-to-in-Voting.result.items c.in-Voting.is c.missing-to-in-Voting.ensures
    c.saying-in-Voting.ensures.note sends c.saying-in-Voting.ensures.job
    c.saying-in-Voting.ensures.change

use Rattle.claims.proofs.Majorities.{majorities_share, majority_counted, majority_grows}
use Rattle.claims.proofs.quorum.majorities_meet.Goals as goal

pub returns-clause-meet : goal.returns-clause-meet
returns-clause-meet c = majorities_share

pub returns-clause-grow : goal.returns-clause-grow
returns-clause-grow c = majority_grows

pub returns-clause-counted : goal.returns-clause-counted
returns-clause-counted c = majority_counted

use Rattle.protocol.proofs.MadeBuilds.{builds_are_of_units}
use Rattle.protocol.proofs.GivenJobs.{jobs_are_of_claims, jobs_stay}
use Rattle.protocol.proofs.HeldRecords.{builds_stand, jobs_have_all}
use Rattle.protocol.proofs.MembersStay.{claims_were_ready}
use Rattle.protocol.proofs.WaitingClaims.{waiting_claims, waits_once_promised}
use Rattle.protocol.proofs.laws.jobs_stay.Goals as goal

pub returns-clause-signed : goal.returns-clause-signed
returns-clause-signed c = builds_stand

pub returns-clause-needed : goal.returns-clause-needed
returns-clause-needed c = jobs_have_all

pub returns-clause-given : goal.returns-clause-given
returns-clause-given c = jobs_are_of_claims

pub returns-clause-stay : goal.returns-clause-stay
returns-clause-stay c = jobs_stay

pub returns-clause-builds : goal.returns-clause-builds
returns-clause-builds c = builds_are_of_units

pub returns-clause-waiting : goal.returns-clause-waiting
returns-clause-waiting c = waiting_claims

pub returns-clause-promised : goal.returns-clause-promised
returns-clause-promised c = waits_once_promised

pub returns-clause-ready : goal.returns-clause-ready
returns-clause-ready c = claims_were_ready

use Rattle.claims.specs.Quorums.{is_majority}
use Rattle.claims.proofs.Majorities.{majorities}
use Rattle.claims.proofs.Agreed.{value_is_agreed, stays_agreed, held_is_agreed, agreed_is_built}
use Rattle.claims.proofs.one_path.majorities_agree.Goals as goal

pub returns-clause-value : goal.returns-clause-value
returns-clause-value g c = λ weights events. value_is_agreed _ (is_majority weights) (majorities weights) events

pub returns-clause-stays : goal.returns-clause-stays
returns-clause-stays g c = λ weights early late v e. stays_agreed (is_majority weights) early late v e

pub returns-clause-held : goal.returns-clause-held
returns-clause-held g c = λ weights events i v e. held_is_agreed _ (is_majority weights) (majorities weights) events i v e

pub returns-clause-built : goal.returns-clause-built
returns-clause-built g c = λ weights events v e. agreed_is_built _ (is_majority weights) (majorities weights) events v e

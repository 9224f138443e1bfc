use Rattle.std.proofs.Common.{length}
use Rattle.claims.specs.Quorums.{is_majority}
use Rattle.claims.proofs.Majorities.{majorities}
use Rattle.claims.proofs.Matching.{net_grows, net_allowed, net_held, net_sim}
use Rattle.claims.proofs.all_paths.nodes_have_one_list.Goals as goal

pub returns-clause-grows : goal.returns-clause-grows
returns-clause-grows g c = λ weights may m early late. net_grows _ (is_majority weights) (majorities weights) may m (length weights) early late

pub returns-clause-allowed : goal.returns-clause-allowed
returns-clause-allowed g c = λ weights may m events. net_allowed _ (is_majority weights) (majorities weights) may m (length weights) events

pub returns-clause-held : goal.returns-clause-held
returns-clause-held g c = λ weights may m events i p node v e h. net_held _ (is_majority weights) (majorities weights) may m (length weights) events i p node v e h

pub returns-clause-alike : goal.returns-clause-alike
returns-clause-alike g c = λ weights may m events. net_sim _ (is_majority weights) (majorities weights) may m (length weights) events

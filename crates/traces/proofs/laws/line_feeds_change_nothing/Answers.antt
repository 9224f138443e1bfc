use Rattle.traces.proofs.LineFeeds.{builds_fed, trace_fed}
use Rattle.traces.proofs.laws.line_feeds_change_nothing.Goals as goal

pub returns-clause-trace : goal.returns-clause-trace
returns-clause-trace c = trace_fed

pub returns-clause-builds : goal.returns-clause-builds
returns-clause-builds c = builds_fed

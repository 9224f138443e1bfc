use Rattle.std.proofs.Common.{◌∙◌}
use Rattle.traces.specs.Written.{trace_text}
use Rattle.traces.proofs.LineFeeds.{trace_fed}
use Rattle.traces.proofs.TraceTexts.{trace_text_again}
use Rattle.traces.proofs.laws.texts_are_read_again.Goals as goal

pub returns-clause-text : goal.returns-clause-text
returns-clause-text c = trace_text_again

pub returns-clause-line : goal.returns-clause-line
returns-clause-line c = λ t good. trace_fed (trace_text t) ∙ trace_text_again t good

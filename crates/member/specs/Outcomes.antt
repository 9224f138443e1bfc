-- What an outcome contains.
use Rattle.protocol.specs.Step.{Told}
use Rattle.protocol.specs.declared.outcome.Outcome.{Outcome}

-- what is to be noted, sent and built
abbrev pub told : Outcome → Told
told o = (o.note, o.sends, o.job)

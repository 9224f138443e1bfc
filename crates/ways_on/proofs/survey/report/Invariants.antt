use Rattle.std.proofs.Common.{◌≡◌, ℕ, None, Some, take}
use Rattle.std.specs.Option.{option_copied}
use Rattle.claims.specs.Votes.{report_of}
use Rattle.engine.specs.Division.{number_found}
use Rattle.ways_on.specs.inside.Listed.{report_of_all}
use Rattle.ways_on.proofs.survey.report.Given as goal

abbrev pub invariant-loop-node : goal.invariant-loop-node
invariant-loop-node l = (u : ℕ) → number_found l.world.world.division l.path ≡ Some u
    → report_of (option_copied l.kept)
    ≡ report_of_all l.world.world u None (take l.node-index l.asked)

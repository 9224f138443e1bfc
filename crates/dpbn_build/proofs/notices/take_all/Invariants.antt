use Rattle.std.proofs.Common.{◌≡◌}
use Rattle.dpbn_build.specs.Turns.{HasExchanged}
use Rattle.dpbn_build.proofs.notices.take_all.Given as goal

abbrev pub invariant-loop : goal.invariant-loop
invariant-loop g l =
    (l.solo ≡ record l.initial.solo { port = l.solo.port })
    × HasExchanged g.P.BuildPort.noticed l.initial.solo.port l.solo.port

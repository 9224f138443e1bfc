use Rattle.std.proofs.Common.{◌≡◌, take}
use Rattle.engine.specs.Division.{unit_at}
use Rattle.member.specs.inside.Units.{agreed_too}
use Rattle.member.proofs.facts.agree.Given as goal

abbrev pub invariant-loop-position : goal.invariant-loop-position
invariant-loop-position l =
    l.engine ≡ agreed_too l.initial.engine (take l.position-index (unit_at l.units l.unit).packages)

use Rattle.std.proofs.Common.{◌≡◌, map, replicate}
use Rattle.claims.specs.Member.{no_facts}
use Rattle.member.specs.shared.Fields.{facts_of_known}
use Rattle.member.proofs.member.all_unknown.Given as goal

abbrev pub invariant-loop-unit : goal.invariant-loop-unit
invariant-loop-unit l = map facts_of_known l.known.items ≡ replicate l._unit no_facts

use Rattle.std.proofs.Common.{◌≡◌, ◌++◌, take}
use Rattle.simulator.specs.inside.Tables.{AreListed, HasGrown, list_in}
use Rattle.simulator.proofs.tables.Tables.append.Given as goal

abbrev pub invariant-loop-package : goal.invariant-loop-package
invariant-loop-package l = record {
  listed : AreListed l.self;
  list : list_in l.self ≡ list_in l.initial.self ++ take l.package-index l.packages;
  grown : HasGrown l.initial.self l.self;
  sent : l.self.sent ≡ l.initial.self.sent;
}

use Rattle.std.proofs.Common.{◌≡◌, ◌++◌, length}
use Rattle.wire.specs.inside.Cuts.{IsCut, text_in}
use Rattle.wire.proofs.cuts.Cuts.put.Given as goal

abbrev pub invariant-loop-rest : goal.invariant-loop-rest
invariant-loop-rest l = record {
  cut : IsCut l.self;
  text : text_in l.self ++ l.rest ≡ text_in l.initial.self ++ l.text;
}

abbrev pub decreases-loop-rest : goal.decreases-loop-rest
decreases-loop-rest l = length l.rest

use Rattle.std.proofs.Common.{sym}
use Rattle.listing.proofs.Fields.{three_and_more}
use Rattle.listing.proofs.dependency.path_field.Goals as goal

pub returns-then-is_some : goal.returns-then-is_some
returns-then-is_some c =
    three_and_more (λ halves. halves.0.now) (λ halves. halves.1.now) c.args.word.now c.in-Some.first.now c.in-Some-split_once.second.now c.in-Some.rest.now
    c.in-Some-split_once.third.now c.split_once-3.result c.in-Some.ensures.pieces c.in-Some-split_once.ensures.pieces c.split_once-3.ensures.pieces (sym c.if-is_some.ensures)

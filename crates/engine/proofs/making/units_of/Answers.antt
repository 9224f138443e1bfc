use Rattle.std.proofs.Common.{◌∙◌, length, map, ap, subst, sym}
use Rattle.std.proofs.lemmas.Iterator.Adapters.{YieldsList-from_vec}
use Rattle.std.proofs.lemmas.Iterator.Consumers.{YieldsList-end, YieldsList-turn}
use Rattle.std.proofs.lemmas.List.{map-id}
use Rattle.engine.proofs.OneUnit.{unit_more}
use Rattle.engine.specs.Units.{unit_from}
use Rattle.engine.specs.inside.Gathering.{lists_of}
use Rattle.engine.specs.inside.UnitKeeping.{AreAlike}
use Rattle.engine.proofs.making.units_of.Goals as goal

pub unit_of-requires-clause-alike : goal.unit_of-requires-clause-alike
unit_of-requires-clause-alike c =
    let gives = c.into_iter-positions-iterator.ensures.into_iter_gives in
    let all = YieldsList-from_vec {s = c.into_iter-positions-iterator.result} c.args.packages.items gives.0 (gives.1 ∙ c.args.packages.ok.0) in
    let turn = YieldsList-turn all c.loop-positions.yielded c.loop-positions.positions-iterator c.loop-positions.yielded_by c.next.result c.next.new.self c.in-Some.positions c.in-Some.is c.next.ensures.steps in
    subst (λ v. AreAlike c.args.tree.now v.items) (sym turn.1) (c.requires.alike (length c.loop-positions.yielded) c.in-Some.positions turn.0)

pub loop-positions-preserved : goal.loop-positions-preserved
loop-positions-preserved c =
    unit_more c.args.tree.now c.loop-positions.units.items c.push.new.self.items c.loop-positions.yielded c.in-Some.positions c.in_ok-unit_of.field-0
    c.in_ok-unit_of.ensures c.loop-positions.invariant c.in_ok-push.ensures.items

pub returns : goal.returns
returns c =
    let gives = c.into_iter-positions-iterator.ensures.into_iter_gives in
    let all = YieldsList-from_vec {s = c.into_iter-positions-iterator.result} c.args.packages.items gives.0 (gives.1 ∙ c.args.packages.ok.0) in
    let end = YieldsList-end all c.loop-positions.yielded c.loop-positions.positions-iterator c.loop-positions.yielded_by c.next.result c.next.new.self c.in-None.is c.next.ensures.steps in
    c.loop-positions.invariant ∙ ap (λ vs. map (unit_from c.args.tree.now) (lists_of vs)) (sym (map-id c.loop-positions.yielded) ∙ end.0)

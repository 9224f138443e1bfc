use Rattle.std.proofs.Common.{sym, ◌∙◌}
use Rattle.node.proofs.Reading.{has_name}
use Rattle.node.proofs.opening.is_unit.Goals as goal

pub returns-in-Some : goal.returns-in-Some
returns-in-Some c =
    has_name c.args.units.now c.args.note.now.path c.name.result.now c.in-Some.unit c.eq.result (sym c.find.ensures ∙ c.in-Some.is) (sym c.name.ensures) c.eq.ensures

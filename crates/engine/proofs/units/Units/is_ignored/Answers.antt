use Rattle.std.proofs.Common.{◌∙◌, not, is_some, ap, sym}
use Rattle.std.proofs.lemmas.Bool.{not-false}
use Rattle.engine.proofs.Kept.{ignored_number}
use Rattle.engine.proofs.units.Units.is_ignored.Goals as goal

pub returns : goal.returns
returns c =
    let tells = ignored_number c.args.self.now c.args.position c.unit_of.ensures.division c.requires in (
      λ e. tells.0 (sym (ap is_some c.unit_of.ensures.number) ∙ c.is_none.ensures ∙ ap not e),
      λ ignored. not-false c.is_none.result (sym c.is_none.ensures ∙ ap is_some c.unit_of.ensures.number ∙ tells.1 ignored),
    )

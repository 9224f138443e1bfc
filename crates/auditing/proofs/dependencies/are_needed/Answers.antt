use Rattle.std.proofs.Common.{◌∙◌, ap, refl, sym}
use Rattle.engine.specs.Division.{unit_at}
use Rattle.engine.specs.Units.{Unit}
use Rattle.engine.proofs.Once.{one_unit}
use Rattle.auditing.proofs.OfUnit.{unit_missing, unit_there}
use Rattle.engine.proofs.Places.{equal_bytes, same_bytes}
use Rattle.auditing.proofs.dependencies.are_needed.Goals as goal

pub returns-in-Some : goal.returns-in-Some
returns-in-Some c =
    let d = c.args.units.now in
    let p = c.args.position in
    let u = unit_at d c.in-Some.unit in
    let is = unit_there d d.tree p c.in-Some.unit refl c.in-Some.ensures.division c.requires.listed c.requires.not_ignored (sym c.in-Some.ensures.number) in (
      λ yes. record {
        unit = u;
        of_unit = is;
        are = same_bytes c.args.positions.now c.build_deps.result.now (sym c.eq.ensures ∙ yes) ∙ c.build_deps.ensures.value;
      },
      λ needed.
          let build = c.build_deps.ensures.value ∙ ap (λ (v : Unit). v.build) (one_unit d.tree p u needed.unit is needed.of_unit) in
          c.eq.ensures ∙ equal_bytes c.args.positions.now c.build_deps.result.now (needed.are ∙ sym build),
    )

pub returns-in-None : goal.returns-in-None
returns-in-None c =
    absurd (unit_missing c.args.units.now c.args.units.now.tree c.args.position refl c.in-None.ensures.division c.requires.listed
    c.requires.not_ignored (sym c.in-None.ensures.number))

use Rattle.std.proofs.Common.{Ok, ap, sym, ◌∙◌}
use Rattle.ballots.specs.Value.{Value}
use Rattle.faults.specs.Bytes.{Text}
use Rattle.package_record.proofs.BuildsRead.{build_is_read}
use Rattle.package_record.specs.BuildReading.{whole_build_of}
use Rattle.wire.specs.Messages.{IsBuildOf}
use Rattle.wire.specs.Reading.{build_in}
use Rattle.wire.proofs.FieldTexts.{whole_build_read}
use Rattle.wire.proofs.known.same_build.Goals as goal

pub returns-in-Ok : goal.returns-in-Ok
returns-in-Ok c =
    let name = c.args.unit.now in
    let build = c.args.known.now in
    let of : IsBuildOf name build = record {
      build_is = c.is_of_unit.ensures.build;
      unit = c.is_of_unit.ensures.unit c.if-not-is_of_unit.false;
    } in
    ap (λ (t : Text). build_in name (whole_build_of t)) (c.is_text.ensures c.if-not-is_text.false)
    ∙ whole_build_read build_is_read name build of
    ∙ ap (λ (b : Value). Ok b) (sym c.in-Ok.ensures)

use Rattle.std.proofs.Common.{◌≡◌, ◌++◌, length, ap, ◌∙◌, arith}
use Rattle.faults.specs.Bytes.{Text}
use Rattle.package_record.specs.Build.{build_text}
use Rattle.wire.proofs.Builds.{build_length_fits}
use Rattle.wire.proofs.writing.put_size.Goals as goal

pub put_number-requires-clause-fits : goal.put_number-requires-clause-fits
put_number-requires-clause-fits c =
    let build = c.args.build.now in
    let written : c.write_to.new.out.items ≡ build_text build =
    c.in_ok-write_to.ensures.ok ∙ ap (λ (t : Text). t ++ build_text build) c.new-text.ensures.items in
    omega (arith, c.len.ensures, build_length_fits build c.requires, ap length written, c.write_to.new.out.ok.0)

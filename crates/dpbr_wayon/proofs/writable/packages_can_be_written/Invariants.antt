use Rattle.std.proofs.Common.{take}
use Rattle.std.specs.Prelude.{All}
use Rattle.dpbr_wayon.specs.inside.Sound.{AreTextFiles}
use Rattle.traces.specs.Again.{IsTextPackage}
use Rattle.dpbr_wayon.proofs.writable.packages_can_be_written.Given as goal

abbrev pub invariant-loop-package : goal.invariant-loop-package
invariant-loop-package l =
    AreTextFiles l.given → All IsTextPackage (take l.package-index l.given)

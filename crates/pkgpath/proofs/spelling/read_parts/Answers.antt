use Rattle.std.proofs.Common.{◌<◌, ◌≤◌, inr, sym, ap, ◌∙◌, arith, Ok}
use Rattle.std.specs.List.{count_by}
use Rattle.faults.specs.Bytes.{comma, is_empty}
use Rattle.faults.specs.Pieces.{pieces_at}
use Rattle.pkgpath.proofs.FirstFault.{no_directory_fault, path_of-bad_part, path_of-directory, path_of-right, path_of-two_empty_parts, path_of-two_subpackages}
use Rattle.pkgpath.specs.PkgPath.{is_subpackage}
use Rattle.pkgpath.proofs.spelling.read_parts.Goals as goal

pub returns-in-Some : goal.returns-in-Some
returns-in-Some c = inr (path_of-directory c.args.text.now c.args.directory.now (pieces_at comma c.args.parts.now) c.requires.filled c.requires.short c.requires.cut c.in-Some.fault (sym c.in-Some.ensures))

pub returns-in_default-count_parts : goal.returns-in_default-count_parts
returns-in_default-count_parts c =
    let parts = pieces_at comma c.args.parts.now in
    let good = no_directory_fault c.args.text.now c.args.directory.now parts c.requires.filled c.requires.short c.requires.cut (sym c.in_default.ensures) in
    inr (path_of-bad_part c.args.text.now c.args.directory.now parts c.requires.filled c.requires.short c.requires.cut good.0 good.1 c.in_default-count_parts.ensures)

pub returns-then-tally-gt1 : goal.returns-then-tally-gt1
returns-then-tally-gt1 c =
    let parts = pieces_at comma c.args.parts.now in
    let good = no_directory_fault c.args.text.now c.args.directory.now parts c.requires.filled c.requires.short c.requires.cut (sym c.in_default.ensures) in
    let counted = c.in-Some-count_parts.ensures in
    let two : 1 < count_by is_subpackage parts = omega (arith, counted.1.subpackages) in
    inr (path_of-two_subpackages c.args.text.now c.args.directory.now parts c.requires.filled c.requires.short c.requires.cut good.0 good.1 counted.0 two)

pub returns-then-tally-gt1-2 : goal.returns-then-tally-gt1-2
returns-then-tally-gt1-2 c =
    let parts = pieces_at comma c.args.parts.now in
    let good = no_directory_fault c.args.text.now c.args.directory.now parts c.requires.filled c.requires.short c.requires.cut (sym c.in_default.ensures) in
    let counted = c.in-Some-count_parts.ensures in
    let one : count_by is_subpackage parts ≤ 1 = omega (arith, counted.1.subpackages) in
    let two : 1 < count_by is_empty parts = omega (arith, counted.1.empties) in
    inr (path_of-two_empty_parts c.args.text.now c.args.directory.now parts c.requires.filled c.requires.short c.requires.cut good.0 good.1 counted.0 one two)

pub returns : goal.returns
returns c =
    let parts = pieces_at comma c.args.parts.now in
    let good = no_directory_fault c.args.text.now c.args.directory.now parts c.requires.filled c.requires.short c.requires.cut (sym c.in_default.ensures) in
    let counted = c.in-Some-count_parts.ensures in
    let one : count_by is_subpackage parts ≤ 1 = omega (arith, counted.1.subpackages) in
    let one' : count_by is_empty parts ≤ 1 = omega (arith, counted.1.empties) in
    path_of-right c.args.text.now c.args.directory.now parts c.requires.filled c.requires.short c.requires.cut good.0 good.1 counted.0 one one'
    ∙ ap (λ text. Ok text) (sym c.in_ok-write_canonical.ensures)

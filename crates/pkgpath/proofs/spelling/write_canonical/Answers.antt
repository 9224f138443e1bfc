use Rattle.std.proofs.Common.{◌≡◌, ◌++◌, ap, sym, ◌∙◌}
use Rattle.faults.specs.Bytes.{comma}
use Rattle.faults.specs.Pieces.{pieces_at}
use Rattle.pkgpath.proofs.Writing.{canonical_text-from}
use Rattle.pkgpath.proofs.spelling.write_canonical.Goals as goal

pub returns : goal.returns
returns c =
    let directory : c.extend_from_slice.new.self.items ≡ c.args.directory.now = c.in_ok-extend_from_slice.ensures.items ∙ ap (λ text. text ++ c.args.directory.now) c.in_ok-text.ensures.items in
    let whole = canonical_text-from c.args.directory.now (pieces_at comma c.args.parts.now) in
    rw (c.in_ok-push_subpackage.ensures, c.in_ok-push_flavors.ensures, c.in_ok-push_mark.ensures, directory, c.requires.empties, c.requires.flavors, c.requires.subpackage) (sym whole)

use Rattle.std.proofs.Common.{◌≡◌, ◌∙◌, refl}
use Rattle.std.specs.Char.{is_ascii_digit}
use Rattle.std.specs.List.{prefix_len}
use Rattle.std.proofs.lemmas.List.Folds.{length-prefix_len}
use Rattle.pkgname.proofs.Fronts.{list_all-take_while}
use Rattle.pkgname.proofs.component.Component.new.Goals as goal

pub new-requires : goal.new-requires
new-requires c =
    let digits : c.leading_digits.result ≡ prefix_len is_ascii_digit c.args.piece.now = c.leading_digits.ensures ∙ length-prefix_len is_ascii_digit c.args.piece.now in
    rw (c.split_at.ensures.front, digits) (list_all-take_while is_ascii_digit c.args.piece.now)

pub returns : goal.returns
returns c =
    let digits : c.leading_digits.result ≡ prefix_len is_ascii_digit c.args.piece.now = c.leading_digits.ensures ∙ length-prefix_len is_ascii_digit c.args.piece.now in
    let front = rw digits at c.split_at.ensures.front in
    let back = rw digits at c.split_at.ensures.back in
    rw (c.new.ensures, front, back) refl

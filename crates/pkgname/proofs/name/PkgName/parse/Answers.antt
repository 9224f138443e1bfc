use Rattle.std.proofs.Common.{rules, ◌≡◌, ◌+◌, ◌∙◌, arith, ap, drop, false, Some, sym, take, true, ◌∷◌}
use Rattle.std.proofs.lemmas.List.{length-drop, take_rest}
use Rattle.std.specs.Char.{is_ascii_digit}
use Rattle.std.specs.List.{list_all, list_any}
use Rattle.faults.specs.Bytes.{dash, is_empty}
use Rattle.faults.specs.Pieces.{pieces_at}
use Rattle.pkgname.specs.Inside.{behind_place}
use Rattle.pkgname.specs.Pieces.{pieces_behind}
use Rattle.pkgname.specs.PkgName.{is_name_byte, version_dash}
use Rattle.pkgname.proofs.Cutting.{behind_place-drop}
use Rattle.pkgname.proofs.Splitting.{name_from_parts, parts_from_pieces, version_behind, version_dash-Some}
use Rattle.pkgname.proofs.name.PkgName.parse.Goals as goal

pub invariant_of-result : goal.invariant_of-result
invariant_of-result c =
    let text = c.args.text.now in
    let place = c.in-Some.dash in
    let long = c.in_ok-version_length.version_length in
    let found : version_dash is_ascii_digit c.args.text.now ≡ Some c.in-Some.dash = sym c.dash_before_version.ensures.place ∙ c.in-Some.is in
    let bytes : list_all is_name_byte c.args.text.now ≡ true = sym c.has_name_bytes.ensures ∙ c.if-not-has_name_bytes.false in
    let inside = c.in-Some.ensures.within in
    let cut = rw (take_rest c.args.text.now (c.in-Some.dash + 1)) at c.in_ok-version_length.ensures.ok in
    let behind = behind_place-drop text (place + 1) long (omega arith) in
    let pieces : pieces_at dash (drop (place + 1) text) ≡ take long (drop (place + 1) text) ∷ pieces_behind dash (behind_place text (place + 1 + long)) =
    cut.1 ∙ ap (λ left. take long (drop (place + 1) text) ∷ pieces_behind dash left) behind in
    let filled : list_any is_empty (pieces_behind dash (behind_place text (place + 1 + long))) ≡ false = rw pieces at cut.2 in
    let same : c.in_ok-text.text ≡ text = c.in_ok-text.ensures in
    let parts = parts_from_pieces text place _ _ found pieces in
    record {
      name = rw same (name_from_parts text _ c.if-text-gt-LONGEST.false bytes parts filled);
      within = rw same (omega (arith, length-drop (place + 1) text, cut.0));
      parts = rw same parts;
      version = rw same (version_behind text place _ _ bytes (version_dash-Some is_ascii_digit text place found) pieces);
    }

pub returns-in_default : goal.returns-in_default
returns-in_default c = search rules

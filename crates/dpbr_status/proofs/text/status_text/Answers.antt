use Rattle.std.proofs.Common.{◌≡◌, ◌∙◌, ◌<◌, ◌++◌, length, rules, arith, ap, sym}
use Rattle.listing.specs.Tree.{Tree, name_at, path_at}
use Rattle.faults.specs.Bytes.{Text}
use Rattle.dpbr_status.specs.Status.{package_line}
use Rattle.program_io.specs.NodeLine.{counts_line}
use Rattle.dpbr_status.proofs.PackageLines.{all_lines, lines_more}
use Rattle.dpbr_status.proofs.text.status_text.Goals as goal

pub loop-position-preserved : goal.loop-position-preserved
loop-position-preserved c =
    let p = c.loop-position.position in
    let tree = c.args.letters.now.tree in
    let within : p < length tree = omega (arith, ap length c.requires) in
    let path : c.path.result.now ≡ path_at tree p = c.path.ensures ∙ ap (λ (t : Tree). path_at t p) (sym c.requires) in
    let name : c.name.result.now ≡ name_at tree p = c.name.ensures ∙ ap (λ (t : Tree). name_at t p) (sym c.requires) in
    lines_more c.args.letters.now p c.letter-letter.result c.loop-position.text.items c.write_package.new.text.items
    c.loop-position.invariant within c.letter-letter.ensures
    (c.in_ok-write_package.ensures ∙ (λ i. c.loop-position.text.items ++ package_line c.letter-letter.result (path i) (name i)))

pub returns : goal.returns
returns c =
    let tree = c.args.letters.now.tree in
    let end : c.loop-position.position ≡ length tree = omega (arith, ap length c.requires) in
    let all = all_lines c.args.letters.now c.loop-position.position c.loop-position.text.items c.loop-position.invariant end in
    let appended : c.extend_from_slice.new.self.items ≡ c.loop-position.text.items ++ counts_line c.counts.result = search rules in
    record {
      letters = all.0;
      counts = c.counts.result;
      are_letters = all.1;
      are_counts = c.counts.ensures;
      lines = appended ∙ ap (λ (t : Text). t ++ counts_line c.counts.result) all.2;
    }

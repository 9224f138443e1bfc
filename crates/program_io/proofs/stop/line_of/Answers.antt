use Rattle.std.proofs.Common.{[], ap, append_assoc, codes, decimal, ◌≡◌, ◌∙◌, ◌++◌, ◌∷◌}
use Rattle.std.proofs.lemmas.Fmt.{contents_after_writes}
use Rattle.faults.specs.Bytes.{Text, line_feed}
use Rattle.program_io.specs.Refusals.{place_text}
use Rattle.program_io.proofs.stop.line_of.Goals as goal

pub returns-in-Ok : goal.returns-in-Ok
returns-in-Ok c =
    let told : Text = c.args.program.now ++ (codes ": fault " ++ ((decimal c.args.refusal.number ++ place_text c.args.refusal.place) ++ line_feed ∷ [])) in
    let appended : c.writeln.new.self.bytes ≡ c.new-line.result.bytes ++ told =
    contents_after_writes _ (λ line. line.bytes) (λ w bs v is. is) _ _ _ c.in-Ok.ensures.writes in
    let whole : c.writeln.new.self.bytes ≡ told = appended ∙ ap (λ (bs : Text). bs ++ told) c.new-line.ensures in
    simp append_assoc (simp append_assoc at whole)

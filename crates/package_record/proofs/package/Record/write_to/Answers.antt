use Rattle.std.proofs.Common.{◌++◌, ap, ◌∙◌, List, ℕ}
use Rattle.package_record.specs.Content.{record_text}
use Rattle.package_record.specs.Views.{content_of}
use Rattle.package_record.proofs.package.Record.write_to.Goals as goal

pub returns-clause-ok : goal.returns-clause-ok
returns-clause-ok c =
    c.in_ok-extend_from_slice.ensures.items
    ∙ ap (λ (t : List ℕ). c.args.out.now.items ++ t) (c.as_slice.ensures.value ∙ c.in_ok-text.ensures ∙ ap record_text (ap content_of c.deref.ensures ∙ c.self.view_is))

use Rattle.std.proofs.Common.{ap, ◌∙◌}
use Rattle.sha2.specs.Sha256.{sha256}
use Rattle.package_record.specs.Content.{record_text}
use Rattle.package_record.specs.Views.{content_of}
use Rattle.package_record.proofs.package.Record.digest.Goals as goal

pub returns : goal.returns
returns c = c.digest.ensures ∙ ap sha256 (c.as_slice.ensures.value ∙ c.in_ok-text.ensures ∙ ap record_text (ap content_of c.deref.ensures ∙ c.self.view_is))

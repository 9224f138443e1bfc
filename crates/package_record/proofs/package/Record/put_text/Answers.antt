use Rattle.std.proofs.Common.{◌≡◌, ◌++◌, ap, subst, ◌∙◌}
use Rattle.std.specs.Result.{OnOk}
use Rattle.package_record.specs.Content.{Content, record_text}
use Rattle.package_record.specs.Views.{content_of}
use Rattle.package_record.proofs.package.Record.put_text.Goals as goal

pub returns : goal.returns
returns c =
    subst (λ (said : Content). OnOk c.put_text.result (c.put_text.new.out.items ≡ c.args.out.now.items ++ record_text said)) (ap content_of c.deref.ensures ∙ c.self.view_is) c.put_text.ensures

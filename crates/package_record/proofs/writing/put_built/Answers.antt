use Rattle.std.proofs.lemmas.Result.{on_ok_weaker}
use Rattle.package_record.specs.Content.{IsDep}
use Rattle.package_record.proofs.writing.put_built.Goals as goal

pub returns-clause-names : goal.returns-clause-names
returns-clause-names c =
    let is_dep : IsDep c.args.dep.now = record { path = c.as_bytes.ensures.canonical; name = c.as_bytes-2.ensures.name; digest = c.digest_text.ensures.size; bytes = c.digest_text.ensures.bytes } in
    on_ok_weaker c.put_line.result (λ _. is_dep) c.put_line.ensures

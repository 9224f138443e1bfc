use Rattle.std.proofs.Common.{ap, get_or, ◌∙◌, List, ℕ}
use Rattle.package_record.proofs.Hashing.{kept_digest}
use Rattle.package_record.specs.Content.{NamedFile}
use Rattle.package_record.specs.inside.Hashed.{digest_at}
use Rattle.package_record.proofs.hashed_files.HashedFiles.digest.Goals as goal

pub returns : goal.returns
returns c =
    let kept = kept_digest c.self.inside.files.items c.args.index c.index.result.now (rw c.self.view_is c.requires) in
    c.index.ensures ∙ ap (λ (digests : List (List ℕ)). get_or digests c.args.index c.index.result.now) c.self.invariant ∙ kept
    ∙ ap (λ (seen : List NamedFile). digest_at seen c.args.index) c.self.view_is

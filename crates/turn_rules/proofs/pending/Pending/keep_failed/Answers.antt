use Rattle.std.proofs.Common.{◌≡◌, ◌∙◌, ap, subst, sym, option_map}
use Rattle.std.specs.Option.{option_copied}
use Rattle.turn_rules.proofs.Keeping.{failed_kept}
use Rattle.turn_rules.specs.Pending.{Pending, with_failed}
use Rattle.turn_rules.specs.inside.Keeping.{kept_of}
use Rattle.member.specs.OpenClaims.{open_of}
use Rattle.turn_rules.proofs.pending.Pending.keep_failed.Goals as goal

pub returns-in_ok-insert-clause-kept : goal.returns-in_ok-insert-clause-kept
returns-in_ok-insert-clause-kept c =
    let was : Pending = kept_of c.self.inside in
    let keys = c.insert.new.self.keys in
    subst (λ p. ◌≡◌ {A = Pending} (record was { failed = keys })
    (with_failed p (option_map open_of (option_copied c.args.claim)))) c.self.view_is
    (failed_kept was c.in-Some.open.now.unit keys c.in_ok-insert.ensures.keys
    ∙ ap (λ o. with_failed was (option_map open_of (option_copied o))) (sym c.in-Some.is))

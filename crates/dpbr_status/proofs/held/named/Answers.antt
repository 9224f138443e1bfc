use Rattle.std.proofs.Common.{rules, inr, refl, subst, sym, true≢false}
use Rattle.listing.specs.Tree.{Tree}
use Rattle.dpbr_status.proofs.Positions.{named_at, not_listed}
use Rattle.engine.specs.Ignored.{IsIgnored}
use Rattle.dpbr_status.proofs.held.named.Goals as goal

pub returns-in_default-clause-err : goal.returns-in_default-clause-err
returns-in_default-clause-err c = inr (refl, _, c.in-Ok.ensures, not_listed c.args.tree.now _ c.in_default.ensures)

pub returns-then-is_ignored-clause-err : goal.returns-then-is_ignored-clause-err
returns-then-is_ignored-clause-err c =
    let named = named_at c.args.tree.now c.args.line.now _ c.in-Some.position c.in-Ok.ensures c.in-Some.ensures in
    inr (refl, c.in-Some.position, named, subst (λ (t : Tree). IsIgnored t c.in-Some.position) c.requires.same (c.if-is_ignored.ensures.0 refl))

pub returns : goal.returns
returns c =
    let is = subst (λ (t : Tree). IsIgnored t c.in-Some.position → ⊥) c.requires.same (λ ignored. true≢false (sym (c.if-is_ignored.ensures.1 ignored))) in
    record {
      ok = record {
        named = named_at c.args.tree.now c.args.line.now _ c.in-Some.position c.in-Ok.ensures c.in-Some.ensures;
        not_ignored = is;
      };
      err = tt;
    }

pub returns-then-is_ignored-clause-ok : goal.returns-then-is_ignored-clause-ok
returns-then-is_ignored-clause-ok c = search rules

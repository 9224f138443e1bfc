use Rattle.std.proofs.Common.{◌≡◌, ◌∙◌, ◌+◌, ◌-◌, ◌≤◌, length, take, arith, sym, subst, Some}
use Rattle.std.proofs.lemmas.List.{take_all}
use Rattle.std.proofs.lemmas.Option.{MatchOption-at_some, slice_get-get_or}
use Rattle.listing.specs.Tree.{Tree}
use Rattle.auditing.specs.Allowed.{IsAllowed}
use Rattle.auditing.specs.Verdicts.{IsFirstBad, IsFirstReason}
use Rattle.auditing.proofs.judging.audit_entries.Goals as goal

pub returns-in-Some : goal.returns-in-Some
returns-in-Some c =
    let list = c.args.list.now in
    let k = c.loop-index.index in
    let entry = c.index-list-index.result in
    let same = c.loop-index.invariant.tree in
    let reason = MatchOption-at_some _ _ c.in-Some.reason c.in-Some.is c.in_ok-reason.ensures in
    let back : k ≡ k + 1 - 1 = omega arith in (
      omega arith,
      subst (λ n. IsFirstBad c.args.standing.now.tree.now list n c.in-Some.reason) back
          (record {
            entry = entry;
            stands = slice_get-get_or list k entry c.loop-index-test.true ∙ (λ i. Some (sym c.index-list-index.is i));
            before = subst (λ (t : Tree). IsAllowed t (take k list)) same c.loop-index.invariant.read.allowed;
            reason_is = subst (λ (t : Tree). IsFirstReason t (take k list) entry c.in-Some.reason) same reason;
          }),
    )

pub returns : goal.returns
returns c =
    let list = c.args.list.now in
    let k = c.loop-index.index in
    let past : length list ≤ k = omega arith in
    subst (IsAllowed c.args.standing.now.tree.now) (take_all k list past) (subst (λ (t : Tree). IsAllowed t (take k list)) c.loop-index.invariant.tree c.loop-index.invariant.read.allowed)

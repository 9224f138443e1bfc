-- The first reason, if everything except the dependencies is right.
use Rattle.std.proofs.Common.{◌≡◌, ℕ, List, Option, Result, None, Some, Ok, Err, sym, subst, inl, inr}
use Rattle.std.specs.Prelude.{IfOk, MatchOption}
use Rattle.claims.specs.declared.deps.Dep.{Dep}
use Rattle.faults.specs.declared.Memory.{Memory}
use Rattle.listing.specs.Tree.{Tree, name_at, position_of}
use Rattle.engine.specs.Ignored.{IsIgnored}
use Rattle.auditing.specs.Allowed.{AreItsDependencies, IsNew, MayFollow, StoodEarlier}
use Rattle.auditing.specs.inside.Standing.{IsReasonInBuilt}
use Rattle.auditing.specs.Verdicts.{IsFirstReason}
use Rattle.auditing.specs.declared.entry.Entry.{Entry}
use Rattle.auditing.specs.declared.verdict.Reason.{Reason}

reason_by : (tree : Tree) (earlier : List Entry) (entry : Entry) (p : ℕ) (answer : Option Reason)
    → position_of tree entry.path ≡ Some p → ¬ IsIgnored tree p → entry.name ≡ name_at tree p → IsNew earlier entry.path
    → MatchOption answer (AreItsDependencies tree p entry.built × StoodEarlier earlier entry.built) (IsReasonInBuilt tree earlier p entry.built)
    → MatchOption answer (MayFollow tree earlier entry) (IsFirstReason tree earlier entry)
reason_by tree earlier entry p None listed free name new h = record {
  position = p;
  listed = listed;
  not_ignored = free;
  name = name;
  new = new;
  dependencies = h.0;
  stood = h.1;
}
reason_by tree earlier entry p (Some r) listed free name new (inl h) =
    subst (IsFirstReason tree earlier entry) (sym h.0) (p, listed, (free, name, new, h.1))
reason_by tree earlier entry p (Some r) listed free name new (inr h) =
    subst (IsFirstReason tree earlier entry) (sym h.0) (p, listed, (free, name, new, h.1, h.2))

pub first_reason_by : (tree : Tree) (earlier : List Entry) (entry : Entry) (p : ℕ) (built : List Dep) (r : Result (Option Reason) Memory)
    → built ≡ entry.built → position_of tree entry.path ≡ Some p → ¬ IsIgnored tree p → entry.name ≡ name_at tree p → IsNew earlier entry.path
    → IfOk r (λ answer. MatchOption answer (AreItsDependencies tree p built × StoodEarlier earlier built) (IsReasonInBuilt tree earlier p built))
    → IfOk r (λ answer. MatchOption answer (MayFollow tree earlier entry) (IsFirstReason tree earlier entry))
first_reason_by tree earlier entry p built (Err e) same listed free name new h = tt
first_reason_by tree earlier entry p built (Ok answer) same listed free name new h =
    reason_by tree earlier entry p answer listed free name new
    (subst (λ (b : List Dep). MatchOption answer (AreItsDependencies tree p b × StoodEarlier earlier b) (IsReasonInBuilt tree earlier p b)) same h)

-- What holds of allowed lists.
use Rattle.std.specs.Prelude.{◌≡◌, ◌++◌, ◌↔◌, List, [], ◌∷◌}
use Rattle.faults.specs.Bytes.{Text}
use Rattle.claims.specs.Deps.{AreInOrder}
use Rattle.listing.specs.Tree.{Tree}
use Rattle.auditing.specs.Allowed.{IsAllowed, IsNew, MayFollow, StoodEarlier}
use Rattle.auditing.specs.Fits.{Fits}
use Rattle.auditing.specs.Verdicts.{IsVerdict}
use Rattle.auditing.specs.declared.entry.Entry.{Entry}
use Rattle.auditing.specs.declared.verdict.Verdict.{Verdict}

-- the empty list is allowed
abbrev pub EmptyIsAllowed : Type 0
EmptyIsAllowed = (tree : Tree) → IsAllowed tree []

-- a list with one more entry is allowed if and only if the list is and the entry may follow it
abbrev pub ExtendedIsAllowed : Type 0
ExtendedIsAllowed =
    (tree : Tree) (list : List Entry) (entry : Entry)
    → IsAllowed tree (list ++ entry ∷ []) ↔ (IsAllowed tree list × MayFollow tree list entry)

-- no list has two verdicts
abbrev pub OnlyOneVerdict : Type 0
OnlyOneVerdict =
    (tree : Tree) (list : List Entry) (u v : Verdict) → IsVerdict tree list u
    → IsVerdict tree list v → u ≡ v

-- an entry may follow if it fits the tree, is new, and each of its dependencies is an earlier entry
abbrev pub FittingMayFollow : Type 0
FittingMayFollow =
    (tree : Tree) (earlier : List Entry) (entry : Entry) (run : List Text)
    → Fits tree entry.path entry.name entry.built run
    → IsNew earlier entry.path → StoodEarlier earlier entry.built → MayFollow tree earlier entry

-- an entry that may follow fits the tree, if its dependencies are in order of path
abbrev pub FollowingFits : Type 0
FollowingFits =
    (tree : Tree) (earlier : List Entry) (entry : Entry) → MayFollow tree earlier entry
    → AreInOrder entry.built
    → (run : List Text) × Fits tree entry.path entry.name entry.built run

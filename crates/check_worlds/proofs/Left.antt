-- Crashes after a step, and while a node is opened.
use Rattle.std.proofs.Common.{◌≡◌, ℕ, List, Ok, sym, subst, ap, ◌∙◌}
use Rattle.faults.specs.Bytes.{Text}
use Rattle.listing.specs.Tree.{Tree}
use Rattle.node.specs.Calls.{HasHandled, IsOpened, OpensAsOne}
use Rattle.node.specs.OnLog.{IsOnLog, identity, identity_of, texts_of}
use Rattle.node.specs.State.{IsNode, LoggedNode, NodeState}
use Rattle.node.specs.Step.{Asked}
use Rattle.node.specs.declared.prepared_step.Effects.{Effects}
use Rattle.check_worlds.proofs.Reopening.{opened_again}
use Rattle.check_worlds.specs.Rows.{IsAsAfter, IsOf, reopened}
use Rattle.stable_record.specs.Crash.{AllAlong, IsOnDisk, Leaves, MayLeave, and_then, at_first}
use Rattle.stable_record.specs.History.{History, seen}
use Rattle.stable_record.specs.Opening.{Opens, OpensAsLeft}
use Rattle.stable_record.specs.declared.identity.Identity.{Identity}

module _ {D : Type 0} (history : D → History) (old : NodeState) (n : LoggedNode D) (asked : Asked) (out : Effects)
    (handled : HasHandled old n.node asked out) (on : IsOnLog history n) (is : IsNode n.node)
    (tree : Tree) (weights : List ℕ) (me : ℕ) (own : IsOf tree weights me old.member) where
  still_own : IsOf tree weights me n.node.member
  still_own =
      subst (λ (x : NodeState). IsOf tree weights me x.member) (sym handled.taken.state)
      (record { over = own.over; weigh = own.weigh; own = own.own })

  -- whatever a crash then leaves opens as the node after its step
  pub as_after : (left : Text) → MayLeave (history n.log.disk) left → (m : NodeState) → OpensAsOne tree weights me → IsOpened tree weights me m
      → Opens (identity_of m.member) left (Ok (texts_of m.notes)) → IsAsAfter old asked m
  as_after left may m one opened opens =
      let again : m ≡ reopened n.node =
      opened_again history n on is tree weights me still_own m one opened
      (subst (λ (file : Text). Opens (identity_of m.member) file (Ok (texts_of m.notes))) (on.holds.settled.on_disk left may) opens) in (
        handled.step,
        handled.takes,
        again ∙ ap reopened handled.taken.state,
      )

pub at_last : (P : Text → Type 0) (start now : History) → AllAlong P start now → Leaves P now
at_last P start _ (at_first leaves) = leaves
at_last P start _ (and_then call h rest leaves) = leaves

-- what a crash leaves while a file is opened opens as the file, if that was on the disk
pub as_at_first : (tree : Tree) (weights : List ℕ) (me : ℕ) (start now : History) → IsOnDisk start → AllAlong (OpensAsLeft (identity tree weights me) start) start now
    → (left : Text) → MayLeave now left → (m : NodeState) → IsOpened tree weights me m → Opens (identity_of m.member) left (Ok (texts_of m.notes))
    → Opens (identity tree weights me) (seen start) (Ok (texts_of m.notes))
as_at_first tree weights me start now on along left may m opened opens =
    let i = identity tree weights me in
    let its : identity_of m.member ≡ i =
    ap (λ (x : NodeState). identity_of x.member) opened.node ∙ ap (λ (t : Tree). identity t weights me) opened.of_tree in
    let so = at_last (OpensAsLeft i start) start now along left may in
    subst (λ (file : Text). Opens i file (Ok (texts_of m.notes))) (on so.left so.could_be)
    ((so.same (Ok (texts_of m.notes))).1 (subst (λ (x : Identity). Opens x left (Ok (texts_of m.notes))) its opens))

-- the log of the opened node has this member's identity
pub own_identity : (tree : Tree) (weights : List ℕ) (me : ℕ) (m : NodeState) → IsOpened tree weights me m → identity_of m.member ≡ identity tree weights me
own_identity tree weights me m opened =
    ap (λ (x : NodeState). identity_of x.member) opened.node ∙ ap (λ (t : Tree). identity t weights me) opened.of_tree

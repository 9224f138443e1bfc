-- A node that went down, and its notes when it is opened again.
use Rattle.std.proofs.Common.{◌≡◌, ◌⊎◌, ◌∙◌, ◌++◌, ◌∷◌, ℕ, false, List, [], Option, None, Some, Ok, ap, inl, inr, refl, slice_get, subst, sym, ⊎_elim}
use Rattle.std.proofs.lemmas.List.{map-append}
use Rattle.std.specs.Prelude.{option_map}
use Rattle.ballots.specs.declared.message.Note.{Note}
use Rattle.turn_rules.specs.declared.fault.TurnFault.{TurnFault}
use Rattle.turn_rules.specs.declared.fault.TurnFault.TheVariants as refused
use Rattle.protocol.specs.Events.{Event, StopIn}
use Rattle.protocol.specs.declared.event.Left.TheVariants as left
use Rattle.faults.specs.Bytes.{Text}
use Rattle.listing.specs.Tree.{Tree}
use Rattle.node.specs.Calls.{IsOpened}
use Rattle.node.specs.OnLog.{IsOnLog, LeavesOneMoreAtMost, identity, identity_of, texts_of}
use Rattle.node.specs.State.{LoggedNode, NodeState, with_note}
use Rattle.protocol.specs.Given.{Given}
use Rattle.protocol.specs.State.{Value}
use Rattle.stable_record.specs.Crash.{AllAlong, Leaves, MayLeave, and_then, at_first}
use Rattle.stable_record.specs.History.{History}
use Rattle.stable_record.specs.Log.{HasBeforeOrAfter, HasNotes}
use Rattle.stable_record.specs.Opening.{HasOneAnswer, Opens}
use Rattle.stable_record.specs.declared.identity.Identity.{Identity}
use Rattle.cluster_turns.specs.Faults.{IsTurnFault}
use Rattle.cluster_turns.specs.State.{AreOnLogs, ClusterState, IsWorldOf, node_view, taken}
use Rattle.cluster_turns.specs.Turn.{LeavesItsNotes, WentDown}
use Rattle.check_turns.proofs.Showing.{stands_so, up_there}
use Rattle.check_turns.specs.Reopened.{HasNotesAcross, IsLeftOf}
use Rattle.engine.specs.Division.{Division}
use Rattle.wire.specs.Spelling.{note_text}
use Rattle.world.specs.Happening.{StopsIn}
use Rattle.world.specs.Laws.{EventsLeadToLaterWorlds}
use Rattle.world.specs.World.{World, WorldNode, node_at, start}
use Rattle.stable_record.specs.declared.disk.Disk.{Ghosts as Disk}
use Rattle.datagram_ports.specs.declared.port.Port.{Ghosts as Port}

-- ---- what a file opens as

-- a crash leaves the notes that are on the log
on_the_log : {D : Type 0} (disk : Disk D) (n : LoggedNode D) → IsOnLog disk.history n
    → Leaves (HasNotes (identity_of n.node.member) (texts_of n.node.notes))
    (disk.history n.log.disk)
on_the_log disk n on c may =
    let settled = on.holds.settled in
    subst (λ (i : Identity). HasNotes i (texts_of n.node.notes) c) on.owner (record {
      gate = settled.gate;
      behind = [];
      parts = settled.on_disk c may ∙ settled.file;
      closed = settled.closed;
      lengths = settled.lengths;
    })

at_last : (P : Text → Type 0) (start now : History) → AllAlong P start now → Leaves P now
at_last P start _ (at_first leaves) = leaves
at_last P start _ (and_then call h rest leaves) = leaves

-- a file with these notes is opened as a node that has them
opened_with : (tree : Tree) (weights : List ℕ) (me : ℕ) (own : Identity) (file : Text)
    (ts : List Text) (m : NodeState) → own ≡ identity tree weights me → HasNotes own ts file
    → HasOneAnswer (identity tree weights me) → IsOpened tree weights me m
    → Opens (identity_of m.member) file (Ok (texts_of m.notes)) → texts_of m.notes ≡ ts
opened_with tree weights me own file ts m mine has one opened opens =
    let its : identity_of m.member ≡ identity tree weights me =
    ap (λ (x : NodeState). identity_of x.member) opened.node
    ∙ ap (λ (t : Tree). identity t weights me) opened.of_tree in
    let two : Ok (texts_of m.notes) ≡ Ok ts =
    one.no_second file (Ok (texts_of m.notes)) (Ok ts)
    (subst (λ (i : Identity). Opens i file (Ok (texts_of m.notes))) its opens)
    (subst (λ (i : Identity). Opens i file (Ok ts)) mine (inr has)) in
    cc

-- a crash leaves the notes from before, or these and that of the step
left_by : {D : Type 0} (disk : Disk D) (before after : LoggedNode D)
    (note : Option (Note Value)) → IsOnLog disk.history before
    → LeavesOneMoreAtMost before.node note (disk.history before.log.disk)
    (disk.history after.log.disk)
    → (file : Text) → MayLeave (disk.history after.log.disk) file
    → HasNotes (identity_of before.node.member) (texts_of before.node.notes) file
    ⊎ HasNotes (identity_of before.node.member) (texts_of (with_note before.node.notes note)) file
left_by disk before after None on same file may =
    inl (on_the_log disk before on file (subst (λ (h : History). MayLeave h file) same may))
left_by disk before after (Some note) on along file may =
    let i = identity_of before.node.member in
    let ts = texts_of before.node.notes in
    ⊎_elim (λ has. inl has)
    (λ has. inr (subst (λ (l : List Text). HasNotes i l file)
    (sym (map-append note_text before.node.notes (note ∷ []))) has))
    (at_last (HasBeforeOrAfter i ts (note_text note)) (disk.history before.log.disk)
    (disk.history after.log.disk) along file may)

-- ---- of a cluster

-- the node of this number is the one that went down
pub fell : {D P : Type 0} (port : Port P) (disk : Disk D) (old new : ClusterState D P)
    (builds : Given) (f : TurnFault) (k me : ℕ) → f ≡ refused.Down k → k ≡ me
    → IsTurnFault port old new builds f
    → ((e : Event) (j : ℕ) → f ≡ refused.Down j → taken new ≡ taken old ++ StopIn e left.None ∷ []
    → LeavesItsNotes disk old new e j)
    → (e : Event) × WentDown old new e me × LeavesItsNotes disk old new e me
fell port disk old new builds f k me is same why leaves =
    let down : f ≡ refused.Down me = is ∙ ap (λ (j : ℕ). refused.Down j) same in
    let cause : IsTurnFault port old new builds (refused.Down me) =
    subst (λ (x : TurnFault). IsTurnFault port old new builds x) down why in
    (cause.0, cause.2, leaves cause.0 me down cause.2.events)

module _ {D P : Type 0} (disk : Disk D) (old new : ClusterState D P) (e : Event) (k : ℕ)
    (down : WentDown old new e k) (leaves : LeavesItsNotes disk old new e k)
    (later : EventsLeadToLaterWorlds) (on_logs : AreOnLogs disk old) (w : World)
    (is : IsWorldOf old w) (file : Text) (gone : IsLeftOf disk old new k file) where
  abbrev before : LoggedNode D
  before = gone.before

  -- the stop during the step
  stop : (v : World) × StopsIn w e left.None v × IsWorldOf new v
  stop = down.stopped w is

  -- the node was in the world, and was up
  view : stop.1.node ≡ node_view before
  view =
      let both : ◌≡◌ {A = Option WorldNode} (Some stop.1.node) (Some (node_view before)) =
      sym stop.1.acts.is_up.stands ∙ ap (slice_get w.nodes) down.of_node
      ∙ stands_so old w is k ∙ ap (option_map node_view) gone.stood in
      cc

  was_up : before.node.stopped ≡ false
  was_up = up_there before.node before.node.stopped refl
      (ap (λ (x : WorldNode). x.up) (sym view) ∙ stop.1.acts.is_up.up)

  knows : before.node ≡ node_at w k (node_view before)
  knows = is.know k before gone.stood was_up

  -- it was the node of the member with this number
  own : (tree : Tree) (weights : List ℕ) → old.division.tree ≡ tree → old.weights ≡ weights
      → identity_of before.node.member ≡ identity tree weights k
  own tree weights over weigh =
      let l = later (start old.division old.weights) w (taken old) is.led in
      ap (λ (x : NodeState). identity_of x.member) knows
      ∙ ap (λ (d : Division). identity d.tree w.weights k) l.division
      ∙ ap (λ (ws : List ℕ). identity old.division.tree ws k) (l.weights ∙ weigh)
      ∙ ap (λ (t : Tree). identity t weights k) over

  on_log : IsOnLog disk.history before
  on_log = on_logs k before gone.stood was_up gone.kept_before

  -- so the opened node has those notes
  pub across : (tree : Tree) (weights : List ℕ) → old.division.tree ≡ tree → old.weights ≡ weights
      → HasOneAnswer (identity tree weights k) → (m : NodeState) → IsOpened tree weights k m
      → Opens (identity_of m.member) file (Ok (texts_of m.notes)) → HasNotesAcross old new k m
  across tree weights over weigh one m opened opens =
      let x = stop.1.node in
      let t = stop.1.taken in
      let most = leaves before gone.after w x t gone.stood gone.stands gone.kept is stop.1.acts in
      let i = identity_of before.node.member in
      let mine = own tree weights over weigh in
      let same : x.notes ≡ before.node.notes =
      ap (λ (y : WorldNode). y.notes) view ∙ ap (λ (y : NodeState). y.notes) (sym knows) in
      record {
        event = e;
        went_down = down;
        world = w;
        is_world = is;
        node = x;
        step = t;
        acts = stop.1.acts;
        notes = ⊎_elim
            (λ has. inl (opened_with tree weights k i file (texts_of before.node.notes) m mine has
            one opened opens ∙ ap texts_of (sym same)))
            (λ has. inr (opened_with tree weights k i file
            (texts_of (with_note before.node.notes t.answer.note)) m mine has one opened opens
            ∙ ap (λ (ns : List (Note Value)). texts_of (with_note ns t.answer.note)) (sym same)))
            (left_by disk before gone.after t.answer.note on_log most file gone.may);
      }

-- Results of reading the notes of a file.
use Rattle.std.specs.Prelude.{◌≡◌, ◌<◌, ◌⊎◌, ℕ, List, Some, Result, Ok, Err, length}
use Rattle.faults.specs.Bytes.{Text}
use Rattle.ballots.specs.Weights.{AreWeights}
use Rattle.ballots.specs.declared.message.Note.{Note}
use Rattle.protocol.specs.State.{State, Value, fresh}
use Rattle.stable_record.specs.declared.log_fault.LogFault.{LogFault}
use Rattle.stable_record.specs.declared.log_fault.LogFault.TheVariants as log
use Rattle.engine.specs.Division.{Division, IsDivision, number_named}
use Rattle.wire.specs.Messages.{IsNote}
use Rattle.wire.specs.Spelling.{note_text}
use Rattle.wire.specs.declared.WireFault.{WireFault}
use Rattle.wire.specs.declared.WireFault.TheVariants as wire
use Rattle.node.specs.Calls.{AreNotes}
use Rattle.node.specs.State.{NodeState, opened_node}
use Rattle.node.specs.declared.fault.NodeFault.{NodeFault}
use Rattle.node.specs.declared.fault.NodeFault.TheVariants as fault

-- the node's refusal if the log refuses with this fault
abbrev pub told_by : LogFault → NodeFault
told_by log.Memory = fault.Memory
told_by log.Device = fault.Log log.Device
told_by log.Full = fault.Log log.Full
told_by log.MustReopen = fault.Log log.MustReopen
told_by log.NotALog = fault.Log log.NotALog
told_by log.OtherCluster = fault.Log log.OtherCluster

-- the node's refusal if a text of its log is not that of a note
abbrev pub unread_by : WireFault → NodeFault
unread_by wire.Memory = fault.Memory
unread_by wire.TooLong = fault.Log log.NotALog
unread_by wire.Truncated = fault.Log log.NotALog
unread_by wire.Magic = fault.Log log.NotALog
unread_by wire.Kind = fault.Log log.NotALog
unread_by wire.BadField = fault.Log log.NotALog
unread_by wire.Trailing = fault.Log log.NotALog

-- The member knows nothing yet.
pub record IsNew (s : State) : Type 0 where
  pub fresh : s ≡ fresh s.division s.weights s.me
  pub divided : IsDivision s.division
  pub weights : AreWeights s.weights
  pub one_of_them : s.me < length s.weights

-- The node is such a member's, in the state that notes with these texts restore.
pub record IsOver (s : State) (texts : List Text) (n : NodeState) : Type 0 where
  pub notes : AreNotes s.division texts n.notes
  pub node : n ≡ opened_node s.division s.weights s.me n.notes

-- why texts are refused as notes: they are not notes, or out of memory
abbrev pub IsNoteFault : Division → List Text → NodeFault → Type 0
IsNoteFault division texts f =
    (f ≡ fault.Memory)
    ⊎ ((f ≡ fault.Log log.NotALog)
    × ((given : List (Note Value)) → ¬ AreNotes division texts given))

-- The text is that of a note about a unit.
pub record IsNoteOf (division : Division) (text : Text) (n : Note Value) : Type 0 where
  pub read : text ≡ note_text n
  pub note : IsNote n
  pub unit : ℕ
  pub named : number_named division n.path ≡ Some unit

-- The text was parsed as such a note, or it isn't that of such a note.
abbrev pub IsReadBy : Division → Text → Result (Note Value) NodeFault → Type 0
IsReadBy division text (Ok n) = IsNoteOf division text n
IsReadBy division text (Err f) =
    (f ≡ fault.Memory)
    ⊎ ((f ≡ fault.Log log.NotALog) × ((n : Note Value) → ¬ IsNoteOf division text n))

-- A file that has a node opens as that node, unless memory runs out.
use Rattle.std.proofs.Common.{◌≡◌, ◌≢◌, ℕ, List, [], Result, Ok, Err, Some, refl, arith, inl, inr}
use Rattle.std.specs.Prelude.{All}
use Rattle.std.proofs.lemmas.List.Elements.{All-nil}
use Rattle.ballots.specs.declared.message.Note.{Note}
use Rattle.faults.specs.Bytes.{Text}
use Rattle.listing.specs.Tree.{Tree}
use Rattle.node.specs.Calls.{IsOpenFault, IsOpened, OpensAsOne}
use Rattle.node.specs.OnLog.{identity, texts_of}
use Rattle.node.specs.State.{NodeState, opened_node}
use Rattle.node.specs.declared.fault.NodeFault.{NodeFault}
use Rattle.node.specs.declared.fault.NodeFault.TheVariants as fault
use Rattle.protocol.specs.Restoring.{AreOnUnits}
use Rattle.protocol.specs.State.{Value}
use Rattle.stable_record.specs.Faults.{HasRisen}
use Rattle.stable_record.specs.Log.{HasNotes}
use Rattle.stable_record.specs.Opening.{no_more_than_a_gate}
use Rattle.stable_record.specs.declared.log_fault.LogFault.{LogFault}
use Rattle.stable_record.specs.declared.log_fault.LogFault.TheVariants as log
use Rattle.engine.specs.Division.{Division, IsDivision, number_named}
use Rattle.wire.specs.Messages.{IsNote}
use Rattle.simulator.specs.inside.Opening.{HasNode, HasUnits}

-- what a file opens as
abbrev Opened : Type 0
Opened = Result NodeState LogFault

never_both : (n : NodeState) (f : LogFault) (a b : Opened) → a ≡ Ok n → b ≡ Err f → a ≡ b → ⊥
never_both n f a b is not same = cc

pub only_memory : (tree : Tree) (weights : List ℕ) (me : ℕ) (file : Text)
    → HasNode tree weights me file → (f : NodeFault)
    → (f ≢ fault.Memory → OpensAsOne tree weights me) → IsOpenFault tree weights me file f
    → (f ≡ fault.Log log.Device → HasRisen 0 0) → f ≡ fault.Memory
only_memory tree weights me file (n, opens) fault.Memory one cause device = refl
only_memory tree weights me file (n, opens) (fault.Log log.NotALog) one cause device =
    absurd (never_both n log.NotALog (Ok n) (Err log.NotALog) refl refl
    (one (λ e. cc) file (Ok n) (Err log.NotALog) opens cause))
only_memory tree weights me file (n, opens) (fault.Log log.OtherCluster) one cause device =
    absurd (never_both n log.OtherCluster (Ok n) (Err log.OtherCluster) refl refl
    (one (λ e. cc) file (Ok n) (Err log.OtherCluster) opens cause))
only_memory tree weights me file (n, opens) (fault.Log log.Device) one cause device =
    absurd (omega (arith, device refl))
only_memory tree weights me file (n, opens) (fault.Log log.Memory) one cause device = absurd cause
only_memory tree weights me file (n, opens) (fault.Log log.Full) one cause device = absurd cause
only_memory tree weights me file (n, opens) (fault.Log log.MustReopen) one cause device =
    absurd cause
only_memory tree weights me file (n, opens) (fault.Refused r) one cause device = absurd cause
only_memory tree weights me file (n, opens) fault.Stopped one cause device = absurd cause
only_memory tree weights me file (n, opens) (fault.Foreign g) one cause device = absurd cause

-- ---- files that have a node

module _ (d : Division) (divided : IsDivision d) (weights : List ℕ) (me : ℕ) where
  opened_so : (notes : List (Note Value)) → All IsNote notes → AreOnUnits d notes
      → IsOpened d.tree weights me (opened_node d weights me notes)
  opened_so notes are_notes on_units = record {
    division = d;
    of_tree = refl;
    divided = divided;
    notes_are = are_notes;
    on_units = on_units;
    node = refl;
  }

  -- a log with a node's notes
  pub notes_have_node : (file : Text) (notes : List (Note Value))
      → HasNotes (identity d.tree weights me) (texts_of notes) file → All IsNote notes
      → AreOnUnits d notes → HasNode d.tree weights me file
  notes_have_node file notes has are_notes on_units =
      (opened_node d weights me notes, (opened_so notes are_notes on_units, inr has))

  empty_has_node : HasNode d.tree weights me []
  empty_has_node = (
    opened_node d weights me [],
    (
      opened_so [] (All-nil IsNote)
          (All-nil (λ (n : Note Value). (u : ℕ) × (number_named d n.path ≡ Some u))),
      inl (no_more_than_a_gate (omega arith), refl),
    ),
  )

-- a file without bytes
pub nothing_has_node : (tree : Tree) → HasUnits tree → (weights : List ℕ) (me : ℕ)
    → HasNode tree weights me []
nothing_has_node tree (d, of_tree, divided) weights me =
    rw (← of_tree) (empty_has_node d divided weights me)

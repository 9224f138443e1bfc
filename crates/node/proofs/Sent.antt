-- The messages of a step as datagrams with receivers, and the notes of a log as texts.
use Rattle.std.proofs.Common.{◌≡◌, ◌==◌, ◌++◌, ℕ, All, true, false, List, [], ◌∷◌, length, map, refl, ap, ◌∙◌}
use Rattle.std.proofs.lemmas.List.Elements.{All-head, All-tail, filter_map-append}
use Rattle.faults.specs.Bytes.{Text}
use Rattle.ballots.specs.declared.message.Message.{Message}
use Rattle.ballots.specs.declared.message.Note.{Note}
use Rattle.package_record.proofs.BuildsRead.{build_is_read}
use Rattle.protocol.specs.Sends.{receivers_of, sent_to}
use Rattle.protocol.specs.State.{Value}
use Rattle.protocol.specs.declared.sends.Send.{Send}
use Rattle.std.specs.Prelude.{Some}
use Rattle.wire.proofs.NoteTexts.{note_again}
use Rattle.wire.specs.Messages.{IsMessage, IsNote}
use Rattle.wire.specs.Spelling.{note_text}
use Rattle.node.specs.Parcels.{datagrams_of, datagrams_to, each_to, parcels_to}
use Rattle.node.specs.Noted.{notes_in}

-- one message to some members is sent as its datagrams to each of them
pub parcels_are : (m : Message Value) (to : List ℕ) → datagrams_to (sent_to (Some m) to) ≡ parcels_to to (datagrams_of m)
parcels_are m [] = refl
parcels_are m (k ∷ ks) = ap (λ l. each_to (datagrams_of m) k ++ l) (parcels_are m ks)

-- the text of a note is parsed as that note
pub note_alone : (n : Note Value) → IsNote n → notes_in (note_text n ∷ []) ≡ n ∷ []
note_alone n is = let read = note_again build_is_read n is in rw read refl

-- the texts with one added are parsed as the notes with one added
pub note_more : (texts : List Text) (n : Note Value) → IsNote n → notes_in (texts ++ note_text n ∷ []) ≡ notes_in texts ++ n ∷ []
note_more texts n is = filter_map-append _ texts (note_text n ∷ []) ∙ ap (λ l. notes_in texts ++ l) (note_alone n is)

-- the texts of notes are parsed as those notes
pub notes_again : (notes : List (Note Value)) → All IsNote notes → notes_in (map note_text notes) ≡ notes
notes_again [] are = refl
notes_again (n ∷ ns) are =
    let read = note_again build_is_read n (All-head IsNote n ns are) in
    let rest = notes_again ns (All-tail IsNote n ns are) in
    rw (read, rest) refl

-- a message with a receiver can be encoded
pub sent_message : (m : Message Value) (to : List ℕ) → (length to == 0) ≡ false → All (λ x. IsMessage x.message) (sent_to (Some m) to) → IsMessage m
sent_message m [] some are = absurd (let no : true ≡ false = some in cc)
sent_message m (k ∷ ks) some are = All-head (λ x. IsMessage x.message) (record { to = k; message = m }) (sent_to (Some m) ks) are

-- the parcels of the messages
pub parcels_sent : (m : Message Value) (sends : List Send) → sends ≡ sent_to (Some m) (receivers_of sends) → datagrams_to sends ≡ parcels_to (receivers_of sends) (datagrams_of m)
parcels_sent m sends e = ap datagrams_to e ∙ parcels_are m (receivers_of sends)

-- The text of a trace is parsed as the trace.
use Rattle.std.proofs.Common.{◌≡◌, ℕ, ◌/◌, ◌%◌, ◌≤◌, zero, suc, Bool, true, false, List, [], ◌∷◌, cond, get_or, length, map, All, IsUtf8, Option, Some, None, Ok, nat_le, nat_lt, codes, refl, sym, subst, arith}
use Rattle.std.proofs.lemmas.Bool.{and_parts, leb-true}
use Rattle.std.proofs.lemmas.List.Elements.{All-cons, All-head, All-nil}
use Rattle.std.proofs.lemmas.Str.{IsUtf8-from_is_utf8, utf8_lossy-IsUtf8}
use Rattle.std.specs.List.{list_all}
use Rattle.std.specs.Str.Lossy.{utf8_lossy}
use Rattle.ballots.specs.Weights.{is_weight}
use Rattle.protocol.specs.Events.{Event, Claim, Built, Failed, Nudge, Ask, Deliver, Stop, StopIn, Restart}
use Rattle.protocol.specs.declared.event.Left.{Left}
use Rattle.protocol.specs.declared.event.Left.TheVariants as left
use Rattle.faults.specs.Bytes.{Text}
use Rattle.hex.specs.Hex.{encode_lower, encode_with, lower_digits}
use Rattle.json.proofs.Printed.Utf8.{IsUtf8-are_ascii, are_ascii}
use Rattle.package_record.specs.Content.{NamedFile}
use Rattle.pkgpath.specs.PkgPath.{IsPath}
use Rattle.protocol.specs.Given.{Given}
use Rattle.serde_json.specs.Data.{Data}
use Rattle.stable_record.specs.Magic.{are_ones}
use Rattle.traces.specs.Again.{IsTextEvent, IsTextFile, IsTextPackage, IsTextTrace}
use Rattle.traces.specs.Events.{most, own_files}
use Rattle.traces.specs.Trace.{Trace, trace_of}
use Rattle.traces.specs.Written.{built_with, clean_data, event_data, file_data, files_data, hex, list_data, natural, node_data, package_data, packages_data, path_data, stop_data, text, trace_data, trace_text, word}
use Rattle.traces.proofs.Depths.{trace_depth}
use Rattle.traces.proofs.PathTexts.{path_utf8}
use Rattle.traces.proofs.SoundTexts.{IsSound, each_sound, list_sound, natural_sound, object_sound, text_read, text_sound}
use Rattle.traces.proofs.TraceAgain.{parts_of, trace_again}

-- ---- texts and numbers

-- each of some digits that are ASCII
digit_small : (digits : Text) → are_ascii digits ≡ true → (k : ℕ) → nat_lt (get_or digits k 0) 128 ≡ true
digit_small [] ascii k = refl
digit_small (d ∷ ds) ascii zero = (and_parts (nat_lt d 128) (are_ascii ds) ascii).0
digit_small (d ∷ ds) ascii (suc k) = digit_small ds (and_parts (nat_lt d 128) (are_ascii ds) ascii).1 k

-- digits are ASCII
digits_ascii : (bytes : List ℕ) → are_ascii (encode_lower bytes) ≡ true
unfolding encode_with
digits_ascii [] = refl
digits_ascii (b ∷ bs) = rw (digit_small lower_digits refl (b / 16), digit_small lower_digits refl (b % 16)) (digits_ascii bs)

-- bytes as hexadecimal digits
hex_sound : (bytes : List ℕ) → IsSound (hex bytes)
hex_sound bytes = text_sound (encode_lower bytes) (IsUtf8-are_ascii (encode_lower bytes) (digits_ascii bytes))

-- bytes that are UTF-8 are written unchanged
bytes_sound : (s : Text) → IsUtf8 s → IsSound (text s)
bytes_sound s utf8 = text_sound (utf8_lossy s) (subst IsUtf8 (sym (utf8_lossy-IsUtf8 s utf8)) utf8)

-- a path
path_sound : (path : Text) → IsPath path → IsSound (text path)
path_sound path is = bytes_sound path (path_utf8 path is)

-- a word
word_sound : (w : Text) → are_ascii w ≡ true → IsSound (word w)
word_sound w ascii = text_sound w (IsUtf8-are_ascii w ascii)

-- a number within a bound of 64 bits
small_sound : (limit n : ℕ) → limit ≤ most → n ≤ limit → IsSound (natural n)
small_sound limit n within le = natural_sound n (omega (arith, within, le))

-- a key
key : (s : Text) → are_ascii s ≡ true → IsUtf8 s
key = IsUtf8-are_ascii

-- ---- files and packages

-- a file
file_sound : (f : NamedFile) → IsTextFile f → IsSound (file_data f)
file_sound f is =
    object_sound ((codes "hex", hex f.bytes) ∷ (codes "name", text f.name) ∷ []) refl
    ((key (codes "hex") refl, hex_sound f.bytes), ((key (codes "name") refl, bytes_sound f.name (IsUtf8-from_is_utf8 f.name is.name)), tt))

-- files
files_sound : (files : List NamedFile) → All IsTextFile files → IsSound (files_data files)
files_sound files are = list_sound (map file_data files) (each_sound file_data IsTextFile file_sound files are)

-- a package
package_sound : (p : Text × List NamedFile) → IsTextPackage p → IsSound (package_data p)
package_sound p is =
    object_sound ((codes "files", files_data p.1) ∷ (codes "path", text p.0) ∷ []) refl
    ((key (codes "files") refl, files_sound p.1 is.files), ((key (codes "path") refl, path_sound p.0 is.path), tt))

-- packages
packages_sound : (packages : Given) → All IsTextPackage packages → IsSound (packages_data packages)
packages_sound packages are = list_sound (map package_data packages) (each_sound package_data IsTextPackage package_sound packages are)

-- ---- events

-- an event with a node
node_sound : (kind : Text) (n : ℕ) → are_ascii kind ≡ true → n ≤ 255 → IsSound (node_data kind n)
node_sound kind n ascii le =
    object_sound ((codes "event", word kind) ∷ (codes "node", natural n) ∷ []) refl
    ((key (codes "event") refl, word_sound kind ascii), ((key (codes "node") refl, small_sound 255 n (omega arith) le), tt))

-- an event with a node and a path
of_path_sound : (kind : Text) (n : ℕ) (path : Text) → are_ascii kind ≡ true → n ≤ 255 → IsPath path → IsSound (path_data kind n path)
of_path_sound kind n path ascii le is =
    object_sound ((codes "event", word kind) ∷ (codes "node", natural n) ∷ (codes "path", text path) ∷ []) refl
    ((key (codes "event") refl, word_sound kind ascii), ((key (codes "node") refl, small_sound 255 n (omega arith) le), ((key (codes "path") refl, path_sound path is), tt)))

-- a claim
claim_sound : (n : ℕ) (path : Text) (host above : ℕ) → IsTextEvent (Claim n path host above) → IsSound (event_data (Claim n path host above))
claim_sound n path host above is =
    object_sound ((codes "above", natural above) ∷ (codes "event", word (codes "claim")) ∷ (codes "host", natural host) ∷ (codes "node", natural n) ∷ (codes "path", text path) ∷ []) refl (
      (key (codes "above") refl, small_sound most above (omega arith) is.3),
      (
        (key (codes "event") refl, word_sound (codes "claim") refl),
        ((key (codes "host") refl, small_sound 65535 host (omega arith) is.2), ((key (codes "node") refl, small_sound 255 n (omega arith) is.0), ((key (codes "path") refl, path_sound path is.1), tt))),
      ),
    )

-- a build, with the files of its own path or with all packages
built_sound : (n : ℕ) (path : Text) (packages : Given) (own : Option (List NamedFile)) → n ≤ 255 → IsPath path → All IsTextPackage packages → own ≡ own_files path packages → IsSound (built_with n path packages own)
built_sound n path packages None le is are own =
    object_sound ((codes "event", word (codes "built")) ∷ (codes "node", natural n) ∷ (codes "packages", packages_data packages) ∷ (codes "path", text path) ∷ []) refl (
      (key (codes "event") refl, word_sound (codes "built") refl),
      ((key (codes "node") refl, small_sound 255 n (omega arith) le), ((key (codes "packages") refl, packages_sound packages are), ((key (codes "path") refl, path_sound path is), tt))),
    )
built_sound n path packages (Some files) le is are own =
    object_sound ((codes "event", word (codes "built")) ∷ (codes "files", files_data files) ∷ (codes "node", natural n) ∷ (codes "path", text path) ∷ []) refl (
      (key (codes "event") refl, word_sound (codes "built") refl),
      (
        (key (codes "files") refl, files_sound files (own_are packages own are)),
        ((key (codes "node") refl, small_sound 255 n (omega arith) le), ((key (codes "path") refl, path_sound path is), tt)),
      ),
    )
  where
    taken : (b : Bool) (fs : List NamedFile) → Some files ≡ cond b (Some fs) None → files ≡ fs
    taken true fs e = search e
    taken false fs e = absurd cc

    own_are : (packages : Given) → Some files ≡ own_files path packages → All IsTextPackage packages → All IsTextFile files
    own_are [] e are = absurd cc
    own_are ((p, fs) ∷ []) e are = subst (All IsTextFile) (sym (taken _ fs e)) (All-head IsTextPackage (p, fs) [] are).files
    own_are (p ∷ q ∷ ps) e are = absurd cc

-- a datagram is delivered to a node
deliver_sound : (d n : ℕ) → IsTextEvent (Deliver d n) → IsSound (event_data (Deliver d n))
deliver_sound d n is =
    object_sound ((codes "datagram", natural d) ∷ (codes "event", word (codes "deliver")) ∷ (codes "node", natural n) ∷ []) refl (
      (key (codes "datagram") refl, small_sound most d (omega arith) is.0),
      ((key (codes "event") refl, word_sound (codes "deliver") refl), ((key (codes "node") refl, small_sound 255 n (omega arith) is.1), tt)),
    )

-- a stop that leaves nothing or the whole note
clean_sound : (word_left : Text) (input : Data) → are_ascii word_left ≡ true → IsSound input → IsSound (clean_data word_left input)
clean_sound word_left input ascii sound =
    object_sound ((codes "event", word (codes "stopin")) ∷ (codes "input", input) ∷ (codes "left", word word_left) ∷ []) refl
    ((key (codes "event") refl, word_sound (codes "stopin") refl), ((key (codes "input") refl, sound), ((key (codes "left") refl, word_sound word_left ascii), tt)))

-- a stop inside a step
stop_sound : (input : Data) (l : Left) → IsSound input → IsSound (stop_data input l)
stop_sound input left.None sound = clean_sound (codes "none") input refl sound
stop_sound input left.Whole sound = clean_sound (codes "whole") input refl sound
stop_sound input (left.Torn bytes) sound =
    object_sound ((codes "event", word (codes "stopin")) ∷ (codes "hex", hex bytes) ∷ (codes "input", input) ∷ (codes "left", word (codes "torn")) ∷ []) refl (
      (key (codes "event") refl, word_sound (codes "stopin") refl),
      ((key (codes "hex") refl, hex_sound bytes), ((key (codes "input") refl, sound), ((key (codes "left") refl, word_sound (codes "torn") refl), tt))),
    )

-- an event
event_sound : (e : Event) → IsTextEvent e → IsSound (event_data e)
event_sound (Claim n path host above) is = claim_sound n path host above is
event_sound (Built n path packages) is = built_sound n path packages (own_files path packages) is.0 is.1 is.2 refl
event_sound (Failed n path) is = of_path_sound (codes "failed") n path refl is.0 is.1
event_sound (Nudge n) is = node_sound (codes "nudge") n refl is
event_sound (Ask n path) is = of_path_sound (codes "ask") n path refl is.0 is.1
event_sound (Deliver d n) is = deliver_sound d n is
event_sound (Stop n) is = node_sound (codes "stop") n refl is
event_sound (StopIn e l) is = stop_sound (event_data e) l (event_sound e is.1)
event_sound (Restart n) is = node_sound (codes "restart") n refl is

-- ---- the trace

-- the events
events_sound : (es : List Event) → All IsTextEvent es → IsSound (list_data (map event_data es))
events_sound es are = list_sound (map event_data es) (each_sound event_data IsTextEvent event_sound es are)

-- weights are small
weights_small : (ws : List ℕ) → list_all is_weight ws ≡ true → All (λ w. w ≤ 100) ws
weights_small [] are = All-nil (λ w. w ≤ 100)
weights_small (w ∷ ws) are =
    let parts = and_parts (is_weight w) (list_all is_weight ws) are in
    All-cons (λ w. w ≤ 100) w ws (leb-true w 100 (and_parts (nat_le 1 w) (nat_le w 100) parts.0).1) (weights_small ws parts.1)

-- the weights
weights_sound : (ws : List ℕ) → list_all is_weight ws ≡ true → IsSound (list_data (map natural ws))
weights_sound ws are = list_sound (map natural ws) (each_sound natural (λ w. w ≤ 100) (λ w le. small_sound 100 w (omega arith) le) ws (weights_small ws are))

-- the trace as a value
sound_by : (t : Trace) (b : Bool) → are_ones t.weights ≡ b → IsTextTrace t → IsSound (trace_data t)
sound_by t true is good =
    let parts = parts_of t.weights good.weights in
    rw is
    (object_sound ((codes "events", list_data (map event_data t.events)) ∷ (codes "members", natural (length t.weights)) ∷ []) refl
    ((key (codes "events") refl, events_sound t.events good.events), ((key (codes "members") refl, small_sound 9 (length t.weights) (omega arith) parts.few), tt)))
sound_by t false is good =
    let parts = parts_of t.weights good.weights in
    rw is
    (object_sound ((codes "events", list_data (map event_data t.events)) ∷ (codes "members", natural (length t.weights)) ∷ (codes "weights", list_data (map natural t.weights)) ∷ []) refl (
      (key (codes "events") refl, events_sound t.events good.events),
      ((key (codes "members") refl, small_sound 9 (length t.weights) (omega arith) parts.few), ((key (codes "weights") refl, weights_sound t.weights parts.each), tt)),
    ))

-- and its text
pub trace_text_again : (t : Trace) → IsTextTrace t → trace_of (trace_text t) ≡ Ok t
trace_text_again t good =
    let sound = sound_by t (are_ones t.weights) refl good in
    trace_again t (trace_text t) good sound.utf8 (text_read (trace_data t) sound (trace_depth t good))

-- What was written is parsed again, event by event.
use Rattle.std.proofs.Common.{◌≡◌, ℕ, ◌≤◌, List, [], ◌∷◌, map, Bool, true, false, All, Option, None, Some, refl, ◌∙◌, bytes_eq}
use Rattle.std.proofs.lemmas.Bool.{le-leb}
use Rattle.std.proofs.lemmas.List.Elements.{All-head, All-tail}
use Rattle.std.proofs.lemmas.Slice.Eq.{bytes_eq-Decides}
use Rattle.std.proofs.lemmas.Str.{IsUtf8-from_is_utf8, utf8_lossy-IsUtf8}
use Rattle.std.specs.Str.Lossy.{utf8_lossy}
use Rattle.protocol.specs.Events.{Event, Claim, Built, Failed, Nudge, Ask, Deliver, Stop, StopIn, Restart, is_step}
use Rattle.protocol.specs.declared.event.Left.{Left}
use Rattle.protocol.specs.declared.event.Left.TheVariants as left
use Rattle.faults.specs.Bytes.{Text}
use Rattle.hex.proofs.HexLemmas.{decode_of-encode_lower}
use Rattle.package_record.specs.Content.{NamedFile}
use Rattle.pkgpath.specs.PkgPath.{IsPath, path_of}
use Rattle.protocol.specs.Given.{Given}
use Rattle.serde_json.specs.Data.{Data}
use Rattle.serde_json.specs.View.{items_of}
use Rattle.traces.specs.Again.{AreLeft, IsTextEvent, IsTextFile, IsTextPackage}
use Rattle.traces.specs.Events.{built_alone_in, built_several_in, claim_in, clean_stop_in, deliver_in, event_in, most, node_alone_in, node_and_path_in, own_files, step_in, torn_stop_in}
use Rattle.traces.specs.Fields.{all_of, answer_in, file_in, files_in, number_of, package_in, packages_in}
use Rattle.traces.specs.Written.{built_with, event_data, file_data, files_data, natural, package_data, packages_data}
use Rattle.traces.proofs.PathTexts.{path_text}

pub number_again : (limit n : ℕ) → n ≤ limit → number_of limit (natural n) ≡ Some n
unfolding number_of
number_again limit n le = rw (le-leb n limit le) refl

path_again : (path : Text) → IsPath path → answer_in (path_of (utf8_lossy path)) ≡ Some path
path_again path is = rw (path_text path is, is) refl

name_again : (f : NamedFile) → IsTextFile f → utf8_lossy f.name ≡ f.name
name_again f is = utf8_lossy-IsUtf8 f.name (IsUtf8-from_is_utf8 f.name is.name)

-- items that are parsed again one by one
pub all_again : {X : Type 0} (read : Data → Option X) (write : X → Data) (P : X → Type 0) → ((x : X) → P x → read (write x) ≡ Some x)
    → (xs : List X) → All P xs → all_of read (items_of (map write xs)) ≡ Some xs
all_again read write P each [] are = refl
all_again read write P each (x ∷ xs) are = rw (each x (All-head P x xs are), all_again read write P each xs (All-tail P x xs are)) refl

file_again : (f : NamedFile) → IsTextFile f → file_in (file_data f) ≡ Some f
unfolding file_in
file_again f is = rw (decode_of-encode_lower f.bytes is.bytes, name_again f is) refl

files_again : (files : List NamedFile) → All IsTextFile files → files_in (files_data files) ≡ Some files
files_again files are = all_again file_in file_data IsTextFile file_again files are

package_again : (p : Text × List NamedFile) → IsTextPackage p → package_in (package_data p) ≡ Some p
unfolding package_in
package_again p is = rw (files_again p.1 is.files, path_again p.0 is.path) refl

packages_again : (packages : Given) → All IsTextPackage packages → packages_in (packages_data packages) ≡ Some packages
packages_again packages are = all_again package_in package_data IsTextPackage package_again packages are

claim_again : (n : ℕ) (path : Text) (host above : ℕ) → IsTextEvent (Claim n path host above) → step_in (event_data (Claim n path host above)) ≡ Some (Claim n path host above)
unfolding claim_in
claim_again n path host above is =
    rw (number_again 255 n is.0, path_again path is.1, number_again 65535 host is.2, number_again most above is.3) refl

failed_again : (n : ℕ) (path : Text) → IsTextEvent (Failed n path) → step_in (event_data (Failed n path)) ≡ Some (Failed n path)
unfolding node_and_path_in
failed_again n path is = rw (number_again 255 n is.0, path_again path is.1) refl

ask_again : (n : ℕ) (path : Text) → IsTextEvent (Ask n path) → step_in (event_data (Ask n path)) ≡ Some (Ask n path)
unfolding node_and_path_in
ask_again n path is = rw (number_again 255 n is.0, path_again path is.1) refl

nudge_again : (n : ℕ) → IsTextEvent (Nudge n) → step_in (event_data (Nudge n)) ≡ Some (Nudge n)
unfolding node_alone_in
nudge_again n is = rw (number_again 255 n is) refl

deliver_again : (d n : ℕ) → IsTextEvent (Deliver d n) → step_in (event_data (Deliver d n)) ≡ Some (Deliver d n)
unfolding deliver_in
deliver_again d n is = rw (number_again most d is.0, number_again 255 n is.1) refl

several_again : (n : ℕ) (path : Text) (packages : Given) → own_files path packages ≡ None → IsTextEvent (Built n path packages) → step_in (event_data (Built n path packages)) ≡ Some (Built n path packages)
unfolding built_several_in
several_again n path packages other is = rw other (rw (number_again 255 n is.0, path_again path is.1, packages_again packages is.2, other) refl)

one_again : (n : ℕ) (path own : Text) (files : List NamedFile) → own ≡ path → IsTextEvent (Built n path ((own, files) ∷ []))
    → bytes_eq own path ≡ true → step_in (event_data (Built n path ((own, files) ∷ []))) ≡ Some (Built n path ((own, files) ∷ []))
unfolding built_alone_in
one_again n path own files same is alone =
    let all = (All-head IsTextPackage (own, files) [] is.2).files in
    rw alone (rw (number_again 255 n is.0, path_again path is.1, files_again files all, same) refl)

by_path : (n : ℕ) (path own : Text) (files : List NamedFile) (b : Bool) → bytes_eq own path ≡ b → IsTextEvent (Built n path ((own, files) ∷ []))
    → step_in (event_data (Built n path ((own, files) ∷ []))) ≡ Some (Built n path ((own, files) ∷ []))
by_path n path own files true alone is = one_again n path own files ((bytes_eq-Decides own path).0 alone) is alone
by_path n path own files false other is = several_again n path ((own, files) ∷ []) (rw other refl) is

built_again : (n : ℕ) (path : Text) (packages : Given) → IsTextEvent (Built n path packages) → step_in (event_data (Built n path packages)) ≡ Some (Built n path packages)
built_again n path [] is = several_again n path [] refl is
built_again n path ((own, files) ∷ []) is = by_path n path own files (bytes_eq own path) refl is
built_again n path (p ∷ q ∷ ps) is = several_again n path (p ∷ q ∷ ps) refl is

step_again : (e : Event) → is_step e ≡ true → IsTextEvent e → step_in (event_data e) ≡ Some e
step_again (Claim n path host above) step is = claim_again n path host above is
step_again (Built n path packages) step is = built_again n path packages is
step_again (Failed n path) step is = failed_again n path is
step_again (Nudge n) step is = nudge_again n is
step_again (Ask n path) step is = ask_again n path is
step_again (Deliver d n) step is = deliver_again d n is
step_again (Stop n) step is = absurd cc
step_again (StopIn e left) step is = absurd cc
step_again (Restart n) step is = absurd cc

-- a stop inside a step
stop_again : (e : Event) (l : Left) → is_step e ≡ true → IsTextEvent e → AreLeft l → event_in (event_data (StopIn e l)) ≡ Some (StopIn e l)
unfolding clean_stop_in torn_stop_in
stop_again e left.None step is bytes = rw (step_again e step is) refl
stop_again e (left.Torn b) step is bytes = rw (decode_of-encode_lower b bytes, step_again e step is) refl
stop_again e left.Whole step is bytes = rw (step_again e step is) refl

alone_again : (n : ℕ) → n ≤ 255 → (event_in (event_data (Stop n)) ≡ Some (Stop n)) × (event_in (event_data (Restart n)) ≡ Some (Restart n))
unfolding node_alone_in
alone_again n le = (rw (number_again 255 n le) refl, rw (number_again 255 n le) refl)

built_event : (n : ℕ) (path : Text) (packages : Given) (own : Option (List NamedFile)) → event_in (built_with n path packages own) ≡ step_in (built_with n path packages own)
built_event n path packages None = refl
built_event n path packages (Some files) = refl

pub event_again : (e : Event) → IsTextEvent e → event_in (event_data e) ≡ Some e
event_again (Claim n path host above) is = claim_again n path host above is
event_again (Built n path packages) is = built_event n path packages (own_files path packages) ∙ built_again n path packages is
event_again (Failed n path) is = failed_again n path is
event_again (Nudge n) is = nudge_again n is
event_again (Ask n path) is = ask_again n path is
event_again (Deliver d n) is = deliver_again d n is
event_again (Stop n) is = (alone_again n is).0
event_again (StopIn e left) is = stop_again e left is.0 is.1 is.2
event_again (Restart n) is = (alone_again n is).1

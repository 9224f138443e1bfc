-- What is written has no float, and isn't nested deeply.
use Rattle.std.proofs.Common.{◌≡◌, ℕ, ◌≤◌, List, [], ◌∷◌, map, All, Bool, true, false, Option, None, Some, refl, arith}
use Rattle.std.proofs.lemmas.List.Elements.{All-head, All-tail}
use Rattle.protocol.specs.Events.{Event, Claim, Built, Failed, Nudge, Ask, Deliver, Stop, StopIn, Restart, is_step}
use Rattle.protocol.specs.declared.event.Left.{Left}
use Rattle.protocol.specs.declared.event.Left.TheVariants as left
use Rattle.faults.specs.Bytes.{Text}
use Rattle.package_record.specs.Content.{NamedFile}
use Rattle.protocol.specs.Given.{Given}
use Rattle.serde_json.specs.Data.{Data, depth, items_depth}
use Rattle.serde_json.specs.View.{items_of}
use Rattle.serde_json.specs.Written.{has_float, items_have_float}
use Rattle.stable_record.specs.Magic.{are_ones}
use Rattle.traces.specs.Again.{IsTextEvent, IsTextTrace}
use Rattle.traces.specs.Events.{own_files}
use Rattle.traces.specs.Trace.{Trace}
use Rattle.traces.specs.Written.{built_with, event_data, file_data, files_data, natural, package_data, packages_data, stop_data, trace_data}

-- ---- no float

no_float_among : {X : Type 0} (write : X → Data) → ((x : X) → has_float (write x) ≡ false) → (xs : List X) → items_have_float (items_of (map write xs)) ≡ false
no_float_among write none [] = refl
no_float_among write none (x ∷ xs) = rw (none x, no_float_among write none xs) refl

files_no_float : (files : List NamedFile) → has_float (files_data files) ≡ false
files_no_float files = no_float_among file_data (λ f. refl) files

package_no_float : (p : Text × List NamedFile) → has_float (package_data p) ≡ false
package_no_float p = rw (files_no_float p.1) refl

packages_no_float : (packages : Given) → has_float (packages_data packages) ≡ false
packages_no_float packages = no_float_among package_data package_no_float packages

built_no_float : (n : ℕ) (path : Text) (packages : Given) (own : Option (List NamedFile)) → has_float (built_with n path packages own) ≡ false
built_no_float n path packages None = rw (packages_no_float packages) refl
built_no_float n path packages (Some files) = rw (files_no_float files) refl

stop_no_float : (input : Data) (l : Left) → has_float input ≡ false → has_float (stop_data input l) ≡ false
stop_no_float input left.None none = rw none refl
stop_no_float input (left.Torn bytes) none = rw none refl
stop_no_float input left.Whole none = rw none refl

event_no_float : (e : Event) → has_float (event_data e) ≡ false
event_no_float (Claim n path host above) = refl
event_no_float (Built n path packages) = built_no_float n path packages (own_files path packages)
event_no_float (Failed n path) = refl
event_no_float (Nudge n) = refl
event_no_float (Ask n path) = refl
event_no_float (Deliver d n) = refl
event_no_float (Stop n) = refl
event_no_float (StopIn e l) = stop_no_float (event_data e) l (event_no_float e)
event_no_float (Restart n) = refl

trace_by : (t : Trace) (b : Bool) → are_ones t.weights ≡ b → has_float (trace_data t) ≡ false
trace_by t true is = rw is (rw (no_float_among event_data event_no_float t.events) refl)
trace_by t false is = rw is (rw (no_float_among event_data event_no_float t.events, no_float_among natural (λ n. refl) t.weights) refl)

pub trace_no_float : (t : Trace) → has_float (trace_data t) ≡ false
trace_no_float t = trace_by t (are_ones t.weights) refl

-- ---- nesting

deep_among : {X : Type 0} (write : X → Data) (P : X → Type 0) (n : ℕ) → ((x : X) → P x → depth (write x) ≤ n) → (xs : List X) → All P xs → items_depth (items_of (map write xs)) ≤ n
deep_among write P n each [] are = omega arith
deep_among write P n each (x ∷ xs) are = omega (arith, each x (All-head P x xs are), deep_among write P n each xs (All-tail P x xs are))

any_deep_among : {X : Type 0} (write : X → Data) (n : ℕ) → ((x : X) → depth (write x) ≤ n) → (xs : List X) → items_depth (items_of (map write xs)) ≤ n
any_deep_among write n each [] = omega arith
any_deep_among write n each (x ∷ xs) = omega (arith, each x, any_deep_among write n each xs)

files_depth : (files : List NamedFile) → depth (files_data files) ≤ 2
files_depth files = omega (arith, any_deep_among file_data 1 (λ f. omega arith) files)

package_depth : (p : Text × List NamedFile) → depth (package_data p) ≤ 3
package_depth p = omega (arith, files_depth p.1)

packages_depth : (packages : Given) → depth (packages_data packages) ≤ 4
packages_depth packages = omega (arith, any_deep_among package_data 3 package_depth packages)

built_depth : (n : ℕ) (path : Text) (packages : Given) (own : Option (List NamedFile)) → depth (built_with n path packages own) ≤ 5
built_depth n path packages None = omega (arith, packages_depth packages)
built_depth n path packages (Some files) = omega (arith, files_depth files)

step_depth : (e : Event) → is_step e ≡ true → depth (event_data e) ≤ 5
step_depth (Claim n path host above) step = omega arith
step_depth (Built n path packages) step = built_depth n path packages (own_files path packages)
step_depth (Failed n path) step = omega arith
step_depth (Nudge n) step = omega arith
step_depth (Ask n path) step = omega arith
step_depth (Deliver d n) step = omega arith
step_depth (Stop n) step = absurd cc
step_depth (StopIn e l) step = absurd cc
step_depth (Restart n) step = absurd cc

stop_depth : (input : Data) (l : Left) → depth input ≤ 5 → depth (stop_data input l) ≤ 6
stop_depth input left.None deep = omega (arith, deep)
stop_depth input (left.Torn bytes) deep = omega (arith, deep)
stop_depth input left.Whole deep = omega (arith, deep)

event_depth : (e : Event) → IsTextEvent e → depth (event_data e) ≤ 6
event_depth (Claim n path host above) is = omega arith
event_depth (Built n path packages) is = omega (arith, built_depth n path packages (own_files path packages))
event_depth (Failed n path) is = omega arith
event_depth (Nudge n) is = omega arith
event_depth (Ask n path) is = omega arith
event_depth (Deliver d n) is = omega arith
event_depth (Stop n) is = omega arith
event_depth (StopIn e l) is = stop_depth (event_data e) l (step_depth e is.0)
event_depth (Restart n) is = omega arith

depth_by : (t : Trace) (b : Bool) → are_ones t.weights ≡ b → All IsTextEvent t.events → depth (trace_data t) ≤ 127
depth_by t true is are = rw is (omega (arith, deep_among event_data IsTextEvent 6 event_depth t.events are))
depth_by t false is are = rw is (omega (arith, deep_among event_data IsTextEvent 6 event_depth t.events are, any_deep_among natural 0 (λ n. omega arith) t.weights))

pub trace_depth : (t : Trace) → IsTextTrace t → depth (trace_data t) ≤ 127
trace_depth t is = depth_by t (are_ones t.weights) refl is.events

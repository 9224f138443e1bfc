-- A trace can contain events that happened, and the events of a way.
use Rattle.std.proofs.Common.{◌≡◌, ◌+◌, ◌<◌, ◌≤◌, ◌||◌, ◌&&◌, ◌==◌, ℕ, zero, suc, Bool, true, false, cond, not, nat_le, List, [], ◌∷◌, length, map, take, get_or, Option, Some, None, option_map, Result, Ok, Err, slice_get, refl, sym, ap, subst, ◌∙◌, arith, inl, inr}
use Rattle.std.specs.Prelude.{All}
use Rattle.std.specs.List.{list_all, range_with_len, slice_index, slice_index_or}
use Rattle.std.specs.Str.{IsAscii, bytes_eq, is_utf8}
use Rattle.std.proofs.lemmas.Bool.{and_parts, cases_lt, eqb-true, leb-true, true≢false}
use Rattle.std.proofs.lemmas.List.{length-map}
use Rattle.std.proofs.lemmas.List.Elements.{All-cons, All-nil, All-weaker}
use Rattle.std.proofs.lemmas.Slice.Eq.{bytes_eq-Decides}
use Rattle.std.proofs.lemmas.Str.{IsUtf8-from_ascii, is_utf8-from_IsUtf8}
use Rattle.std.proofs.lemmas.Str.Ascii.{IsAscii-nil}
use Rattle.claims.specs.Member as members
use Rattle.claims.specs.declared.claim.Claim.{Claim}
use Rattle.dpbr_wayon.specs.inside.Sound.{AreTextFiles, HaveTextNames, IsSound}
use Rattle.dpbr_wayon.proofs.JustGiven.{all_good, ascending_apart, paths_in}
use Rattle.engine.specs.Division.{Division, IsDivision, number_found, unit_at}
use Rattle.engine.specs.declared.Letter.{Letter}
use Rattle.protocol.specs.Events as events
use Rattle.protocol.specs.Events.{Event, is_step}
use Rattle.faults.specs.Answers.{first_given, first_that_applies, option_or}
use Rattle.faults.specs.Bytes.{Text, is_among}
use Rattle.listing.specs.Tree.{Tree, path_at}
use Rattle.node.specs.Step.{Asked, Does, Taken, Takes, taken}
use Rattle.node.specs.declared.fault.NodeFault.TheVariants as node_fault
use Rattle.package_record.specs.Content.{Content, NamedFile, is_file_name, is_next_name, is_printable, names_of}
use Rattle.package_record.specs.Making.{build_fault, build_names_fault, names_fault, too_large}
use Rattle.package_record.specs.declared.RecordFault.{RecordFault}
use Rattle.package_record.specs.declared.RecordFault.TheVariants.{BadFileName}
use Rattle.package_record.proofs.ReadLines.{name_parts}
use Rattle.claims.specs.Job.{Task}
use Rattle.protocol.specs.Answers.{Answer}
use Rattle.protocol.specs.Given.{Given}
use Rattle.protocol.specs.InTheAgreement.{view}
use Rattle.protocol.specs.Jobs.{are_given, build_by, files_for, job_of, paths_at, record_by}
use Rattle.protocol.specs.State.{State, Value}
use Rattle.protocol.specs.Step.{at_unit, builds, builds_under, files_refusal, host_in, unless}
use Rattle.protocol.specs.declared.input.Input.TheVariants as inputs
use Rattle.protocol.specs.declared.refusal.Refusal.{Refusal}
use Rattle.protocol.specs.declared.refusal.Refusal.TheVariants as refusals
use Rattle.protocol.proofs.Answering.{has_unit, not_refused}
use Rattle.protocol.proofs.Asked.{unit_is_one}
use Rattle.protocol.proofs.PackageOrder.{paths_ascend}
use Rattle.ways_on.specs.History.{History, IsHistory}
use Rattle.ways_on.specs.History as histories
use Rattle.ways_on.specs.Asked.{IsGranted, is_majority_up, is_queued, next_build, refusal_at, refusal_of_stranger}
use Rattle.ways_on.specs.Rounds.{is_round_left, next_claim}
use Rattle.ways_on.specs.Ways.{AreOnWay, IsOnWay}
use Rattle.ways_on.specs.declared.fault.WayFault.TheVariants as way_fault
use Rattle.wire.specs.declared.datagram.Piece.{Piece}
use Rattle.world.specs.Happening.{Acts, Asks, Happens, Leads, is_up}
use Rattle.world.specs.World.{World, WorldNode, member_at, node_at, start}
use Rattle.world.proofs.Growth.{event_later}

-- ---- names

neither : {X : Type 0} (o p : Option X) → option_or o p ≡ None → (o ≡ None) × (p ≡ None)
neither None p e = (refl, e)
neither (Some x) p e = absurd (let no : Some x ≡ None = e in cc)

none_given : {F : Type 0} (f : ℕ → Option F) (a n : ℕ) → first_given f (range_with_len a n) ≡ None → (k : ℕ) → a ≤ k → k < a + n → f k ≡ None
none_given f a zero e k low high = absurd (omega (arith, low, high))
none_given f a (suc n) e k low high =
    let parts = neither (f a) (first_given f (range_with_len (a + 1) n)) e in
    elim (cases_lt a k) [
      | inl below ↦ none_given f (a + 1) n parts.1 k (omega (arith, below)) (omega (arith, high))
      | inr above ↦ let same : k ≡ a = omega (arith, low, above) in ap f same ∙ parts.0
    ]

none_in : {X F : Type 0} (f : X → Option F) (xs : List X) → first_given f xs ≡ None → All (λ x. f x ≡ None) xs
none_in f [] e = All-nil (λ x. f x ≡ None)
none_in f (x ∷ xs) e =
    let parts = neither (f x) (first_given f xs) e in
    All-cons (λ x. f x ≡ None) x xs parts.0 (none_in f xs parts.1)

passes : (b : Bool) (d : RecordFault) → cond b None (Some d) ≡ None → b ≡ true
passes true d e = refl
passes false d e = absurd (let no : Some d ≡ None = e in cc)

printable_is_ascii : (name : Text) → list_all is_printable name ≡ true → IsAscii name
printable_is_ascii [] all i = IsAscii-nil i
printable_is_ascii (b ∷ bs) all zero =
    let here = (and_parts (is_printable b) (list_all is_printable bs) all).0 in
    let most = leb-true b 0x7e (and_parts (nat_le 0x20 b) (nat_le b 0x7e) here).1 in
    omega (arith, most)
printable_is_ascii (b ∷ bs) all (suc i) =
    printable_is_ascii bs (and_parts (is_printable b) (list_all is_printable bs) all).1 i

-- a name that a file may have is text
name_is_text : (name : Text) → is_file_name name ≡ true → is_utf8 name ≡ true
name_is_text name good =
    is_utf8-from_IsUtf8 name
    (IsUtf8-from_ascii name (printable_is_ascii name (name_parts name good).0))

-- if no name is bad, all names are text
names_are_text : (files : List NamedFile) → names_fault (names_of files) ≡ None → HaveTextNames files
names_are_text files none k d lt =
    let names = names_of files in
    let within : k < length names = omega (arith, lt, length-map files (λ (f : NamedFile). f.name)) in
    let good = passes (is_next_name (take k names) (get_or names k [])) (BadFileName (k + 1))
    (none_given _ 0 (length names) none k (omega arith) (omega (arith, within))) in
    let name = (and_parts (is_file_name (get_or names k []))
    (not (is_among (take k names) (get_or names k []))) good).0 in
    subst (λ (n : Text). is_utf8 n ≡ true) (named files k d lt) (name_is_text (get_or names k []) name)
  where
    named : (fs : List NamedFile) (k : ℕ) (d : NamedFile) → k < length fs
        → get_or (names_of fs) k [] ≡ (slice_index_or fs k d).name
    named [] k d lt = absurd (omega (arith, lt))
    named (f ∷ fs) zero d lt = refl
    named (f ∷ fs) (suc k) d lt = named fs k d (omega (arith, lt))

-- ---- files that make a build

-- if nothing is refused, they are for exactly the unit's packages, and no name is bad
neither_refused : (b : Bool) (o : Option RecordFault)
    → option_or (first_that_applies ((not b, refusals.OtherPackages) ∷ []))
    (option_map refusals.BadFiles o) ≡ None → (b ≡ true) × (o ≡ None)
neither_refused false o e = absurd (let no : Some refusals.OtherPackages ≡ None = e in cc)
neither_refused true None e = (refl, refl)
neither_refused true (Some f) e = absurd (let no : Some (refusals.BadFiles f) ≡ None = e in cc)

-- a path among those of these positions has the files of one of them
of_positions : (Good : Text → Type 0) (tree : Tree) (ps : List ℕ)
    → ((k d : ℕ) → k < length ps → Good (path_at tree (slice_index_or ps k d)))
    → (q : Text) → is_among (map (path_at tree) ps) q ≡ true → Good q
of_positions Good tree [] each q among = absurd (true≢false (sym among))
of_positions Good tree (p ∷ ps) each q among =
    by (bytes_eq (path_at tree p) q) refl among
    (of_positions Good tree ps (λ k d lt. each (suc k) d (omega (arith, lt))) q)
  where
    by : (b : Bool) → bytes_eq (path_at tree p) q ≡ b
        → (b || is_among (map (path_at tree) ps) q) ≡ true
        → (is_among (map (path_at tree) ps) q ≡ true → Good q) → Good q
    by true same e rest =
        subst Good ((bytes_eq-Decides (path_at tree p) q).0 same) (each 0 p (omega arith))
    by false other e rest = rest e

all_among : (ts us : List Text) → list_all (is_among us) ts ≡ true → (q : Text)
    → is_among ts q ≡ true → is_among us q ≡ true
all_among [] us all q among = absurd (true≢false (sym among))
all_among (t ∷ ts) us all q among =
    let parts = and_parts (is_among us t) (list_all (is_among us) ts) all in
    by parts.0 (bytes_eq t q) refl among (all_among ts us parts.1 q)
  where
    by : is_among us t ≡ true → (b : Bool) → bytes_eq t q ≡ b → (b || is_among ts q) ≡ true
        → (is_among ts q ≡ true → is_among us q ≡ true) → is_among us q ≡ true
    by here true same e rest =
        subst (λ (x : Text). is_among us x ≡ true) ((bytes_eq-Decides t q).0 same) here
    by here false other e rest = rest e

-- if they aren't refused, the names of all files are text
pub files_are_text : (s : State) (u : ℕ) (job : Task) (given : Given) → IsDivision s.division
    → u < length s.division.units → files_refusal s u given (build_by s u job given) ≡ None
    → AreTextFiles given
files_are_text s u job given is lt e =
    let tree = s.division.tree in
    let packages = (unit_at s.division u).packages in
    let fine = neither_refused (are_given (paths_at s u) given) (build_fault (build_by s u job given)) e in
    let just = and_parts (length given == length (paths_at s u))
    (list_all (is_among (paths_in given)) (paths_at s u)) fine.0 in
    let named = none_in (λ (c : Content). names_fault (names_of c.files)) (build_by s u job given)
    (neither (build_names_fault (build_by s u job given)) (too_large _) fine.1).0 in
    all_good HaveTextNames (paths_at s u) given
    (ascending_apart (paths_at s u) (paths_ascend s.division u is lt))
    (eqb-true (length given) (length (paths_at s u)) just.0)
    (all_among (paths_at s u) (paths_in given) just.1)
    (of_positions (λ (q : Text). HaveTextNames (files_for given q)) tree packages
    (λ k d within. names_are_text (files_for given (path_at tree (slice_index_or packages k d)))
    (at_place packages named k d within)))
  where
    at_place : (ps : List ℕ) → All (λ (c : Content). names_fault (names_of c.files) ≡ None)
        (map (record_by s.division.tree job given) ps) → (k d : ℕ) → k < length ps
        → names_fault (names_of (files_for given (path_at s.division.tree (slice_index_or ps k d)))) ≡ None
    at_place [] all k d lt = absurd (omega (arith, lt))
    at_place (p ∷ ps) all zero d lt =
        all 0 (record_by s.division.tree job given p) (omega arith)
    at_place (p ∷ ps) all (suc k) d lt =
        at_place ps (λ j c within. all (suc j) c (omega (arith, within))) k d (omega (arith, lt))

-- ---- what happened

-- a build that a member takes
builds_text : (s : State) (given : Given) (u : ℕ) (a : Answer) (stage : members.Stage Value)
    → IsDivision s.division → u < length s.division.units
    → builds_under s u (host_in s.claim) given stage ≡ Ok a → AreTextFiles given
builds_text s given u a members.Closed is lt e = absurd (let no : Err refusals.NoClaim ≡ Ok a = e in cc)
builds_text s given u a (members.Gathering c S k) is lt e = absurd (let no : Err refusals.NoClaim ≡ Ok a = e in cc)
builds_text s given u a (members.Voting b S) is lt e = absurd (let no : Err refusals.NoClaim ≡ Ok a = e in cc)
builds_text s given u a (members.Building c) is lt e =
    let job = job_of s u (host_in s.claim) c in
    files_are_text s u job given is lt
    (not_refused (files_refusal s u given (build_by s u job given)) _ a e).0

-- a node's step is its member's
member_took : (pieces : List Piece) (r : Result Answer Refusal) (t : Taken) → Ok t ≡ taken pieces r
    → (a : Answer) × (r ≡ Ok a)
member_took pieces (Ok a) t e = (a, refl)
member_took pieces (Err f) t e = absurd (let no : Ok t ≡ Err (node_fault.Refused f) = e in cc)

took_text : (w : World) (k : ℕ) (x : WorldNode) (path : Text) (given : Given) (t : Taken)
    → IsDivision w.division → Takes (node_at w k x) (Does (inputs.Built path given)) (Ok t)
    → AreTextFiles given
took_text w k x path given t is takes =
    let s = member_at w k x in
    let took = member_took x.pieces (at_unit refusals.NoClaim (builds s given) (number_found w.division path)) t takes.right_is in
    let unit = has_unit refusals.NoClaim (builds s given) (number_found w.division path) took.0 took.1 in
    builds_text s given unit.0 took.0 (view s unit.0).stage is (unit_is_one s path unit.0 unit.1) unit.2

acts_sound : (w : World) (e : Event) (x : WorldNode) (t : Taken) → IsDivision w.division
    → is_step e ≡ true → Acts w e x t → IsSound e
acts_sound w (events.Claim n path host above) x t is step acts = tt
acts_sound w (events.Built n path given) x t is step acts =
    took_text w n x path given t is
    (subst (λ (a : Asked). Takes (node_at w n x) a (Ok t)) acts.asks acts.takes)
acts_sound w (events.Failed n path) x t is step acts = tt
acts_sound w (events.Nudge n) x t is step acts = tt
acts_sound w (events.Ask n path) x t is step acts = tt
acts_sound w (events.Deliver d n) x t is step acts = tt
acts_sound w (events.Stop n) x t is step acts = tt
acts_sound w (events.StopIn e l) x t is step acts = absurd (true≢false (sym step))
acts_sound w (events.Restart n) x t is step acts = tt

event_sound : (w v : World) (e : Event) → IsDivision w.division → Happens w e v → IsSound e
event_sound w v (events.Claim n path host above) is h = tt
event_sound w v (events.Built n path given) is h =
    acts_sound w (events.Built n path given) h.node h.taken is refl h.acts
event_sound w v (events.Failed n path) is h = tt
event_sound w v (events.Nudge n) is h = tt
event_sound w v (events.Ask n path) is h = tt
event_sound w v (events.Deliver d n) is h = tt
event_sound w v (events.Stop n) is h = tt
event_sound w v (events.StopIn e l) is h = (h.step, acts_sound w e h.node h.taken is h.step h.acts)
event_sound w v (events.Restart n) is h = tt

all_sound : (w v : World) (es : List Event) → IsDivision w.division → Leads w es v → All IsSound es
all_sound w v [] is led = All-nil IsSound
all_sound w v (e ∷ es) is (u, h, rest) =
    All-cons IsSound e es (event_sound w u e is h)
    (all_sound u v es
    (subst (λ (d : Division). IsDivision d) (sym (event_later w u e h).division) is) rest)

-- A trace can contain all events that a world took.
pub history_sound : (h : History) → IsHistory h → All IsSound (histories.taken h)
history_sound h is =
    all_sound (start h.world.division h.world.weights) h.world (histories.taken h) is.made.divided is.led

-- ---- a way

no_refusal : (a b c : Bool) (o : Option Refusal)
    → None ≡ option_or (first_that_applies ((a, way_fault.NotQueued) ∷ (b, way_fault.NoMajority)
    ∷ (c, way_fault.Refused refusals.RoundsSpent) ∷ [])) (option_map way_fault.Refused o)
    → o ≡ None
no_refusal true b c o e = absurd (let no : None ≡ Some way_fault.NotQueued = e in cc)
no_refusal false true c o e = absurd (let no : None ≡ Some way_fault.NoMajority = e in cc)
no_refusal false false true o e =
    absurd (let no : None ≡ Some (way_fault.Refused refusals.RoundsSpent) = e in cc)
no_refusal false false false None e = refl
no_refusal false false false (Some r) e =
    absurd (let no : None ≡ Some (way_fault.Refused r) = e in cc)

-- the files of a granted way
text_of : (w : World) (s : State) (letter : Letter) (path : Text) (host : ℕ) (given : Given)
    → IsDivision s.division → (o : Option ℕ) → number_found s.division path ≡ o
    → None ≡ refusal_at w s letter path host given o → AreTextFiles given
text_of w s letter path host given is None named e =
    absurd (let no : None ≡ Some (refusal_of_stranger s path) = e in cc)
text_of w s letter path host given is (Some u) named e =
    files_are_text s u (job_of s u host (next_claim w u s.me)) given is (unit_is_one s path u named)
    (no_refusal (not (is_queued letter)) (not (is_majority_up w)) (not (is_round_left w u s.me))
    (files_refusal s u given (next_build w s u host given)) e)

granted_text : (w : World) (k : ℕ) (path : Text) (host : ℕ) (given : Given) → IsDivision w.division
    → IsGranted w k path host given → AreTextFiles given
granted_text w k path host given is g =
    text_of w (member_at w k g.node) g.letter path host given is (number_found w.division path) refl
    g.tested_is

on_way_sound : (k : ℕ) (path : Text) (host : ℕ) (given : Given) (e : Event) → AreTextFiles given
    → IsOnWay k path host given e → IsSound e
on_way_sound k path host given (events.Claim n p h above) text on = tt
on_way_sound k path host given (events.Built n p g) text on = subst AreTextFiles (sym on.2) text
on_way_sound k path host given (events.Failed n p) text on = tt
on_way_sound k path host given (events.Nudge n) text on = tt
on_way_sound k path host given (events.Ask n p) text on = tt
on_way_sound k path host given (events.Deliver d n) text on = tt
on_way_sound k path host given (events.Stop n) text on = tt
on_way_sound k path host given (events.StopIn e l) text on = absurd on
on_way_sound k path host given (events.Restart n) text on = tt

-- A trace can contain all events of a granted way.
pub way_sound : (h : History) → IsHistory h → (k : ℕ) (path : Text) (host : ℕ) (given : Given)
    (way : List Event) → IsGranted h.world k path host given
    → AreOnWay h.world k path host given way → All IsSound way
way_sound h is k path host given way granted on = λ j d lt.
    on_way_sound k path host given _ (granted_text h.world k path host given is.made.divided granted)
    (on j d lt).0

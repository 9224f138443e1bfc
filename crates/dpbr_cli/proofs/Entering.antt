-- Words in which clap finds no fault name a subcommand other than clap's own `help`.
use Rattle.std.proofs.Common.{◌≡◌, ◌&&◌, ℕ, Bool, true, false, not, List, [], ◌∷◌, Option, None, Some, IfSome, refl, sym, subst, true≢false, codes}
use Rattle.std.specs.Prelude.{find, fold, if◌then◌else◌, is_some, option_map}
use Rattle.std.specs.List.{list_any}
use Rattle.std.specs.Option.{option_map_or}
use Rattle.std.specs.Str.{bytes_eq}
use Rattle.clap.specs.Faults.{built_fault, defaults_fault, entered_fault, level_fault, other_fault, settle_fault, step_fault, turn_fault, walk_fault, word_fault}
use Rattle.clap.specs.Kinds.{Kinds, check_kinds, or_else}
use Rattle.clap.specs.Lexer.{long_of, short_of}
use Rattle.clap.specs.Simple.{App, Shape, entered, label_of, names_of, rows_at}
use Rattle.clap.specs.Takes.{is_given}
use Rattle.clap.specs.Walk.{Held, Names, Outcome, Row, Rule, Step, Text, Waiting, Walk}
use Rattle.clap.specs.Walk.{done, waits, plain, refused, idle, option, positional, next, trailing, subcommand, value}
use Rattle.clap.specs.Walk.{after_flag, after_step, answers_to, arg_by_index, finished, long_or_other, nothing_held, plain_word, settled, short_or_plain, subcommand_met, subcommand_or_other}
use Rattle.clap.specs.Walk.{to_positional, walk, walk_from, walked, walked_from, word_met}
use Rattle.clap.specs.declared.error.kind.ErrorKind.{ErrorKind}

-- ---- no fault is found

-- neither of two checks fails
pub neither : (a b : Kinds) → or_else a b ≡ [] → (a ≡ []) × (b ≡ [])
neither [] b none = (refl, none)
neither (k ∷ ks) b none = absurd (let no : k ∷ ks ≡ [] = none in cc)

-- the condition of a fault doesn't hold
untrue : (b : Bool) (k : ErrorKind) (ks : Kinds) → (if b then k ∷ ks else []) ≡ [] → b ≡ false
untrue true k ks none = absurd (let no : k ∷ ks ≡ [] = none in cc)
untrue false k ks none = refl

-- none of the last checks fails
checks_pass : (a b c : Bool) → check_kinds a b c ≡ [] → (b ≡ false) × (c ≡ false)
checks_pass true b c none = absurd cc
checks_pass false true c none = absurd cc
checks_pass false false true none = absurd cc
checks_pass false false false none = (refl, refl)

-- ---- the subcommands that a walk without a fault reaches

module _ (s : Shape) (names : Names) where
  -- the name of the subcommand is not that of `help`
  abbrev pub IsNoHelp : Text → Type 0
  IsNoHelp name = (bytes_eq name (codes "help") && not s.disable_help_subcommand) ≡ false

  abbrev StepsWell : Step → Type 0
  StepsWell (next waiting) = Unit {0}
  StepsWell (trailing position) = Unit {0}
  StepsWell (subcommand name) = IsNoHelp name
  StepsWell value = Unit {0}

  abbrev StopsWell : Walk → Type 0
  StopsWell w = IfSome w.stopped (λ (p : Text × List Text). IsNoHelp p.0)

  plain_well : (waiting : Waiting) (word : Text) (h : Held) → StepsWell (plain_word s.rules waiting word h).1
  plain_well idle word h = tt
  plain_well positional word h = tt
  plain_well (option id) word h = tt

  flag_well : (waiting : Waiting) (word : Text) (h : Held) (outcome : Outcome) → StepsWell (after_flag s.rules waiting word h outcome).1
  flag_well waiting word h done = tt
  flag_well waiting word h (waits id) = tt
  flag_well waiting word h plain = plain_well waiting word h
  flag_well waiting word h refused = plain_well waiting word h

  met_well : (is_trailing : Bool) (waiting : Waiting) (position : ℕ) (word : Text) (h : Held) → word_fault s names is_trailing waiting word h ≡ []
      → StepsWell (word_met s.rules names is_trailing waiting position word h).1
  met_well true waiting position word h none = tt
  met_well false waiting position word h none = by (subcommand_met names waiting word) none
    where
      short : (o : Option Text) → StepsWell (short_or_plain s.rules waiting word o h).1
      short (Some flags) = flag_well waiting word _ _
      short None = plain_well waiting word h

      long : (o : Option (Text × Option Text)) → StepsWell (long_or_other s.rules waiting word o h).1
      long (Some p) = flag_well waiting word _ _
      long None = short (short_of word)

      dashes : (b : Bool) → StepsWell (if b then (h, trailing position) else long_or_other s.rules waiting word (long_of word) h).1
      dashes true = tt
      dashes false = long (long_of word)

      by : (o : Option Text) → other_fault s o word h ≡ [] → StepsWell (subcommand_or_other s.rules o waiting position word h).1
      by (Some name) e = untrue (bytes_eq name (codes "help") && not s.disable_help_subcommand) _ _ e
      by None e = dashes (bytes_eq word (45 ∷ 45 ∷ []))

  step_well : (word : Text) (w : Walk) (h : Held) (step : Step) → StopsWell w → StepsWell step → StopsWell (after_step s.rules word w h step)
  step_well word w h (next waiting) stops steps = stops
  step_well word w h (trailing position) stops steps = stops
  step_well word w h (subcommand name) stops steps = steps
  step_well word w h value stops steps = by (arg_by_index s.rules w.position)
    where
      by : (o : Option Rule) → StopsWell (to_positional s.rules o word w h)
      by None = stops
      by (Some a) = tt

  walked_well : (w : Walk) (word : Text) → StopsWell w → turn_fault s names w word ≡ [] → StopsWell (walked s.rules names w word)
  unfolding walked
  walked_well w word stops none = by w.stopped stops none
    where
      met : Held × Step
      met = word_met s.rules names w.is_trailing w.waiting w.position word w.held

      by : (o : Option (Text × List Text)) → IfSome o (λ (p : Text × List Text). IsNoHelp p.0)
          → (if is_some o then [] else or_else (word_fault s names w.is_trailing w.waiting word w.held) (step_fault s w.position met.0 met.1)) ≡ []
          → StopsWell (walked_from s.rules names o w word)
      by (Some p) well e = well
      by None well e =
          let passing = neither (word_fault s names w.is_trailing w.waiting word w.held) _ e in
          step_well word w met.0 met.1 stops (met_well w.is_trailing w.waiting w.position word w.held passing.0)

  walk_well : (words : List Text) (w : Walk) → StopsWell w → walk_fault s names w words ≡ [] → StopsWell (fold (walked s.rules names) w words)
  unfolding walk_fault
  walk_well [] w stops none = stops
  walk_well (word ∷ words) w stops none =
      let parts = neither (turn_fault s names w word) _ none in
      walk_well words (walked s.rules names w word) (walked_well w word stops parts.0) parts.1

-- ---- what words without a fault name

given : (a b : Bool) → (not a && b) ≡ false → b ≡ true → a ≡ true
given true b e t = refl
given false b e t = absurd (true≢false (subst (λ (x : Bool). x ≡ false) t e))

-- the subcommand that the words name has no fault either
pub record Enters (b : App) (words : List Text) : Type 0 where
  pub name : Text
  pub rest : List Text
  pub shape : Shape
  pub found : find (λ s. answers_to name (label_of s)) b.subs ≡ Some shape
  pub faultless : level_fault shape [] nothing_held rest false [] ≡ []
  pub enters : entered b (walk b.top.rules (names_of b) nothing_held words).stopped ≡ Some (rows_at shape rest)
  pub no_help : IsNoHelp b.top (names_of b) name

module _ (b : App) (words : List Text) where
  abbrev end : Walk
  end = walk b.top.rules (names_of b) nothing_held words

  abbrev Goes : Option (Text × List Text) → Type 0
  Goes o = (name : Text) × (rest : List Text) × (shape : Shape) × (find (λ s. answers_to name (label_of s)) b.subs ≡ Some shape)
      × (level_fault shape [] nothing_held rest false [] ≡ []) × (entered b o ≡ Some (rows_at shape rest)) × IsNoHelp b.top (names_of b) name

  goes : (o : Option (Text × List Text)) → entered_fault b o ≡ [] → is_some (entered b o) ≡ true → IfSome o (λ (p : Text × List Text). IsNoHelp b.top (names_of b) p.0) → Goes o
  goes None none some well = absurd (true≢false (sym some))
  goes (Some (name, rest)) none some well = by (find (λ s. answers_to name (label_of s)) b.subs) refl none some
    where
      by : (f : Option Shape) → find (λ s. answers_to name (label_of s)) b.subs ≡ f → option_map_or (λ s. level_fault s [] nothing_held rest false []) f [] ≡ []
          → is_some (option_map (λ s. rows_at s rest) f) ≡ true → Goes (Some (name, rest))
      by None found none some = absurd (true≢false (sym some))
      by (Some shape) found none some = (name, rest, shape, found, none, (λ i. option_map (λ s. rows_at s rest) (found i)), well)

  pub enters_one : b.top.subcommand_required ≡ true → built_fault b nothing_held words ≡ [] → Enters b words
  enters_one required none =
      let has : Bool = is_some (entered b end.stopped) in
      let walks = neither (walk_fault b.top (names_of b) (walk_from nothing_held) words) _ none in
      let enters = neither (entered_fault b end.stopped) _ walks.1 in
      let settles = neither (settle_fault b.top.rules b.top.args_override_self end.held) _ enters.1 in
      let defaults = neither (defaults_fault (settled b.top.rules end.held).rows b.top.rules) _ settles.1 in
      let checks = checks_pass _ (not has && b.top.subcommand_required) _ defaults.1 in
      let some : has ≡ true = given has b.top.subcommand_required checks.0 required in
      let well = walk_well b.top (names_of b) words (walk_from nothing_held) tt walks.0 in
      let goes = goes end.stopped enters.0 some well in
      record { name = goes.0; rest = goes.1; shape = goes.2; found = goes.3; faultless = goes.4; enters = goes.5; no_help = goes.6 }

-- if no fault is found, no required argument is missing
pub none_lacks : (s : Shape) (words : List Text) → s.subcommand_negates_reqs ≡ false → level_fault s [] nothing_held words false [] ≡ []
    → list_any (λ a. a.required && not (is_given a.id (finished s.rules (walk s.rules [] nothing_held words).held))) s.rules ≡ false
none_lacks s words keeps none =
    let rows : List Row = finished s.rules (walk s.rules [] nothing_held words).held in
    let walks = neither (walk_fault s [] (walk_from nothing_held) words) _ none in
    let settles = neither (settle_fault s.rules s.args_override_self (walk s.rules [] nothing_held words).held) _ walks.1 in
    let defaults = neither (defaults_fault (settled s.rules (walk s.rules [] nothing_held words).held).rows s.rules) _ settles.1 in
    let checks = checks_pass _ _ (not (s.subcommand_negates_reqs && false) && list_any (λ a. a.required && not (is_given a.id rows)) s.rules) defaults.1 in
    subst (λ (n : Bool). (not (n && false) && list_any (λ a. a.required && not (is_given a.id rows)) s.rules) ≡ false) keeps checks.1

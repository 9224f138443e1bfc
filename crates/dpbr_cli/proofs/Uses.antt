-- If clap finds no fault in words, the matches for an argument are values that a use of it may
-- have.
use Rattle.std.proofs.Common.{◌≡◌, ◌<◌, ◌⊎◌, inl, inr, ◌++◌, ◌&&◌, ◌||◌, not, ℕ, Bool, true, false, cond, List, [], ◌∷◌, Option, None, Some, IfSome, arith, refl, sym, subst, ap, append_assoc, length, true≢false}
use Rattle.std.specs.Prelude.{find, fold, if◌then◌else◌, is_some, option_and_then, option_map, slice_get}
use Rattle.std.specs.List.{list_any}
use Rattle.std.specs.Option.{option_map_or}
use Rattle.std.specs.Str.{bytes_eq}
use Rattle.std.proofs.lemmas.Slice.Eq.{bytes_eq-Decides}
use Rattle.clap.specs.Facts.{explicit_source, parser_of_value}
use Rattle.clap.specs.Faults.{bundle_fault, defaults_fault, flag_word_fault, level_fault, other_fault, positional_fault, settle_fault, step_fault, stray_fault, turn_fault, values_fault, walk_fault, word_fault}
use Rattle.clap.specs.Kinds.{or_else, value_kinds}
use Rattle.clap.specs.Lexer.{long_of, short_of}
use Rattle.clap.specs.Simple.{Shape}
use Rattle.clap.specs.Takes.{is_given}
use Rattle.clap.specs.Values.{read_as}
use Rattle.clap.specs.Walk.{Held, Names, Row, Rule, Step, Text, Waiting, Walk}
use Rattle.clap.specs.Walk.{plain, next, trailing, subcommand, value}
use Rattle.clap.specs.Walk.{action_of, after_step, arg_by_id, arg_by_index, arg_by_long}
use Rattle.clap.specs.Walk.{first_of, has_long, long_or_other, nothing_held, one_of}
use Rattle.clap.specs.Walk.{reading_by, row_text, rows_after, settled, short_or_plain, subcommand_met, subcommand_or_other, to_positional}
use Rattle.clap.specs.Walk.{walk, walk_from, walked, walked_from, word_met}
use Rattle.dpbr_cli.proofs.Entering.{neither}
use Rattle.dpbr_cli.proofs.Rows.{AllFit, AreKnown, AreValues, fit_bundle, fit_defaults, fit_flag, fit_long, fit_plain, fit_positional, fit_settled, found_known, has_values}

-- ---- arguments with different names

-- the names of these arguments differ from each other and from those before them, and each use of
-- them has a value
abbrev pub are_known : List Rule → List Rule → Bool
are_known before [] = true
are_known before (a ∷ rules) =
    not (list_any (λ b. bytes_eq b.id a.id) before) && (has_values a (action_of a) && are_known (before ++ a ∷ []) rules)

-- an argument with a new name is the one of its name
own_found : (before : List Rule) (a : Rule) (rules : List Rule) → list_any (λ b. bytes_eq b.id a.id) before ≡ false → arg_by_id (before ++ a ∷ rules) a.id ≡ Some a
own_found [] a rules none = rw ((bytes_eq-Decides a.id a.id).1 refl) refl
own_found (b ∷ before) a rules none = by (bytes_eq b.id a.id) none (own_found before a rules)
  where
    by : (same : Bool) → (same || list_any (λ b. bytes_eq b.id a.id) before) ≡ false
        → (list_any (λ b. bytes_eq b.id a.id) before ≡ false → arg_by_id (before ++ a ∷ rules) a.id ≡ Some a)
        → cond same (Some b) (arg_by_id (before ++ a ∷ rules) a.id) ≡ Some a
    by true none rest = absurd (true≢false none)
    by false none rest = rest none

-- arguments that pass the test are known, after those before them
each_known : (before rules : List Rule) → are_known before rules ≡ true → AreKnown (before ++ rules) rules
each_known before [] test = tt
each_known before (a ∷ rules) test =
    by (list_any (λ b. bytes_eq b.id a.id) before) refl (has_values a (action_of a)) refl test
    (λ rest. subst (λ c. AreKnown c rules) (append_assoc before (a ∷ []) rules) (each_known (before ++ a ∷ []) rules rest))
  where
    by : (named : Bool) → list_any (λ b. bytes_eq b.id a.id) before ≡ named → (valued : Bool) → has_values a (action_of a) ≡ valued
        → (not named && (valued && are_known (before ++ a ∷ []) rules)) ≡ true
        → (are_known (before ++ a ∷ []) rules ≡ true → AreKnown (before ++ a ∷ rules) rules) → AreKnown (before ++ a ∷ rules) (a ∷ rules)
    by true named valued has test rest = absurd (true≢false (sym test))
    by false named false has test rest = absurd (true≢false (sym test))
    by false named true has test rest = (record { own = own_found before a rules named; values = has }, rest test)

-- so a list of arguments passes a test that can be computed
pub known : (c : List Rule) → are_known [] c ≡ true → AreKnown c c
known c test = each_known [] c test

-- ---- words

module _ (s : Shape) (names : Names) (all : AreKnown s.rules s.rules) where
  abbrev again : Bool
  again = s.args_override_self

  fit_met : (is_trailing : Bool) (waiting : Waiting) (position : ℕ) (word : Text) (h : Held) → word_fault s names is_trailing waiting word h ≡ []
      → AllFit s.rules h.rows → AllFit s.rules (word_met s.rules names is_trailing waiting position word h).0.rows
  fit_met true waiting position word h none p = p
  fit_met false waiting position word h none p = by (subcommand_met names waiting word) none
    where
      short : (o : Option Text) → option_map_or (λ flags. bundle_fault s.rules again flags h) o [] ≡ [] → AllFit s.rules (short_or_plain s.rules waiting word o h).0.rows
      short (Some flags) e =
          fit_flag s.rules again all waiting word _ _ (fit_bundle s.rules again all (length flags) flags h.skip plain (record h { skip = 0 }) e p)
      short None e = fit_plain s.rules again all waiting word h p

      long : (o : Option (Text × Option Text)) → flag_word_fault s.rules again o word h ≡ [] → AllFit s.rules (long_or_other s.rules waiting word o h).0.rows
      long (Some q) e =
          fit_flag s.rules again all waiting word _ _
          (fit_long s.rules again all (arg_by_long s.rules q.0) q.1 h (found_known s.rules (λ a. not (is_some a.index) && has_long a q.0) s.rules all) e p)
      long None e = short (short_of word) e

      dashes : (b : Bool) → (if b then [] else flag_word_fault s.rules again (long_of word) word h) ≡ []
          → AllFit s.rules (if b then (h, trailing position) else long_or_other s.rules waiting word (long_of word) h).0.rows
      dashes true e = p
      dashes false e = long (long_of word) e

      by : (o : Option Text) → other_fault s o word h ≡ [] → AllFit s.rules (subcommand_or_other s.rules o waiting position word h).0.rows
      by (Some name) e = p
      by None e = dashes (bytes_eq word (45 ∷ 45 ∷ [])) e

  fit_step : (word : Text) (w : Walk) (h : Held) (step : Step) → step_fault s w.position h step ≡ [] → AllFit s.rules h.rows
      → AllFit s.rules (after_step s.rules word w h step).held.rows
  fit_step word w h (next waiting) none p = p
  fit_step word w h (trailing position) none p = p
  fit_step word w h (subcommand name) none p = p
  fit_step word w h value none p = by (arg_by_index s.rules w.position) none
    where
      by : (o : Option Rule) → option_map_or (λ a. positional_fault s.rules again a h) o (stray_fault s) ≡ []
          → AllFit s.rules (to_positional s.rules o word w h).held.rows
      by None e = p
      by (Some a) e = fit_positional s.rules again all a word h e p

  fit_walked : (w : Walk) (word : Text) → turn_fault s names w word ≡ [] → AllFit s.rules w.held.rows → AllFit s.rules (walked s.rules names w word).held.rows
  unfolding walked
  fit_walked w word none p = by w.stopped none
    where
      met : Held × Step
      met = word_met s.rules names w.is_trailing w.waiting w.position word w.held

      by : (o : Option (Text × List Text))
          → (if is_some o then [] else or_else (word_fault s names w.is_trailing w.waiting word w.held) (step_fault s w.position met.0 met.1)) ≡ []
          → AllFit s.rules (walked_from s.rules names o w word).held.rows
      by (Some q) e = p
      by None e =
          let passing = neither (word_fault s names w.is_trailing w.waiting word w.held) _ e in
          fit_step word w met.0 met.1 passing.1 (fit_met w.is_trailing w.waiting w.position word w.held passing.0 p)

  fit_walk : (words : List Text) (w : Walk) → walk_fault s names w words ≡ [] → AllFit s.rules w.held.rows
      → AllFit s.rules (fold (walked s.rules names) w words).held.rows
  unfolding walk_fault
  fit_walk [] w none p = p
  fit_walk (word ∷ words) w none p =
      let parts = neither (turn_fault s names w word) _ none in
      fit_walk words (walked s.rules names w word) parts.1 (fit_walked w word parts.0 p)

-- if no fault is found, each row is valid
pub rows_fit : (s : Shape) (words : List Text) → AreKnown s.rules s.rules → level_fault s [] nothing_held words false [] ≡ []
    → AllFit s.rules (rows_after s.rules [] words)
rows_fit s words all none =
    let end : Held = (walk s.rules [] nothing_held words).held in
    let walks = neither (walk_fault s [] (walk_from nothing_held) words) _ none in
    let settles = neither (settle_fault s.rules s.args_override_self end) _ walks.1 in
    let defaults = neither (defaults_fault (settled s.rules end).rows s.rules) _ settles.1 in
    let held : AllFit s.rules end.rows = fit_walk s [] all words (walk_from nothing_held) walks.0 tt in
    fit_defaults s.rules s.rules (settled s.rules end).rows all defaults.0 (fit_settled s.rules s.args_override_self all end settles.0 held)

-- a value was matched for the argument: the first one is accepted by its parser, and parsed as the
-- argument's are
pub record IsMatched (a : Rule) (rows : List Row) : Type 0 where
  pub text : Text
  pub first : first_of a.id rows ≡ Some text
  pub one : one_of a.id rows ≡ Some (read_as (reading_by a) text)
  pub passes : value_kinds a.ignore_case (parser_of_value a.parser) text ≡ []

module _ (c : List Rule) (a : Rule) (own : arg_by_id c a.id ≡ Some a) where
  abbrev In : Option Row → Type 0
  In o = (text : Text) × (option_and_then (λ (x : Row). slice_get x.values 0) o ≡ Some text)
      × (option_and_then row_text o ≡ Some (read_as (reading_by a) text))
      × (value_kinds a.ignore_case (parser_of_value a.parser) text ≡ [])

  in_row : (r : Row) → AreValues a r.values r.reading → In (Some r)
  in_row r are = by r.values are.some are.pass
    where
      by : (vs : List Text) → 0 < length vs → values_fault a vs ≡ []
          → (text : Text) × (slice_get vs 0 ≡ Some text)
          × (option_map (read_as r.reading) (slice_get vs 0) ≡ Some (read_as (reading_by a) text))
          × (value_kinds a.ignore_case (parser_of_value a.parser) text ≡ [])
      by [] some pass = absurd (omega (arith, some))
      by (v ∷ vs) some pass = (
        v,
        refl,
        ap (λ how. Some (read_as how v)) are.read,
        (neither (value_kinds a.ignore_case (parser_of_value a.parser) v) (values_fault a vs) pass).0,
      )

  in_found : (rows : List Row) → AllFit c rows → IfSome (find (λ (r : Row). bytes_eq r.id a.id) rows) (λ r. In (Some r))
  in_found [] all = tt
  in_found (r ∷ rs) all = by (bytes_eq r.id a.id) refl (in_found rs all.1)
    where
      by : (b : Bool) → bytes_eq r.id a.id ≡ b → IfSome (find (λ (r : Row). bytes_eq r.id a.id) rs) (λ r. In (Some r))
          → IfSome (cond b (Some r) (find (λ (r : Row). bytes_eq r.id a.id) rs)) (λ r. In (Some r))
      by true is rest =
          let found : arg_by_id c r.id ≡ Some a = subst (λ (t : Text). arg_by_id c t ≡ Some a) (sym ((bytes_eq-Decides r.id a.id).0 is)) own in
          in_row r (subst (λ (o : Option Rule). IfSome o (λ b. AreValues b r.values r.reading)) found all.0)
      by false is rest = rest

  as_matched : (rows : List Row) → In (find (λ (r : Row). bytes_eq r.id a.id) rows) → IsMatched a rows
  as_matched rows there = record { text = there.0; first = there.1; one = there.2; passes = there.3 }

  -- nothing was matched for the argument, or such a value
  pub none_or_matched : (rows : List Row) → AllFit c rows → (first_of a.id rows ≡ None) ⊎ IsMatched a rows
  none_or_matched rows all = by (find (λ (r : Row). bytes_eq r.id a.id) rows) refl (in_found rows all)
    where
      by : (o : Option Row) → find (λ (r : Row). bytes_eq r.id a.id) rows ≡ o → IfSome o (λ r. In (Some r))
          → (first_of a.id rows ≡ None) ⊎ IsMatched a rows
      by None is found = inl (ap (option_and_then (λ (x : Row). slice_get x.values 0)) is)
      by (Some r) is found = inr (as_matched rows (subst In (sym is) found))

  -- what is given is matched
  pub given_matched : (rows : List Row) → AllFit c rows → is_given a.id rows ≡ true → IsMatched a rows
  given_matched rows all given = by (find (λ (r : Row). bytes_eq r.id a.id) rows) refl (in_found rows all) given
    where
      by : (o : Option Row) → find (λ (r : Row). bytes_eq r.id a.id) rows ≡ o → IfSome o (λ r. In (Some r))
          → option_map_or (λ (r : Row). explicit_source r.source) o false ≡ true → IsMatched a rows
      by None is found given = absurd (true≢false (sym given))
      by (Some r) is found given = as_matched rows (subst In (sym is) found)

-- If clap finds no fault in words, it has matched a subcommand of the table, and what its row
-- requires.
use Rattle.std.proofs.Common.{◌≡◌, ◌⊎◌, ◌++◌, ◌&&◌, ◌||◌, inl, inr, ℕ, Bool, true, false, cond, find, map, List, [], ◌∷◌, None, Option, Some, refl, sym, subst, not, true≢false, codes}
use Rattle.std.specs.Prelude.{if◌then◌else◌, pos}
use Rattle.std.specs.List.{list_all, list_any}
use Rattle.std.specs.Str.{bytes_eq}
use Rattle.std.proofs.lemmas.Slice.Eq.{bytes_eq-Decides}
use Rattle.clap.specs.Faults.{level_fault}
use Rattle.clap.specs.Simple.{Shape, built_leaf, filled, filled_from, help_rule, help_shape, index_after, inherited, label_of, new_rule, new_shape, rows_at, with_index}
use Rattle.clap.specs.Takes.{is_given}
use Rattle.clap.specs.Walk.{Row, Rule, Text, answers_to, nothing_held, rows_after}
use Rattle.clap.specs.declared.builder.action.ArgAction.{ArgAction}
use Rattle.clap.specs.declared.builder.action.ArgAction.TheVariants.{SetTrue}
use Rattle.clap.specs.declared.builder.value_parser.ValueParser.{ValueParser}
use Rattle.clap.specs.declared.builder.value_parser.ValueParser.TheVariants.{Signed}
use Rattle.clap.specs.declared.error.kind.ErrorKind.{ErrorKind}
use Rattle.clap.proofs.ValueTestLemmas.{accepts-Accepts}
use Rattle.dpbr_cli.proofs.Entering.{none_lacks}
use Rattle.dpbr_cli.proofs.Rows.{AllFit, AreKnown, IsKnown}
use Rattle.dpbr_cli.proofs.Uses.{IsMatched, are_known, given_matched, known, none_or_matched, rows_fit}
use Rattle.dpbr_cli.specs.Table.{ArgumentRow, SubcommandRow}
use Rattle.dpbr_cli.specs.declared.call_table.Kind.{Kind}
use Rattle.dpbr_cli.specs.declared.call_table.Kind.TheVariants.{Flag, Number, Word}
use Rattle.dpbr_cli.specs.declared.call_table.Place.{Place}
use Rattle.dpbr_cli.specs.declared.call_table.Place.TheVariants.{Needed, Optional, Positional}
use Rattle.dpbr_cli.specs.shared.Matches.{HasArgument, HasArguments, HasCall, HasLists, HasSubcommand, HasValue}

-- ---- arguments

-- a value without a fault is accepted
passed : (b : Bool) (k : ErrorKind) → (if b then [] else k ∷ []) ≡ [] → b ≡ true
passed true k e = refl
passed false k e = absurd (let no : k ∷ [] ≡ [] = e in cc)

-- an argument that is not missing is given
is_there : (a : Bool) → not a ≡ false → a ≡ true
is_there true e = refl
is_there false e = absurd (true≢false e)

-- neither of two tests holds
neither_holds : (a b : Bool) → (a || b) ≡ false → (a ≡ false) × (b ≡ false)
neither_holds true b e = absurd (true≢false e)
neither_holds false b e = (refl, e)

-- a required argument is missing
abbrev lacks : List Row → Rule → Bool
lacks found a = a.required && not (is_given a.id found)

-- fields of the rule of an argument that is given in some way, and of one of some kind
abbrev long_at : Place → Text → Option Text
long_at Positional name = None
long_at Optional name = Some name
long_at Needed name = Some name

abbrev is_required : Place → Bool
is_required Positional = true
is_required Optional = false
is_required Needed = true

abbrev parser_at : Kind → Option ValueParser
parser_at Word = None
parser_at (Number least most) = Some (Signed (pos least) (pos most))
parser_at Flag = None

abbrev action_at : Kind → Option ArgAction
action_at Word = None
action_at (Number least most) = None
action_at Flag = Some SetTrue

abbrev names_at : {A : Type 0} → Option A → ℕ
names_at None = 0
names_at (Some name) = 1

module _ {A : Type 0} (text : A → Text) where
  -- The rule of an argument, field by field. For each row of a table it computes to the row's rule.
  abbrev pub plain_rule : ArgumentRow A → Rule
  plain_rule a = record (new_rule (text a.0)) {
    long = long_at a.1 (text a.0);
    action = action_at a.2;
    value_names = names_at a.3;
    parser = parser_at a.2;
    required = is_required a.1;
  }

  abbrev pub plain_rules : List (ArgumentRow A) → List Rule
  plain_rules = map plain_rule

  -- the rule as clap builds it
  abbrev built_rule : ℕ → ArgumentRow A → Rule
  built_rule k a = with_index k (filled (plain_rule a))

  -- what was matched for an argument is a value of its kind
  value_there : (found : List Row) (name : A) (place : Place) (kind : Kind) (value : Option A) (help : A) (k : ℕ)
      → IsMatched (built_rule k (name, place, kind, value, help)) found → HasValue found (text name) kind
  value_there found name place Word value help k there = (there.text, there.first)
  value_there found name place (Number least most) value help k there =
      (there.text, accepts-Accepts false (Signed (pos least) (pos most)) there.text (passed _ _ there.passes), there.one)
  value_there found name place Flag value help k there = tt

  module _ (c : List Rule) (found : List Row) (fit : AllFit c found) where
    -- a known argument that isn't missing has what its row requires
    argument_there : (k : ℕ) (a : ArgumentRow A) → IsKnown c (built_rule k a) → lacks found (built_rule k a) ≡ false → HasArgument text found a
    argument_there k (name, Positional, kind, value, help) is none =
        let a : ArgumentRow A = (name, Positional, kind, value, help) in
        value_there found name Positional kind value help k (given_matched c (built_rule k a) is.own found fit (is_there _ none))
    argument_there k (name, Optional, kind, value, help) is none =
        let a : ArgumentRow A = (name, Optional, kind, value, help) in
        elim (none_or_matched c (built_rule k a) is.own found fit) [
          | inl nothing ↦ inl nothing
          | inr there ↦ inr (value_there found name Optional kind value help k there)
        ]
    argument_there k (name, Needed, kind, value, help) is none =
        let a : ArgumentRow A = (name, Needed, kind, value, help) in
        value_there found name Needed kind value help k (given_matched c (built_rule k a) is.own found fit (is_there _ none))

    -- these rules, numbered from some place on, are known, and none of them is missing
    abbrev AreThere : List Rule → Type 0
    AreThere rules = (k : ℕ) × AreKnown c (filled_from k rules) × (list_any (lacks found) (filled_from k rules) ≡ false)

    -- so a list of arguments has what its rows require, and others after it are there, too
    arguments_there : (more : List Rule) (list : List (ArgumentRow A)) → AreThere (plain_rules list ++ more)
        → HasArguments text found list × AreThere more
    arguments_there more [] there = (tt, there)
    arguments_there more (a ∷ list) (k, all, none) =
        let parts = neither_holds (lacks found (built_rule k a)) _ none in
        let rest = arguments_there more list (index_after k (plain_rule a), all.1, parts.1) in
        ((argument_there k a all.0 parts.0, rest.0), rest.1)

-- ---- subcommands

module _ {A B C : Type 0} (text : A → Text) (rows : B → List (ArgumentRow A)) (lists : C → List B) where
  -- the rules of lists of arguments, and others after them
  abbrev rules_before : List Rule → List B → List Rule
  rules_before more [] = more
  rules_before more (list ∷ after) = plain_rules text (rows list) ++ rules_before more after

  lists_there : (c : List Rule) (found : List Row) (fit : AllFit c found) (more : List Rule) (all : List B)
      → AreThere text c found fit (rules_before more all) → HasLists text rows lists found all
  lists_there c found fit more [] there = tt
  lists_there c found fit more (list ∷ after) there =
      let first = arguments_there text c found fit (rules_before more after) (rows list) there in
      (first.0, lists_there c found fit more after first.1)

  -- a subcommand of the table as clap builds it
  abbrev pub built_shape : SubcommandRow A C → Shape
  built_shape s = record (built_leaf (inherited (new_shape []) (new_shape (text s.0)))) {
    rules = filled_from 1 (rules_before (help_rule ∷ []) (lists s.2));
  }

  -- its arguments differ, which can be computed
  abbrev pub is_known : SubcommandRow A C → Bool
  is_known s = are_known [] (built_shape s).rules

  -- words of it without a fault have what its row requires
  values_there : (s : SubcommandRow A C) (rest : List Text) → is_known s ≡ true → level_fault (built_shape s) [] nothing_held rest false [] ≡ []
      → HasLists text rows lists (rows_after (built_shape s).rules [] rest) (lists s.2)
  values_there s rest test none =
      let c : List Rule = (built_shape s).rules in
      let found : List Row = rows_after c [] rest in
      let all : AreKnown c c = known c test in
      let fit : AllFit c found = rows_fit (built_shape s) rest all none in
      lists_there c found fit (help_rule ∷ []) (lists s.2) (1, all, none_lacks (built_shape s) rest refl none)

  -- clap's own subcommand, as clap builds it
  abbrev pub built_help : Shape
  built_help = built_leaf help_shape

  same : {X : Type 0} (u v : X) → Some u ≡ Some v → u ≡ v
  same u v f = cc

  both : (a b : Bool) → (a && b) ≡ true → (a ≡ true) × (b ≡ true)
  both true b e = (refl, e)
  both false b e = absurd (true≢false (sym e))

  -- the subcommand that is found by its name is one of the table, and words of it have its values
  found_call : (calls : List (SubcommandRow A C)) (name : Text) (shape : Shape) (rest : List Text) → list_all is_known calls ≡ true
      → find (λ s. answers_to name (label_of s)) (map built_shape calls ++ built_help ∷ []) ≡ Some shape
      → (bytes_eq name (codes "help") && true) ≡ false → level_fault shape [] nothing_held rest false [] ≡ []
      → (shape.name ≡ name) × HasSubcommand text rows lists (rows_after shape.rules [] rest) (find (λ s. bytes_eq (text s.0) name) calls)
  found_call [] name shape rest test found no_help none = by (bytes_eq (codes "help") name) refl found
    where
      by : (b : Bool) → bytes_eq (codes "help") name ≡ b → cond (b || false) (Some built_help) None ≡ Some shape → (shape.name ≡ name) × ⊥
      by true is found =
          let named : codes "help" ≡ name = (bytes_eq-Decides (codes "help") name).0 is in
          absurd (true≢false (subst (λ (t : Text). (bytes_eq t (codes "help") && true) ≡ false) (sym named) no_help))
      by false is found = absurd (let no : None ≡ Some shape = found in cc)
  found_call (s ∷ calls) name shape rest test found no_help none =
      let tests = both (is_known s) (list_all is_known calls) test in
      by (bytes_eq (text s.0) name) refl tests.0 found (λ after. found_call calls name shape rest tests.1 after no_help none)
    where
      by : (b : Bool) → bytes_eq (text s.0) name ≡ b → is_known s ≡ true
          → cond (b || false) (Some (built_shape s)) (find (λ s. answers_to name (label_of s)) (map built_shape calls ++ built_help ∷ [])) ≡ Some shape
          → (find (λ s. answers_to name (label_of s)) (map built_shape calls ++ built_help ∷ []) ≡ Some shape
          → (shape.name ≡ name) × HasSubcommand text rows lists (rows_after shape.rules [] rest) (find (λ s. bytes_eq (text s.0) name) calls))
          → (shape.name ≡ name)
          × HasSubcommand text rows lists (rows_after shape.rules [] rest) (cond b (Some s) (find (λ s. bytes_eq (text s.0) name) calls))
      by true is test found after =
          let own : built_shape s ≡ shape = same (built_shape s) shape found in
          let named : text s.0 ≡ name = (bytes_eq-Decides (text s.0) name).0 is in
          subst (λ (x : Shape). (x.name ≡ name) × HasSubcommand text rows lists (rows_after x.rules [] rest) (Some s)) own
          (named, values_there s rest test (subst (λ (x : Shape). level_fault x [] nothing_held rest false [] ≡ []) (sym own) none))
      by false is test found after = after found

  -- so words without a fault have what the row of a subcommand requires
  pub call_there : (calls : List (SubcommandRow A C)) (name : Text) (shape : Shape) (rest : List Text) → list_all is_known calls ≡ true
      → find (λ s. answers_to name (label_of s)) (map built_shape calls ++ built_help ∷ []) ≡ Some shape
      → (bytes_eq name (codes "help") && true) ≡ false → level_fault shape [] nothing_held rest false [] ≡ []
      → HasCall text rows lists calls (Some (rows_at shape rest))
  call_there calls name shape rest test found no_help none =
      let there = found_call calls name shape rest test found no_help none in
      subst (λ (t : Text). HasCall text rows lists calls (Some (t, rows_after shape.rules [] rest))) (sym there.0) there.1

  -- ---- names

  -- the name of one of these subcommands
  abbrev pub IsNamed : List (SubcommandRow A C) → Text → Type 0
  IsNamed [] name = ⊥
  IsNamed (s ∷ calls) name = (name ≡ text s.0) ⊎ IsNamed calls name

  abbrev pub HasName : List (SubcommandRow A C) → Option (Text × List Row) → Type 0
  HasName calls None = ⊥
  HasName calls (Some (name, found)) = IsNamed calls name

  named_one : (calls : List (SubcommandRow A C)) (name : Text) (found : List Row)
      → HasSubcommand text rows lists found (find (λ s. bytes_eq (text s.0) name) calls) → IsNamed calls name
  named_one [] name found has = has
  named_one (s ∷ calls) name found has = by (bytes_eq (text s.0) name) refl has (named_one calls name found)
    where
      by : (b : Bool) → bytes_eq (text s.0) name ≡ b
          → HasSubcommand text rows lists found (cond b (Some s) (find (λ s. bytes_eq (text s.0) name) calls))
          → (HasSubcommand text rows lists found (find (λ s. bytes_eq (text s.0) name) calls) → IsNamed calls name)
          → (name ≡ text s.0) ⊎ IsNamed calls name
      by true is has after = inl (sym ((bytes_eq-Decides (text s.0) name).0 is))
      by false is has after = inr (after has)

  -- matches of a call have the name of a subcommand of the table
  pub has_name : (calls : List (SubcommandRow A C)) (matched : Option (Text × List Row)) → HasCall text rows lists calls matched → HasName calls matched
  has_name calls None has = has
  has_name calls (Some (name, found)) has = named_one calls name found has

-- The table of calls, as clap is given it.
use Rattle.std.specs.Prelude.{fold, map, pos, List, Option, None, Some, true}
use Rattle.std.specs.Borrow.{Bor}
use Rattle.clap.specs.Words.{App, Rule, Shape, Text, new_app, new_rule, with_rule, with_subcommand}
use Rattle.clap.specs.declared.builder.action.ArgAction.TheVariants.{SetTrue}
use Rattle.clap.specs.declared.builder.value_parser.ValueParser.TheVariants.{Signed}
use Rattle.dpbr_cli.specs.declared.call_table.Kind.{Kind}
use Rattle.dpbr_cli.specs.declared.call_table.Kind.TheVariants.{Flag, Number, Word}
use Rattle.dpbr_cli.specs.declared.call_table.Place.{Place}
use Rattle.dpbr_cli.specs.declared.call_table.Place.TheVariants.{Needed, Optional, Positional}

-- ---- arguments

-- the rule of an argument that takes what this kind does
abbrev pub with_kind : Kind → Rule → Rule
with_kind Word rule = rule
with_kind (Number least most) rule = record rule { parser = Some (Signed (pos least) (pos most)) }
with_kind Flag rule = record rule { action = Some SetTrue }

-- the rule of an argument of this name that is given at this place
abbrev pub with_place : Place → Text → Rule → Rule
with_place Positional name rule = record rule { required = true }
with_place Optional name rule = record rule { long = Some name }
with_place Needed name rule = record rule { long = Some name; required = true }

-- the rule of an argument whose value may have a name of its own
abbrev pub with_value : {A : Type 0} → Option A → Rule → Rule
with_value None rule = rule
with_value (Some name) rule = record rule { value_names = 1 }

-- An argument in the table: its name, how it is given, what it takes, the name of its value, and
-- its help. The texts are of a type from which a function takes them.
abbrev pub ArgumentRow : Type 0 → Type 0
ArgumentRow A = A × Place × Kind × Option A × A

-- the rule of an argument
abbrev pub rule_of_argument : {A : Type 0} → (A → Text) → ArgumentRow A → Rule
rule_of_argument text a =
    with_value a.3 (with_place a.1 (text a.0) (with_kind a.2 (new_rule (text a.0))))

-- the rules of arguments
abbrev pub rules_of : {A : Type 0} → (A → Text) → List (ArgumentRow A) → List Rule
rules_of text = map (λ a. rule_of_argument text a)

-- ---- subcommands

-- the command with these arguments after its own
abbrev pub with_rules : App → List Rule → App
with_rules = fold with_rule

-- a subcommand with the arguments of these lists
abbrev pub command : Text → List (List Rule) → Shape
command name lists = (fold with_rules (new_app name) lists).top

-- A subcommand in the table: its name, what it does, and the lists of its arguments. These and each
-- list are of types from which functions take them, too.
abbrev pub SubcommandRow : Type 0 → Type 0 → Type 0
SubcommandRow A C = A × A × C

-- the rules of a list of arguments
abbrev pub rules_of_list : {A B : Type 0} → (A → Text) → (B → List (ArgumentRow A)) → B → List Rule
rules_of_list text rows list = rules_of text (rows list)

-- the shape of a subcommand
abbrev pub shape_of_row : {A B C : Type 0} → (A → Text) → (B → List (ArgumentRow A)) → (C → List B)
    → SubcommandRow A C → Shape
shape_of_row text rows lists s =
    command (text s.0) (map (λ list. rules_of_list text rows list) (lists s.2))

-- the shapes of subcommands
abbrev pub shapes_of : {A B C : Type 0} → (A → Text) → (B → List (ArgumentRow A)) → (C → List B)
    → List (SubcommandRow A C) → List Shape
shapes_of text rows lists = map (λ s. shape_of_row text rows lists s)

-- the program with these subcommands, of which one is required
abbrev pub program : Text → List Shape → App
program name shapes =
    let new = new_app name in
    fold with_subcommand (record new { top = record new.top { subcommand_required = true } }) shapes

-- ---- what functions are given

-- the arguments that a reference points to
abbrev pub rows_now : Bor (List (ArgumentRow (Bor Text))) → List (ArgumentRow (Bor Text))
rows_now rows = rows.now

-- the lists of arguments that a reference points to
abbrev pub lists_now : Bor (List (Bor (List (ArgumentRow (Bor Text)))))
    → List (Bor (List (ArgumentRow (Bor Text))))
lists_now lists = lists.now

-- Parsing of trees of a text's tokens.
use Rattle.std.specs.Prelude.{◌≡◌, ℕ, List, Option, Some}
use Rattle.std.specs.Global.{Global}
use Rattle.json.specs.Json as json
use Rattle.json.specs.Value.{value_view}
use Rattle.json.specs.declared.value.Value.{Value}
use Rattle.pkgpath.specs.PkgPath.{path_of}
use Rattle.faults.specs.Bytes.{Text}
use Rattle.serde_json.specs.Data.{Data}
use Rattle.serde_json.specs.Find.{as_str}
use Rattle.serde_json.specs.Read.{of_json}
use Rattle.std.specs.Borrow.{Bor}
use Rattle.traces.specs.Fields.{◌>>=◌, answer_in}

-- the tree is a value that is parsed as this
abbrev pub Reads : {X : Type 0} → (Data → Option X) → json.Json → X → Type 0
Reads read j x = (d : Data) × (of_json j ≡ Some d) × (read d ≡ Some x)

-- the canonical form of the path that the value encodes
abbrev pub path_in : Data → Option Text
path_in d = as_str d >>= (λ text. answer_in (path_of text))

-- ---- objects of a given number of members, each a key and a value

-- a key and its value
abbrev pub Entry : Type 0
Entry = Bor (List ℕ) × Value Global

-- a member, followed by the others
abbrev pub with_entry : Entry → json.Members → json.Members
with_entry a ms = json.member a.0.now (value_view a.1) ms

-- an object of these two members
abbrev pub two : Entry → Entry → json.Json
two a b = json.object (with_entry a (with_entry b json.no_members))

-- an object of these three members
abbrev pub three : Entry → Entry → Entry → json.Json
three a b c = json.object (with_entry a (with_entry b (with_entry c json.no_members)))

-- an object of these four members
abbrev pub four : Entry → Entry → Entry → Entry → json.Json
four a b c d =
    json.object (with_entry a (with_entry b (with_entry c (with_entry d json.no_members))))

-- an object of these five members
abbrev pub five : Entry → Entry → Entry → Entry → Entry → json.Json
five a b c d e =
    json.object
    (with_entry a (with_entry b (with_entry c (with_entry d (with_entry e json.no_members)))))

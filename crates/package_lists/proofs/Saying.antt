-- The contents of lines, one after the other.
use Rattle.std.proofs.Common.{◌≡◌, ◌∙◌, ◌++◌, List, [], ◌∷◌, Option, map, ap, refl, subst, sym, append_assoc}
use Rattle.std.proofs.lemmas.Grind.{flat_map-append}
use Rattle.std.proofs.lemmas.List.{append-nil, map-append}
use Rattle.std.specs.List.{AllZip, flat_map}
use Rattle.auditing.specs.declared.entry.Entry.{Entry}
use Rattle.claims.specs.declared.deps.Dep.{Dep}
use Rattle.faults.specs.Bytes.{Text}
use Rattle.package_lists.specs.List.{AreList, Says, said_of}
use Rattle.package_lists.specs.inside.Listed.{CannotFollow, IsBuilt, said_in}
use Rattle.package_lists.specs.declared.list.Packages.{Packages}
use Rattle.package_lists.specs.declared.list_line.ListLine.{ListLine}
use Rattle.package_lists.specs.declared.list_line.ListLine.TheVariants.{Package, Built}

-- one more line, and its contents
pub said_more : (lines : List Text) (said : List ListLine) (line : Text) (s : ListLine) → AllZip Says lines said → Says line s
    → AllZip Says (lines ++ line ∷ []) (said ++ s ∷ [])
said_more [] [] line s all says = (says, tt)
said_more [] (t ∷ ts) line s all says = absurd all
said_more (l ∷ ls) [] line s all says = absurd all
said_more (l ∷ ls) (t ∷ ts) line s all says = (all.0, said_more ls ts line s all.1 says)

-- the contents of the last line, and those of the lines before it
record LastSaid (lines : List Text) (line : Text) (said : List ListLine) : Type 0 where
  front : List ListLine
  last : ListLine
  parts : said ≡ front ++ last ∷ []
  before : AllZip Says lines front
  says : Says line last

last_said : (lines : List Text) (line : Text) (said : List ListLine) → AllZip Says (lines ++ line ∷ []) said → LastSaid lines line said
last_said [] line [] all = absurd all
last_said [] line (s ∷ []) all = record { front = []; last = s; parts = refl; before = tt; says = all.0 }
last_said [] line (s ∷ t ∷ ts) all = absurd all.1
last_said (l ∷ ls) line [] all = absurd all
last_said (l ∷ ls) line (s ∷ ss) all =
    let rest = last_said ls line ss all.1 in
    record {
      front = s ∷ rest.front;
      last = rest.last;
      parts = ap (λ (ts : List ListLine). s ∷ ts) rest.parts;
      before = (all.0, rest.before);
      says = rest.says;
    }

no_lines : (lines : List Text) → AllZip Says lines [] → lines ≡ []
no_lines [] all = refl
no_lines (l ∷ ls) all = absurd all

nothing_said : (said : List ListLine) → AllZip Says [] said → said ≡ []
nothing_said [] all = refl
nothing_said (s ∷ ss) all = absurd all

-- the first line of a list is that of a package
built_is_not_first : (entries : List Entry) (s : ListLine) → flat_map said_of entries ≡ s ∷ [] → IsBuilt s → ⊥
built_is_not_first [] s e built = cc
built_is_not_first (entry ∷ entries) (Package d) e built = built
built_is_not_first (entry ∷ entries) (Built d) e built = cc

-- with a line that can't follow, the lines are not a list
pub no_list : (lines : List Text) (line : Text) (before : Option Packages) → AllZip Says lines (said_in before) → CannotFollow before line
    → ¬ AreList (lines ++ line ∷ [])
no_list lines line before all cannot (entries, are) =
    let it = last_said lines line (flat_map said_of entries) are in
    let why = cannot it.last it.says in
    let none : said_in before ≡ [] = ap said_in why.0 in
    let first = no_lines lines (subst (λ (said : List ListLine). AllZip Says lines said) none all) in
    let alone = nothing_said it.front (subst (λ (ls : List Text). AllZip Says ls it.front) first it.before) in
    built_is_not_first entries it.last (it.parts ∙ ap (λ (said : List ListLine). said ++ it.last ∷ []) alone) why.1

abbrev entry_of : Dep → List Dep → Entry
entry_of d built = record { path = d.path; name = d.name; digest = d.digest; built = built }

-- one more package
pub package_said : (earlier : List Entry) (d : Dep) → flat_map said_of (earlier ++ entry_of d [] ∷ []) ≡ flat_map said_of earlier ++ Package d ∷ []
package_said earlier d = flat_map-append said_of earlier (entry_of d [] ∷ [])

-- one more package that the last one was built on
pub built_said : (earlier : List Entry) (d : Dep) (built : List Dep) (dep : Dep)
    → flat_map said_of (earlier ++ entry_of d (built ++ dep ∷ []) ∷ []) ≡ flat_map said_of (earlier ++ entry_of d built ∷ []) ++ Built dep ∷ []
built_said earlier d built dep =
    let front : List ListLine = flat_map said_of earlier in
    let before : List ListLine = Package d ∷ map Built built in
    flat_map-append said_of earlier (entry_of d (built ++ dep ∷ []) ∷ [])
    ∙ ap (λ (said : List ListLine). front ++ said) (append-nil (Package d ∷ map Built (built ++ dep ∷ [])))
    ∙ ap (λ (said : List ListLine). front ++ Package d ∷ said) (map-append Built built (dep ∷ []))
    ∙ sym (append_assoc front before (Built dep ∷ []))
    ∙ ap (λ (said : List ListLine). (front ++ said) ++ Built dep ∷ []) (sym (append-nil before))
    ∙ ap (λ (said : List ListLine). said ++ Built dep ∷ []) (sym (flat_map-append said_of earlier (entry_of d built ∷ [])))

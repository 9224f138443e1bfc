-- The text of a value is parsed as that value, if its numbers have 64 bits and its texts are UTF-8.
use Rattle.std.proofs.Common.{◌≡◌, ℕ, ◌^◌, ◌<◌, ◌≤◌, Bool, true, false, List, [], ◌∷◌, map, All, IsUtf8, Some, option_map, refl, sym, ap, ◌∙◌, arith}
use Rattle.std.specs.Prelude.{decimal}
use Rattle.std.proofs.lemmas.Fmt.{IsAscii-decimal}
use Rattle.std.proofs.lemmas.List.Elements.{All-cons, All-head, All-nil, All-tail}
use Rattle.std.proofs.lemmas.Str.{IsUtf8-append, IsUtf8-from_ascii, IsUtf8-nil}
use Rattle.faults.specs.Bytes.{Text}
use Rattle.json.specs.Tree.{HasNumbers, ItemsHaveNumbers, MembersHaveNumbers}
use Rattle.json.specs.Tree as tree
use Rattle.json.proofs.Printed.Decimals.{IsNumber-decimal}
use Rattle.json.proofs.Printed.Utf8.{IsUtf8-are_ascii, IsUtf8-quoted}
use Rattle.serde_json.specs.Data.{Data, Items, Members, array, boolean, depth, item, items_depth, member, members_depth, no_items, no_members, null, number, object, put, string}
use Rattle.serde_json.specs.Read.{max_depth, of_items, of_json, of_members, read}
use Rattle.serde_json.specs.View.{items_of}
use Rattle.serde_json.specs.Written.{comma_if, compact_text, items_outline, items_text, members_outline, members_text, outline}
use Rattle.serde_json.proofs.Numbers.{number_of-decimal}
use Rattle.serde_json.proofs.Texts.{print-outline}
use Rattle.traces.specs.Written.{fields, list_data, members, natural}
use Rattle.traces.proofs.TreeTexts.{tree_read}

-- the value's text is UTF-8, and is parsed as the value
pub record IsSound (d : Data) : Type 0 where
  pub reads : of_json (outline d) ≡ Some d
  pub numbers : HasNumbers (outline d)
  pub utf8 : IsUtf8 (compact_text d)

-- a number of 64 bits
pub natural_sound : (n : ℕ) → n < 2 ^ 64 → IsSound (natural n)
natural_sound n small =
    record {
      reads = ap (option_map number) (number_of-decimal n small);
      numbers = IsNumber-decimal n small;
      utf8 = IsUtf8-from_ascii (decimal n) (IsAscii-decimal n small);
    }

-- a text
pub text_sound : (s : Text) → IsUtf8 s → IsSound (string s)
text_sound s utf8 = record { reads = refl; numbers = tt; utf8 = IsUtf8-quoted s utf8 }

-- ---- arrays

-- a comma, or none
comma_utf8 : (later : Bool) → IsUtf8 (comma_if later)
comma_utf8 true = IsUtf8-are_ascii (44 ∷ []) refl
comma_utf8 false = IsUtf8-nil

-- the items are parsed again
items_read : (ds : List Data) → All IsSound ds → of_items (items_outline (items_of ds)) ≡ Some (items_of ds)
items_read [] are = refl
items_read (d ∷ ds) are = rw ((All-head IsSound d ds are).reads, items_read ds (All-tail IsSound d ds are)) refl

-- and have numbers
items_numbers : (ds : List Data) → All IsSound ds → ItemsHaveNumbers (items_outline (items_of ds))
items_numbers [] are = tt
items_numbers (d ∷ ds) are = ((All-head IsSound d ds are).numbers, items_numbers ds (All-tail IsSound d ds are))

-- and are UTF-8
items_utf8 : (later : Bool) (ds : List Data) → All IsSound ds → IsUtf8 (items_text later (items_of ds))
items_utf8 later [] are = IsUtf8-are_ascii (93 ∷ []) refl
items_utf8 later (d ∷ ds) are =
    IsUtf8-append (comma_if later) _ (comma_utf8 later) (IsUtf8-append (compact_text d) _ (All-head IsSound d ds are).utf8 (items_utf8 true ds (All-tail IsSound d ds are)))

-- an array of sound values
pub list_sound : (ds : List Data) → All IsSound ds → IsSound (list_data ds)
list_sound ds are =
    record {
      reads = ap (option_map array) (items_read ds are);
      numbers = items_numbers ds are;
      utf8 = IsUtf8-append (91 ∷ []) _ (IsUtf8-are_ascii (91 ∷ []) refl) (items_utf8 false ds are);
    }

-- the values that are written
pub each_sound : {X : Type 0} (write : X → Data) (P : X → Type 0) → ((x : X) → P x → IsSound (write x)) → (xs : List X) → All P xs → All IsSound (map write xs)
each_sound write P each [] are = All-nil IsSound
each_sound write P each (x ∷ xs) are = All-cons IsSound (write x) (map write xs) (each x (All-head P x xs are)) (each_sound write P each xs (All-tail P x xs are))

-- ---- objects

-- keys that are UTF-8, and sound values
abbrev pub AreSound : List (Text × Data) → Type 0
AreSound [] = Unit
AreSound (p ∷ ps) = (IsUtf8 p.0 × IsSound p.1) × AreSound ps

-- the members, inserted one after the other
abbrev pub put_all : List (Text × Data) → Members → Members
put_all [] found = found
put_all (p ∷ ps) found = put_all ps (put p.0 p.1 found)

-- the members are parsed again
members_read : (ps : List (Text × Data)) (found : Members) → AreSound ps → of_members (members_outline (members ps)) found ≡ Some (put_all ps found)
members_read [] found are = refl
members_read (p ∷ ps) found are = rw are.0.1.reads (members_read ps (put p.0 p.1 found) are.1)

-- and have numbers
members_numbers : (ps : List (Text × Data)) → AreSound ps → MembersHaveNumbers (members_outline (members ps))
members_numbers [] are = tt
members_numbers (p ∷ ps) are = (are.0.1.numbers, members_numbers ps are.1)

-- and are UTF-8
members_utf8 : (later : Bool) (ps : List (Text × Data)) → AreSound ps → IsUtf8 (members_text later (members ps))
members_utf8 later [] are = IsUtf8-are_ascii (125 ∷ []) refl
members_utf8 later (p ∷ ps) are =
    IsUtf8-append (comma_if later) _ (comma_utf8 later)
    (IsUtf8-append _ _ (IsUtf8-quoted p.0 are.0.0) (IsUtf8-append (58 ∷ []) _ (IsUtf8-are_ascii (58 ∷ []) refl) (IsUtf8-append (compact_text p.1) _ are.0.1.utf8 (members_utf8 true ps are.1))))

-- an object whose keys are in order
pub object_sound : (ps : List (Text × Data)) → put_all ps no_members ≡ members ps → AreSound ps → IsSound (fields ps)
object_sound ps in_order are =
    record {
      reads = ap (option_map object) (members_read ps no_members are ∙ ap Some in_order);
      numbers = members_numbers ps are;
      utf8 = IsUtf8-append (123 ∷ []) _ (IsUtf8-are_ascii (123 ∷ []) refl) (members_utf8 false ps are);
    }

-- ---- the text as a whole

-- the text is nested like the value
mutual
  outline_depth : (d : Data) → tree.depth (outline d) ≡ depth d
  outline_depth null = refl
  outline_depth (boolean b) = refl
  outline_depth (number n) = refl
  outline_depth (string s) = refl
  outline_depth (array ds) = rw (items_outline_depth ds) refl
  outline_depth (object ms) = rw (members_outline_depth ms) refl

  items_outline_depth : (ds : Items) → tree.items_depth (items_outline ds) ≡ items_depth ds
  items_outline_depth no_items = refl
  items_outline_depth (item d ds) = rw (outline_depth d, items_outline_depth ds) refl

  members_outline_depth : (ms : Members) → tree.members_depth (members_outline ms) ≡ members_depth ms
  members_outline_depth no_members = refl
  members_outline_depth (member k d ms) = rw (outline_depth d, members_outline_depth ms) refl

-- the text is parsed as the value
pub text_read : (d : Data) → IsSound d → depth d ≤ max_depth → read (compact_text d) ≡ Some d
text_read d sound nests = tree_read (outline d) (compact_text d) sound.numbers (omega (arith, nests, outline_depth d)) (sym (print-outline d)) ∙ sound.reads

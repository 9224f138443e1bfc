-- Values by their first token, and an object that is all of the tokens.
use Rattle.std.proofs.Common.{◌≡◌, ℕ, List, [], ◌∷◌, length, Bool, false, true≢false, Option, Some, None, option_and_then, option_map, refl, ap, ◌∙◌, arith, rules}
use Rattle.std.specs.Prelude.{IsSome}
use Rattle.json.specs.Token.{Token}
use Rattle.json.specs.Token as token
use Rattle.json.specs.Json as json
use Rattle.json.specs.Json.{if_last, items, members, parse_map, value, value_with, Parse}
use Rattle.json.proofs.Grammar.{value_is, value-begin_array, value-begin_object}
use Rattle.serde_json.specs.Data.{Data, Items, Num, Members, array, boolean, null, number, object, string}
use Rattle.serde_json.specs.Find.{as_object}
use Rattle.serde_json.specs.Read.{converted, max_depth, number_of, of_json, of_items}
use Rattle.traces.specs.Trace.{equals_in, outer_in}
use Rattle.traces.specs.inside.Kept.{PassesMembers, PassesNoArray, items_read, members_read, opens_object, outer_of, value_read, whole_read}
use Rattle.traces.proofs.Turns.{converted-array, converted-object, converted_some, refused}

-- ---- the first token

pub array_first : (ts : List Token) → value_read 126 (token.begin_array ∷ ts) ≡ parse_map array (items_read 125 ts)
array_first ts = ap (converted of_json) (value-begin_array 126 ts (omega arith)) ∙ converted-array (items (value 125) (length ts) ts)

pub object_first : (ts : List Token) → value_read 126 (token.begin_object ∷ ts) ≡ parse_map object (members_read 125 ts)
object_first ts = ap (converted of_json) (value-begin_object 126 ts (omega arith)) ∙ converted-object (members (value 125) (length ts) ts)

pub number_first : (s : List ℕ) (ts : List Token) → value_read 126 (token.number s ∷ ts) ≡ option_map (λ d. (d, ts)) (option_map number (number_of s))
number_first s ts = ap (converted of_json) (value_is 126 (token.number s ∷ ts))

pub passes_object : (ts r : List Token) → PassesMembers 125 ts r → PassesNoArray (token.begin_object ∷ ts) r
passes_object ts r passed = record { datum = object passed.all; reads = object_first ts ∙ ap (parse_map object) passed.reads; shorter = omega (arith, passed.shorter); no_array = refl }

pub passes_number : (s : List ℕ) (ts : List Token) (o : Option Num) → number_of s ≡ o → IsSome o → PassesNoArray (token.number s ∷ ts) ts
passes_number s ts None is some = absurd (search (rules, some))
passes_number s ts (Some n) is some = record { datum = number n; reads = number_first s ts ∙ ap (λ o. option_map (λ d. (d, ts)) (option_map number o)) is; shorter = omega arith; no_array = refl }

pub passes_string : (s : List ℕ) (ts : List Token) → PassesNoArray (token.string s ∷ ts) ts
passes_string s ts = record { datum = string s; reads = ap (converted of_json) (value_is 126 (token.string s ∷ ts)); shorter = omega arith; no_array = refl }

pub passes_boolean : (b : Bool) (ts : List Token) → PassesNoArray (token.boolean b ∷ ts) ts
passes_boolean b ts = record { datum = boolean b; reads = ap (converted of_json) (value_is 126 (token.boolean b ∷ ts)); shorter = omega arith; no_array = refl }

pub passes_null : (ts : List Token) → PassesNoArray (token.null ∷ ts) ts
passes_null ts = record { datum = null; reads = ap (converted of_json) (value_is 126 (token.null ∷ ts)); shorter = omega arith; no_array = refl }

-- no value begins with these tokens
pub none_first : (t : Token) (ts : List Token) → ((a : Parse json.Items) (o : Parse json.Members) → value_with a o (t ∷ ts) ≡ None) → value_read 126 (t ∷ ts) ≡ None
none_first t ts none = ap (converted of_json) (value_is 126 (t ∷ ts) ∙ none _ _)

-- ---- all of the tokens

abbrev whole : Option (json.Json × List Token) → Option Data
whole o = option_and_then of_json (option_and_then (λ p. if_last p.0 p.1) o)

last_read : (o : Option (json.Json × List Token)) (d : Data) → converted of_json o ≡ Some (d, []) → whole o ≡ Some d
last_read o d e = let j = converted_some of_json o d [] e in ap whole j.1 ∙ j.2

more_read : (o : Option (json.Json × List Token)) (d : Data) (t : Token) (r : List Token) → converted of_json o ≡ Some (d, t ∷ r) → whole o ≡ None
more_read o d t r e = ap whole (converted_some of_json o d (t ∷ r) e).1

none_read : (o : Option (json.Json × List Token)) → converted of_json o ≡ None → whole o ≡ None
none_read None e = refl
none_read (Some (j, [])) e = refused [] (of_json j) e
none_read (Some (j, t ∷ r)) e = refl

begins : (ts : List Token) → converted of_json (value max_depth (token.begin_object ∷ ts)) ≡ parse_map object (members_read 126 ts)
begins ts = ap (converted of_json) (value-begin_object 127 ts (omega arith)) ∙ converted-object (members (value 126) (length ts) ts)

-- all of the tokens are an object
pub object_last : (ts r : List Token) (ms : Members) → ts ≡ token.begin_object ∷ r → members_read 126 r ≡ Some (ms, []) → whole_read ts ≡ Some (object ms)
object_last ts r ms is reads = ap whole_read is ∙ last_read (value max_depth (token.begin_object ∷ r)) (object ms) (begins r ∙ ap (parse_map object) reads)

-- something follows the object
pub object_and_more : (ts r s : List Token) (ms : Members) (t : Token) → ts ≡ token.begin_object ∷ r → members_read 126 r ≡ Some (ms, t ∷ s) → whole_read ts ≡ None
object_and_more ts r s ms t is reads = ap whole_read is ∙ more_read (value max_depth (token.begin_object ∷ r)) (object ms) t s (begins r ∙ ap (parse_map object) reads)

-- the object can't be parsed
pub object_refused : (ts r : List Token) → ts ≡ token.begin_object ∷ r → members_read 126 r ≡ None → whole_read ts ≡ None
object_refused ts r is reads = ap whole_read is ∙ none_read (value max_depth (token.begin_object ∷ r)) (begins r ∙ ap (parse_map object) reads)

-- ---- tokens that don't begin an object

array_alone : (o : Option Items) → option_and_then as_object (option_map array o) ≡ None
array_alone None = refl
array_alone (Some ds) = refl

number_alone : (o : Option Num) → option_and_then as_object (option_map number o) ≡ None
number_alone None = refl
number_alone (Some n) = refl

last_array : (o : Option (json.Items × List Token)) → option_and_then as_object (whole (parse_map json.array o)) ≡ None
last_array None = refl
last_array (Some (js, [])) = array_alone (of_items js)
last_array (Some (js, t ∷ r)) = refl

last_number : (s : List ℕ) (r : List Token) → option_and_then as_object (whole (Some (json.number s, r))) ≡ None
last_number s [] = number_alone (number_of s)
last_number s (t ∷ r) = refl

last_plain : (j : json.Json) (d : Data) (r : List Token) → of_json j ≡ Some d → as_object d ≡ None → option_and_then as_object (whole (Some (j, r))) ≡ None
last_plain j d [] is none = ap (option_and_then as_object) is ∙ none
last_plain j d (t ∷ r) is none = refl

opens_other : (a : Parse json.Items) (o : Parse json.Members) (ts : List Token) → opens_object ts ≡ false → option_and_then as_object (whole (value_with a o ts)) ≡ None
opens_other a o [] other = refl
opens_other a o (token.begin_object ∷ ts) other = absurd (true≢false other)
opens_other a o (token.end_object ∷ ts) other = refl
opens_other a o (token.begin_array ∷ ts) other = last_array (a ts)
opens_other a o (token.end_array ∷ ts) other = refl
opens_other a o (token.key s ∷ ts) other = refl
opens_other a o (token.string s ∷ ts) other = last_plain (json.string s) (string s) ts refl refl
opens_other a o (token.number s ∷ ts) other = last_number s ts
opens_other a o (token.boolean b ∷ ts) other = last_plain (json.boolean b) (boolean b) ts refl refl
opens_other a o (token.null ∷ ts) other = last_plain json.null null ts refl refl
opens_other a o (token.bad ∷ ts) other = refl

-- a value that is not an object has no outer part
no_outer : (d : Data) → as_object d ≡ None → outer_in d ≡ None
unfolding equals_in
no_outer null e = refl
no_outer (boolean b) e = refl
no_outer (number n) e = refl
no_outer (string s) e = refl
no_outer (array ds) e = refl
no_outer (object ms) e = absurd (cc)

outer_alone : (o : Option Data) → option_and_then as_object o ≡ None → outer_of o ≡ None
outer_alone None e = refl
outer_alone (Some d) e = no_outer d e

pub no_object : (ts : List Token) → opens_object ts ≡ false → outer_of (whole_read ts) ≡ None
no_object ts other = outer_alone (whole_read ts) (ap (λ o. option_and_then as_object (whole o)) (value_is max_depth ts) ∙ opens_other _ _ ts other)

-- What is kept of the members of a text's object. The items of its events are parsed separately.
use Rattle.std.specs.Prelude.{◌≡◌, ◌<◌, ℕ, List, [], ◌∷◌, Bool, true, false, Option, option_and_then, option_map, None, Some, if◌then◌else◌, codes, length, ⊤}
use Rattle.std.specs.Str.{bytes_eq}
use Rattle.json.specs.Json as json
use Rattle.json.specs.Token.{Token}
use Rattle.json.specs.Token as token
use Rattle.serde_json.specs.Data.{Data, null, array, object, Items, no_items, item, Members, no_members, member, put}
use Rattle.serde_json.specs.Find.{as_array, get_member}
use Rattle.serde_json.specs.Read.{converted, of_items as items_of_json, max_depth, of_json, of_members}
use Rattle.serde_json.specs.View.{view}
use Rattle.serde_json.specs.declared.value.Value.{Value}
use Rattle.traces.specs.Fields.{◌>>=◌}
use Rattle.traces.specs.Trace.{events_from, outer_in}
use Rattle.traces.specs.declared.listed.Listed.{Listed}
use Rattle.traces.specs.inside.Listing.{answer, answer_behind}

-- an empty array if there is an array, or else null
abbrev pub hollow_of : Option Items → Data
hollow_of None = null
hollow_of (Some items) = array no_items

-- what is kept of the events' value: an empty array for an array, and else null
abbrev pub hollow : Data → Data
hollow d = hollow_of (as_array d)

-- what is kept of the value at the key
abbrev pub kept_at : List ℕ → Data → Data
kept_at key d = if bytes_eq key (codes "events") then hollow d else d

-- the members, with what is kept of each value
abbrev pub kept : Members → Members
kept no_members = no_members
kept (member k d ms) = member k (kept_at k d) (kept ms)

-- the events' items, if their value is an array
abbrev pub items_of : Members → Option Items
items_of ms = get_member (codes "events") ms >>= as_array

-- these are the events of the items, if there are items
abbrev pub Lists : Option Items → Listed → Type 0
Lists None listed = ⊤
Lists (Some items) listed = events_from 0 items ≡ answer listed

-- the weights and the events' items of a value that was parsed
abbrev pub outer_of : Option Data → Option (List ℕ × Items)
outer_of read = read >>= outer_in

-- only the weights
abbrev pub weights_in : Option (List ℕ × Items) → Option (List ℕ)
weights_in outer = option_map (λ o. o.0) outer

-- ---- the values at the front of a text's tokens

-- a value whose arrays and objects nest at most this deep
abbrev pub value_read : ℕ → List Token → Option (Data × List Token)
value_read depth ts = converted of_json (json.value depth ts)

-- the rest of an array of such values
abbrev pub items_read : ℕ → List Token → Option (Items × List Token)
items_read depth ts = converted items_of_json (json.items (json.value depth) (length ts) ts)

-- the rest of an object of such values
abbrev pub members_read : ℕ → List Token → Option (Members × List Token)
members_read depth ts =
    converted (λ ms. of_members ms no_members) (json.members (json.value depth) (length ts) ts)

-- all of the tokens, as one value
abbrev pub whole_read : List Token → Option Data
whole_read ts =
    option_and_then of_json
    (option_and_then (λ p. json.if_last p.0 p.1) (json.value max_depth ts))

-- whether the first token begins an object
abbrev pub opens_object : List Token → Bool
opens_object [] = false
opens_object (token.begin_object ∷ ts) = true
opens_object (token.end_object ∷ ts) = false
opens_object (token.begin_array ∷ ts) = false
opens_object (token.end_array ∷ ts) = false
opens_object (token.key s ∷ ts) = false
opens_object (token.string s ∷ ts) = false
opens_object (token.number s ∷ ts) = false
opens_object (token.boolean b ∷ ts) = false
opens_object (token.null ∷ ts) = false
opens_object (token.bad ∷ ts) = false

-- A value was parsed. Adding it as one more item to the earlier state gives the later one.
pub record ListsMore (depth : ℕ) (old new : List Token) (before after : Listed) : Type 0 where
  pub datum : Data
  pub reads : value_read depth old ≡ Some (datum, new)
  pub shorter : length new < length old
  pub lists : (rest : Items) → answer_behind before (item datum rest) ≡ answer_behind after rest

-- Adding the value of the tree as one more item to the earlier state gives the later one.
abbrev pub ListsTree : json.Json → Listed → Listed → Type 0
ListsTree tree before after =
    (datum : Data) × (of_json tree ≡ Some datum)
    × ((rest : Items) → answer_behind before (item datum rest) ≡ answer_behind after rest)

-- the rest of an array was parsed, and these are its events
pub record ListsAll (depth : ℕ) (old new : List Token) (listed : Listed) : Type 0 where
  pub all : Items
  pub reads : items_read depth old ≡ Some (all, new)
  pub shorter : length new < length old
  pub lists : events_from 0 all ≡ answer listed

-- a value was skipped
pub record PassesValue (depth : ℕ) (old new : List Token) : Type 0 where
  pub datum : Data
  pub reads : value_read depth old ≡ Some (datum, new)
  pub shorter : length new < length old

-- the rest of an object was skipped
pub record PassesMembers (depth : ℕ) (old new : List Token) : Type 0 where
  pub all : Members
  pub reads : members_read depth old ≡ Some (all, new)
  pub shorter : length new < length old

-- a value that is not an array was skipped
pub record PassesNoArray (old new : List Token) : Type 0 where
  pub datum : Data
  pub reads : value_read 126 old ≡ Some (datum, new)
  pub shorter : length new < length old
  pub no_array : as_array datum ≡ None

-- This is kept of the events' value, and these are its events.
pub record KeepsEvents (old new : List Token) (value : Value) (listed : Listed) : Type 0 where
  pub datum : Data
  pub reads : value_read 126 old ≡ Some (datum, new)
  pub shorter : length new < length old
  pub kept_is : view value ≡ hollow datum
  pub lists : Lists (as_array datum) listed

-- This is kept of the value at the key, and these are the events, given those from before.
pub record Keeps (key : List ℕ) (old new : List Token) (value : Value)
    (before after : Listed) : Type 0 where
  pub datum : Data
  pub reads : value_read 126 old ≡ Some (datum, new)
  pub shorter : length new < length old
  pub kept_is : view value ≡ kept_at key datum
  pub lists : (ms : Members) → Lists (items_of ms) before
      → Lists (items_of (put key datum ms)) after

-- These members are kept of the rest of an object, and these are its events.
pub record KeepsAll (old new : List Token) (members : Members) (listed : Listed) : Type 0 where
  pub all : Members
  pub reads : members_read 126 old ≡ Some (all, new)
  pub shorter : length new < length old
  pub kept_is : members ≡ kept all
  pub lists : Lists (items_of all) listed

-- This value is kept of the object that a text encodes, and these are its events.
pub record KeepsWhole (read : Option Data) (value : Value) (listed : Listed) : Type 0 where
  pub all : Members
  pub reads : read ≡ Some (object all)
  pub kept_is : view value ≡ object (kept all)
  pub lists : Lists (items_of all) listed

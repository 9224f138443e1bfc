-- Events that are parsed item by item.
use Rattle.std.proofs.Common.{◌≡◌, ℕ, ◌-◌, ◌<◌, ◌≤◌, List, length, map, Option, None, Some, Result, Ok, refl, ap, ◌∙◌, append-nil}
use Rattle.protocol.specs.Events.{Event, event_view}
use Rattle.json.specs.Token.{Token}
use Rattle.json.specs.Json as json
use Rattle.json.specs.Json.{Parse, after_end_array, items, parse_map}
use Rattle.serde_json.specs.Data.{Data, Items, item, no_items}
use Rattle.serde_json.specs.Read.{converted, of_items, of_json}
use Rattle.traces.specs.Trace.{Place}
use Rattle.traces.specs.declared.listed.Listed.{Listed}
use Rattle.traces.specs.declared.listed.Listed.TheVariants.{Events, BadAt}
use Rattle.traces.specs.inside.Listing.{answer, answer_behind}
use Rattle.traces.proofs.Turns.{item_read, items_over}

-- no items are left
pub answer_over : (listed : Listed) → answer_behind listed no_items ≡ answer listed
answer_over (Events events) = ap Ok (append-nil (map event_view events.items))
answer_over (BadAt place) = refl

twice : {A B C : Type 0} (f : B → C) (g : A → B) (h : A → C) → ((a : A) → f (g a) ≡ h a) → (o : Option (A × List Token)) → parse_map f (parse_map g o) ≡ parse_map h o
twice f g h same None = refl
twice f g h same (Some p) = ap (λ c. Some (c, p.1)) (same p.0)

abbrev pick : {A : Type 0} → A → Option A → A
pick d None = d
pick d (Some a) = a

-- the value that was parsed, before a function is applied
pub read_under : {A B : Type 0} (f : A → B) (o : Option (A × List Token)) (b : B) (r : List Token) → parse_map f o ≡ Some (b, r) → (a : A) × (o ≡ Some (a, r)) × (f a ≡ b)
read_under f None b r e = absurd (cc)
read_under f (Some p) b r e = let same = ap (pick (f p.0, p.1)) e in (p.0, ap (λ q. Some (p.0, q.1)) same, ap (λ q. q.0) same)

pub none_under : {A B : Type 0} (f : A → B) (o : Option (A × List Token)) → parse_map f o ≡ None → o ≡ None
none_under f None e = refl
none_under f (Some p) e = absurd (cc)

module _ (p : Parse json.Json) (all : Option (Result (List Event) Place × List Token)) where
  -- one more item
  pub listing_more : (n : ℕ) (ts r : List Token) (d : Data) (before after : Listed) → 0 < n → after_end_array ts ≡ None → converted of_json (p ts) ≡ Some (d, r)
      → ((rest : Items) → answer_behind before (item d rest) ≡ answer_behind after rest)
      → all ≡ parse_map (answer_behind before) (converted of_items (items p n ts)) → all ≡ parse_map (answer_behind after) (converted of_items (items p (n - 1) r))
  listing_more n ts r d before after some going reads lists e =
      e ∙ ap (parse_map (answer_behind before)) (item_read p n ts r d some going reads) ∙ twice (answer_behind before) (item d) (answer_behind after) lists (converted of_items (items p (n - 1) r))

  -- the end of the array
  pub listing_over : (n : ℕ) (ts r : List Token) (listed : Listed) → length ts ≤ n → after_end_array ts ≡ Some r
      → all ≡ parse_map (answer_behind listed) (converted of_items (items p n ts)) → all ≡ Some (answer listed, r)
  listing_over n ts r listed enough closes e =
      e ∙ ap (parse_map (answer_behind listed)) (items_over p n ts r enough closes) ∙ ap (λ a. Some (a, r)) (answer_over listed)

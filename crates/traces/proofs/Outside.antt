-- The outer part of a trace, from what is kept of its members.
use Rattle.std.proofs.Common.{◌≡◌, ℕ, List, Option, None, Some, Bool, true, false, option_map, codes, refl, sym, ap, ◌∙◌, ◌==◌, is_some}
use Rattle.std.specs.Prelude.{if◌then◌else◌}
use Rattle.faults.specs.Answers.{map_ok}
use Rattle.serde_json.specs.Data.{Data, Items, Members, no_items, object}
use Rattle.serde_json.specs.Events.{members_len}
use Rattle.serde_json.specs.Find.{as_array, get_member}
use Rattle.traces.specs.Fields.{◌>>=◌, all_of, number_of}
use Rattle.traces.specs.Trace.{equals_in, ones_of, outer_in, table_of, trace_from, trace_with, weighted_in}
use Rattle.traces.specs.declared.listed.Listed.{Listed}
use Rattle.traces.specs.inside.Kept.{Lists, hollow, hollow_of, items_of, kept, weights_in}
use Rattle.traces.specs.inside.Listing.{answer}
use Rattle.traces.proofs.Keeping.{get_kept, kept_len}

-- the weights and the items, by the values at the keys and their count
abbrev equals_by : Option Items → Option Data → ℕ → Option (List ℕ × Items)
equals_by items members count = items >>= (λ ds. (members >>= number_of 9 >>= ones_of) >>= (λ ws. if count == 2 then Some (ws, ds) else None))

abbrev weighted_by : Option Items → Option Data → Option Data → ℕ → Option (List ℕ × Items)
weighted_by items members weights count =
    items >>= (λ ds. (members >>= number_of 9) >>= (λ n. ((weights >>= as_array >>= all_of (number_of 255)) >>= table_of n) >>= (λ ws. if count == 3 then Some (ws, ds) else None)))

abbrev outer_by : Option Items → Option Data → Option Data → ℕ → Option (List ℕ × Items)
outer_by items members weights count = if is_some weights then weighted_by items members weights count else equals_by items members count

-- ---- what is kept has everything but the items

hollow_items : (a : Option Items) → as_array (hollow_of a) ≡ option_map (λ _. no_items) a
hollow_items None = refl
hollow_items (Some ds) = refl

events_kept : (o : Option Data) → (option_map hollow o >>= as_array) ≡ option_map (λ _. no_items) (o >>= as_array)
events_kept None = refl
events_kept (Some d) = hollow_items (as_array d)

same : (o : Option Data) → option_map (λ d. d) o ≡ o
same None = refl
same (Some d) = refl

outer_is : (ms : Members) → outer_in (object ms) ≡ outer_by (items_of ms) (get_member (codes "members") ms) (get_member (codes "weights") ms) (members_len ms)
unfolding equals_in weighted_in
outer_is ms = refl

items_kept : (ms : Members) → items_of (kept ms) ≡ option_map (λ _. no_items) (items_of ms)
items_kept ms = ap (λ o. o >>= as_array) (get_kept (codes "events") ms) ∙ events_kept (get_member (codes "events") ms)

members_kept : (ms : Members) → get_member (codes "members") (kept ms) ≡ get_member (codes "members") ms
members_kept ms = get_kept (codes "members") ms ∙ same _

weights_kept : (ms : Members) → get_member (codes "weights") (kept ms) ≡ get_member (codes "weights") ms
weights_kept ms = get_kept (codes "weights") ms ∙ same _

outer_kept : (ms : Members) → outer_in (object (kept ms)) ≡ outer_by (option_map (λ _. no_items) (items_of ms)) (get_member (codes "members") ms) (get_member (codes "weights") ms) (members_len ms)
outer_kept ms = outer_is (kept ms) ∙ (λ i. outer_by (items_kept ms i) (members_kept ms i) (weights_kept ms i) (kept_len ms i))

-- ---- the items don't affect the weights

abbrev refilled : Items → Option (List ℕ × Items) → Option (List ℕ × Items)
refilled ds o = option_map (λ p. (p.0, ds)) o

refilled_last : (b : Bool) (ws : List ℕ) (ds : Items) → (if b then Some (ws, ds) else None) ≡ refilled ds (if b then Some (ws, no_items) else None)
refilled_last true ws ds = refl
refilled_last false ws ds = refl

refilled_then : {A : Type 0} (ds : Items) (o : Option A) (f g : A → Option (List ℕ × Items)) → ((a : A) → f a ≡ refilled ds (g a)) → (o >>= f) ≡ refilled ds (o >>= g)
refilled_then ds None f g each = refl
refilled_then ds (Some a) f g each = each a

outer_refilled : (ds : Items) (m w : Option Data) (c : ℕ) → outer_by (Some ds) m w c ≡ refilled ds (outer_by (Some no_items) m w c)
outer_refilled ds m None c = refilled_then ds (m >>= number_of 9 >>= ones_of) _ _ (λ ws. refilled_last (c == 2) ws ds)
outer_refilled ds m (Some w) c =
    refilled_then ds (m >>= number_of 9) _ _ (λ n. refilled_then ds ((as_array w >>= all_of (number_of 255)) >>= table_of n) _ _ (λ ws. refilled_last (c == 3) ws ds))

no_outer : (m w : Option Data) (c : ℕ) → outer_by None m w c ≡ None
no_outer m None c = refl
no_outer m (Some w) c = refl

none_by : (a : Option Items) (m w : Option Data) (c : ℕ) → outer_by (option_map (λ _. no_items) a) m w c ≡ None → outer_by a m w c ≡ None
none_by None m w c e = no_outer m w c
none_by (Some ds) m w c e = outer_refilled ds m w c ∙ ap (refilled ds) e

trace_by : (a : Option Items) (m w : Option Data) (c : ℕ) (listed : Listed) (o : Option (List ℕ × Items)) (ws : List ℕ) → Lists a listed → outer_by (option_map (λ _. no_items) a) m w c ≡ o → weights_in o ≡ Some ws
    → trace_from (outer_by a m w c) ≡ map_ok (trace_with ws) (answer listed)
trace_by a m w c listed None ws lists e is = absurd (cc)
trace_by None m w c listed (Some p) ws lists e is = let none = no_outer m w c in absurd (cc)
trace_by (Some ds) m w c listed (Some p) ws lists e is =
    ap trace_from (outer_refilled ds m w c ∙ ap (refilled ds) e) ∙ ap (λ o. trace_from (option_map (λ weights. (weights, ds)) o)) is ∙ ap (map_ok (trace_with ws)) lists

no_weights : (o : Option (List ℕ × Items)) → weights_in o ≡ None → o ≡ None
no_weights None e = refl
no_weights (Some p) e = absurd (cc)

-- there is no outer part
pub no_trace : (ms : Members) → weights_in (outer_in (object (kept ms))) ≡ None → outer_in (object ms) ≡ None
no_trace ms e = outer_is ms ∙ none_by (items_of ms) _ _ _ (sym (outer_kept ms) ∙ no_weights _ e)

-- the trace with the weights that are parsed from what is kept
pub trace_is : (ms : Members) (listed : Listed) (ws : List ℕ) → Lists (items_of ms) listed → weights_in (outer_in (object (kept ms))) ≡ Some ws → trace_from (outer_in (object ms)) ≡ map_ok (trace_with ws) (answer listed)
trace_is ms listed ws lists e = ap trace_from (outer_is ms) ∙ trace_by (items_of ms) _ _ _ listed _ ws lists (sym (outer_kept ms)) e

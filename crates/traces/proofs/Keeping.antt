-- Looking up what is kept of members, compared with the members themselves, except for the events'
-- items.
use Rattle.std.proofs.Common.{◌≡◌, ◌<◌, ℕ, suc, List, length, subst, Option, Some, option_map, true, false, codes, Ordering, Less, Equal, Greater, nat_cmp, is_eq, bytes_eq, true≢false, refl, sym, ap, ◌∙◌}
use Rattle.std.proofs.lemmas.Map.Text.{is_eq-slice_cmp}
use Rattle.std.proofs.lemmas.Slice.Eq.{bytes_eq-Decides}
use Rattle.std.specs.Cmp.Lexicographic.{slice_cmp}
use Rattle.std.specs.Ordering.{match_ordering}
use Rattle.serde_json.specs.Data.{Data, Items, Members, no_members, member, put}
use Rattle.serde_json.specs.Events.{members_len}
use Rattle.json.specs.Token.{Token}
use Rattle.serde_json.specs.View.{view}
use Rattle.serde_json.specs.declared.value.Value.{Value}
use Rattle.serde_json.proofs.Views.{get_member-put, get_member-put_other}
use Rattle.traces.specs.Fields.{◌>>=◌}
use Rattle.traces.specs.declared.listed.Listed.{Listed}
use Rattle.serde_json.specs.Find.{as_array, get_member}
use Rattle.traces.specs.inside.Kept.{Keeps, KeepsEvents, Lists, items_of, kept, kept_at, value_read}

-- keys that compare as equal are equal
same_key : (k l : List ℕ) → slice_cmp nat_cmp k l ≡ Equal → k ≡ l
same_key k l is = (bytes_eq-Decides k l).0 (sym (is_eq-slice_cmp k l) ∙ ap is_eq is)

kept_put_at : (o : Ordering) (k l : List ℕ) (d e : Data) (ms : Members) → slice_cmp nat_cmp k l ≡ o → kept (put k d ms) ≡ put k (kept_at k d) (kept ms)
    → kept (match_ordering o (member k d (member l e ms)) (member l d ms) (member l e (put k d ms)))
    ≡ match_ordering o (member k (kept_at k d) (member l (kept_at l e) (kept ms))) (member l (kept_at k d) (kept ms)) (member l (kept_at l e) (put k (kept_at k d) (kept ms)))
kept_put_at Less k l d e ms is later = refl
kept_put_at Equal k l d e ms is later = ap (λ q. member l (kept_at q d) (kept ms)) (sym (same_key k l is))
kept_put_at Greater k l d e ms is later = ap (member l (kept_at l e)) later

-- what is kept of members into which a value is put
pub kept_put : (k : List ℕ) (d : Data) (ms : Members) → kept (put k d ms) ≡ put k (kept_at k d) (kept ms)
kept_put k d no_members = refl
kept_put k d (member l e ms) = kept_put_at (slice_cmp nat_cmp k l) k l d e ms refl (kept_put k d ms)

pub kept_len : (ms : Members) → members_len (kept ms) ≡ members_len ms
kept_len no_members = refl
kept_len (member k d ms) = ap (λ n. suc n) (kept_len ms)

get_kept_at : (o : Ordering) (q l : List ℕ) (e : Data) (ms : Members) → slice_cmp nat_cmp q l ≡ o → get_member q (kept ms) ≡ option_map (kept_at q) (get_member q ms)
    → match_ordering o (get_member q (kept ms)) (Some (kept_at l e)) (get_member q (kept ms)) ≡ option_map (kept_at q) (match_ordering o (get_member q ms) (Some e) (get_member q ms))
get_kept_at Less q l e ms is later = later
get_kept_at Equal q l e ms is later = ap (λ k. Some (kept_at k e)) (sym (same_key q l is))
get_kept_at Greater q l e ms is later = later

-- what is kept of the value at a key
pub get_kept : (q : List ℕ) (ms : Members) → get_member q (kept ms) ≡ option_map (kept_at q) (get_member q ms)
get_kept q no_members = refl
get_kept q (member l e ms) = get_kept_at (slice_cmp nat_cmp q l) q l e ms refl (get_kept q ms)

-- ---- the events' key, and others

items_put : (k : List ℕ) (d : Data) (ms : Members) → codes "events" ≡ k → items_of (put k d ms) ≡ as_array d
items_put k d ms is = ap (λ key. get_member key (put k d ms) >>= as_array) is ∙ ap (λ o. o >>= as_array) (get_member-put k d ms)

items_put_other : (k : List ℕ) (d : Data) (ms : Members) → bytes_eq k (codes "events") ≡ false → items_of (put k d ms) ≡ items_of ms
items_put_other k d ms other =
    let apart = λ (is : codes "events" ≡ k). true≢false (sym ((bytes_eq-Decides k (codes "events")).1 (sym is)) ∙ other) in
    ap (λ o. o >>= as_array) (get_member-put_other (codes "events") k d ms apart)

-- what is kept at the events' key
pub keeps_events : (key : List ℕ) (old new : List Token) (value : Value) (before after : Listed) → bytes_eq key (codes "events") ≡ true → KeepsEvents old new value after → Keeps key old new value before after
keeps_events key old new value before after is keeps =
    let events = sym ((bytes_eq-Decides key (codes "events")).0 is) in
    let P = λ (o : Option Items). Lists o after in
    record {
      datum = keeps.datum;
      reads = keeps.reads;
      shorter = keeps.shorter;
      kept_is = rw is keeps.kept_is;
      lists = λ ms earlier. subst P (sym (items_put key keeps.datum ms events)) keeps.lists;
    }

-- what is kept at another key
pub keeps_other : (key : List ℕ) (old new : List Token) (value : Value) (listed : Listed) → bytes_eq key (codes "events") ≡ false → value_read 126 old ≡ Some (view value, new) → length new < length old → Keeps key old new value listed listed
keeps_other key old new value listed other reads shorter =
    let P = λ (o : Option Items). Lists o listed in
    record {
      datum = view value;
      reads = reads;
      shorter = shorter;
      kept_is = rw other refl;
      lists = λ ms earlier. subst P (sym (items_put_other key (view value) ms other)) earlier;
    }

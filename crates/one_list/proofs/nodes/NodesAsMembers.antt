-- The nodes of a world are members, and the effect of a note on them.
use Rattle.std.proofs.Common.{◌≡◌, ◌<◌, ℕ, zero, suc, Bool, true, false, cond, List, [], ◌∷◌, ◌++◌, length, map, filter, reverse, fold, Option, Some, None, option_map, slice_get, refl, sym, ap, subst, ◌∙◌, arith, append-nil}
use Rattle.std.specs.Option.{ForSome}
use Rattle.std.specs.List.{slice_index_or}
use Rattle.std.specs.Str.{bytes_eq}
use Rattle.std.proofs.lemmas.Bool.{false_from_ne_true}
use Rattle.std.proofs.lemmas.List.{reverse-append}
use Rattle.std.proofs.lemmas.List.Elements.{All-weaker, filter-append}
use Rattle.claims.specs.Member as theory
use Rattle.claims.specs.Member.{Facts, facts_of, no_facts}
use Rattle.claims.specs.Nodes as nodes
use Rattle.claims.specs.Step.{Outcome}
use Rattle.claims.specs.World.{add_note, put}
use Rattle.claims.proofs.Kept.{put_same}
use Rattle.claims.proofs.Nodes.{put_other}
use Rattle.ballots.specs.InTheAgreement.{note_of}
use Rattle.ballots.specs.declared.message.Note.{Note}
use Rattle.node.specs.State.{with_note}
use Rattle.protocol.specs.Answers.{Answer}
use Rattle.protocol.specs.Laws.{IsOutcome}
use Rattle.protocol.specs.Member.{IsMember}
use Rattle.protocol.specs.State.{Value, facts_at, facts_then, fresh}
use Rattle.protocol.proofs.Restored.{notes_restore}
use Rattle.engine.specs.Division.{number_named}
use Rattle.engine.proofs.Names.{name_tells}
use Rattle.engine.proofs.Places.{equal_bytes, same_bytes}
use Rattle.world.specs.World.{IsMade, World, WorldNode, member_at}
use Rattle.one_list.specs.Local.{AreLocal, IsOfUnit}
use Rattle.one_list.specs.Matches.{log_of, name_of}

-- ---- nodes are members

-- an element at an index is within the list
pub get_within : {X : Type 0} (xs : List X) (k : ℕ) (x : X) → slice_get xs k ≡ Some x
    → k < length xs
get_within [] k x e = absurd cc
get_within (y ∷ ys) zero x e = omega arith
get_within (y ∷ ys) (suc k) x e = let l = get_within ys k x e in omega (arith, l)

-- A node that satisfies the invariant is a valid member, up or down.
pub node_is_member : (w : World) → IsMade w.division w.weights → AreLocal w
    → (k : ℕ) (x : WorldNode) → slice_get w.nodes k ≡ Some x
    → IsMember (member_at w k x)
node_is_member w made local k x stands =
    let l = local.each k x stands in
    let within : k < length w.weights =
    subst (λ n. k < n) local.one_for_each (get_within w.nodes k x stands) in
    let on_units = All-weaker (IsOfUnit w) (λ (n : Note Value). (u : ℕ)
    × (number_named w.division n.path ≡ Some u)) (λ n o. (o.unit, o.of_unit)) x.notes l.notes in
    let r = (notes_restore w.division w.weights k x.notes made.divided made.weigh within
    on_units).member in
    record {
      division = r.division;
      weights = r.weights;
      one_of_them = r.one_of_them;
      each = r.each;
      pledged = r.pledged;
      claim = λ o e. (l.claim o e).is_open;
    }

-- ---- one more note

fold_more : {A B : Type 0} (f : B → A → B) (b : B) (xs : List A) (x : A)
    → fold f b (xs ++ x ∷ []) ≡ f (fold f b xs) x
fold_more f b [] x = refl
fold_more f b (y ∷ ys) x = fold_more f (f b y) ys x

-- the facts after one more note, if there is one
pub facts_more : (w : World) (k : ℕ) (x y : WorldNode) (note : Option (Note Value))
    → y.notes ≡ with_note x.notes note
    → (member_at w k y).facts ≡ facts_then w.division (member_at w k x).facts note
facts_more w k x y note e = ap all_of e ∙ by note
  where
    all_of : List (Note Value) → List (Facts Value)
    all_of notes = fold (λ facts n. facts_then w.division facts (Some n))
        (fresh w.division w.weights k).facts notes

    by : (note : Option (Note Value)) → all_of (with_note x.notes note) ≡ facts_then w.division
        (all_of x.notes) note
    by None = refl
    by (Some n) = fold_more (λ facts n. facts_then w.division facts (Some n))
        (fresh w.division w.weights k).facts x.notes n

-- after the answer, a node knows for the answer's unit what the theory's member knows, and for
-- other units what it knew before
pub facts_then_are : (w : World) (k : ℕ) (x y : WorldNode) (u : ℕ) (o : Outcome Value) (a : Answer)
    → IsOutcome (member_at w k x) u o a → y.notes ≡ with_note x.notes a.note → (q : ℕ)
    → facts_at (member_at w k y) q ≡ put (facts_at (member_at w k x)) u (facts_of o.member) q
facts_then_are w k x y u o a is e q =
    ap (λ facts. slice_index_or facts q no_facts) (facts_more w k x y a.note e)
    ∙ ap (λ (n : nodes.Node Value). n.facts q) is.node

pub facts_here : (w : World) (k : ℕ) (x y : WorldNode) (u : ℕ) (o : Outcome Value) (a : Answer)
    → IsOutcome (member_at w k x) u o a → y.notes ≡ with_note x.notes a.note
    → facts_at (member_at w k y) u ≡ facts_of o.member
facts_here w k x y u o a is e = facts_then_are w k x y u o a is e u
    ∙ put_same (facts_at (member_at w k x)) u (facts_of o.member)

pub facts_there : (w : World) (k : ℕ) (x y : WorldNode) (u : ℕ) (o : Outcome Value) (a : Answer)
    → IsOutcome (member_at w k x) u o a → y.notes ≡ with_note x.notes a.note → (q : ℕ) → (q ≡ u → ⊥)
    → facts_at (member_at w k y) q ≡ facts_at (member_at w k x) q
facts_there w k x y u o a is e q ne =
    facts_then_are w k x y u o a is e q
    ∙ put_other (facts_at (member_at w k x)) u q (facts_of o.member) ne

-- ---- and the log of each unit

module _ (w : World) (made : IsMade w.division w.weights) (q : ℕ) where
  -- Whether a note is about the unit.
  abbrev is_on : Note Value → Bool
  is_on n = bytes_eq n.path (name_of w q)

  -- what these note about the unit, latest note first
  abbrev noted_in : List (Note Value) → List (theory.Note Value)
  noted_in notes = map (λ n. note_of n.fact) (reverse (filter is_on notes))

  -- a note about the unit is put in front of the earlier ones; a note about another unit is left
  -- out
  on_it : (notes : List (Note Value)) (n : Note Value) → is_on n ≡ true
      → noted_in (notes ++ n ∷ []) ≡ note_of n.fact ∷ noted_in notes
  on_it notes n e =
      let parts : filter is_on (notes ++ n ∷ []) ≡ filter is_on notes ++ n ∷ [] =
      filter-append is_on notes (n ∷ []) ∙ ap (λ b. filter is_on notes ++ cond b (n ∷ []) []) e in
      ap (λ ns. map (λ (n : Note Value). note_of n.fact) (reverse ns)) parts
      ∙ ap (map (λ (n : Note Value). note_of n.fact)) (reverse-append (filter is_on notes) (n ∷ []))

  not_on_it : (notes : List (Note Value)) (n : Note Value) → is_on n ≡ false
      → noted_in (notes ++ n ∷ []) ≡ noted_in notes
  not_on_it notes n e =
      let parts : filter is_on (notes ++ n ∷ []) ≡ filter is_on notes =
      filter-append is_on notes (n ∷ []) ∙ ap (λ b. filter is_on notes ++ cond b (n ∷ []) []) e
      ∙ append-nil (filter is_on notes) in
      ap (λ ns. map (λ (n : Note Value). note_of n.fact) (reverse ns)) parts

  -- the log of the answer's unit
  pub log_then : (x y : WorldNode) (note : Option (Note Value)) (o : Option (theory.Note Value))
      → y.notes ≡ with_note x.notes note
      → option_map (λ n. note_of n.fact) note ≡ o → ForSome note (λ n. n.path ≡ name_of w q)
      → add_note o (log_of w q x) ≡ log_of w q y
  log_then x y None o e same on = ap (λ z. add_note z (log_of w q x)) (sym same)
      ∙ sym (ap noted_in e)
  log_then x y (Some n) o e same on =
      ap (λ z. add_note z (log_of w q x)) (sym same)
      ∙ sym (on_it x.notes n (equal_bytes n.path (name_of w q) (on n refl))) ∙ sym (ap noted_in e)

  -- the logs of the other units
  pub log_stays : (u : ℕ) (x y : WorldNode) (note : Option (Note Value))
      → y.notes ≡ with_note x.notes note
      → ForSome note (λ n. n.path ≡ name_of w u) → u < length w.division.units
      → q < length w.division.units → (q ≡ u → ⊥)
      → log_of w q x ≡ log_of w q y
  log_stays u x y None e on lu lq ne = sym (ap noted_in e)
  log_stays u x y (Some n) e on lu lq ne =
      sym (not_on_it x.notes n (false_from_ne_true (is_on n)
      (λ t. ne (name_tells w.division q u made.divided lq lu
      (sym (same_bytes n.path (name_of w q) t) ∙ on n refl)))))
      ∙ sym (ap noted_in e)

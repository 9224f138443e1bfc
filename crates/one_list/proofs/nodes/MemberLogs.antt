-- A node's notes about a unit are its member's log there.
use Rattle.std.proofs.Common.{◌≡◌, ℕ, zero, suc, Bool, true, List, [], ◌∷◌, ◌++◌, map, filter, reverse, refl, sym, ap, subst, ◌∙◌, arith, inl, inr, ⊎_elim}
use Rattle.std.specs.Prelude.{Contains}
use Rattle.std.specs.Str.{bytes_eq}
use Rattle.std.proofs.lemmas.Bool.{cond_both, cond-true}
use Rattle.std.proofs.lemmas.List.{reverse-append, reverse-reverse}
use Rattle.claims.specs.Member as theory
use Rattle.claims.specs.Votes.{Has}
use Rattle.ballots.specs.InTheAgreement.{note_of}
use Rattle.ballots.specs.declared.message.Note.{Note}
use Rattle.protocol.specs.State.{Value}
use Rattle.engine.proofs.Places.{equal_bytes, same_bytes}
use Rattle.world.specs.World.{World, WorldNode}
use Rattle.one_list.specs.Matches.{log_of, name_of}

-- ---- elements of a list

pub has_contains : {X : Type 0} (xs : List X) (x : X) → Has xs x → Contains xs x
has_contains [] x h = absurd h
has_contains (y ∷ ys) x (inl e) = (zero, omega arith, e)
has_contains (y ∷ ys) x (inr h) = let r = has_contains ys x h in (suc r.0, omega (arith, r.1), r.2)

pub contains_has : {X : Type 0} (xs : List X) (x : X) → Contains xs x → Has xs x
contains_has [] x (k, within, e) = absurd (omega arith)
contains_has (y ∷ ys) x (zero, within, e) = inl e
contains_has (y ∷ ys) x (suc k, within, e) = inr (contains_has ys x (k, omega (arith, within), e))

has_left : {X : Type 0} (xs ys : List X) (x : X) → Has xs x → Has (xs ++ ys) x
has_left [] ys x h = absurd h
has_left (z ∷ zs) ys x (inl e) = inl e
has_left (z ∷ zs) ys x (inr h) = inr (has_left zs ys x h)

has_right : {X : Type 0} (xs ys : List X) (x : X) → Has ys x → Has (xs ++ ys) x
has_right [] ys x h = h
has_right (z ∷ zs) ys x h = inr (has_right zs ys x h)

has_reversed : {X : Type 0} (xs : List X) (x : X) → Has xs x → Has (reverse xs) x
has_reversed [] x h = absurd h
has_reversed (y ∷ ys) x (inl e) = subst (λ l. Has l x) (sym (reverse-append (y ∷ []) ys))
    (has_right (reverse ys) (y ∷ []) x (inl e))
has_reversed (y ∷ ys) x (inr h) = subst (λ l. Has l x) (sym (reverse-append (y ∷ []) ys))
    (has_left (reverse ys) (y ∷ []) x (has_reversed ys x h))

pub reversed_has : {X : Type 0} (xs : List X) (x : X) → Has (reverse xs) x → Has xs x
reversed_has xs x h = subst (λ l. Has l x) (reverse-reverse xs) (has_reversed (reverse xs) x h)

has_mapped : {X Y : Type 0} (f : X → Y) (xs : List X) (x : X) → Has xs x → Has (map f xs) (f x)
has_mapped f [] x h = absurd h
has_mapped f (y ∷ ys) x (inl e) = inl (ap f e)
has_mapped f (y ∷ ys) x (inr h) = inr (has_mapped f ys x h)

pub mapped_has : {X Y : Type 0} (f : X → Y) (xs : List X) (y : Y) → Has (map f xs) y → (x : X)
    × Has xs x × (f x ≡ y)
mapped_has f [] y h = absurd h
mapped_has f (x ∷ xs) y (inl e) = (x, inl refl, e)
mapped_has f (x ∷ xs) y (inr h) = let r = mapped_has f xs y h in (r.0, inr r.1, r.2)

has_filtered : {X : Type 0} (t : X → Bool) (xs : List X) (x : X) → t x ≡ true → Has xs x
    → Has (filter t xs) x
has_filtered t [] x e h = absurd h
has_filtered t (y ∷ ys) x e (inl same) =
    subst (λ l. Has l x) (sym (cond-true (t y) (y ∷ filter t ys) (filter t ys) (ap t same ∙ e)))
    (inl same)
has_filtered t (y ∷ ys) x e (inr h) =
    cond_both (t y) (y ∷ filter t ys) (filter t ys) (λ l. Has l x)
    (λ on. inr (has_filtered t ys x e h)) (λ off. has_filtered t ys x e h)

pub filtered_has : {X : Type 0} (t : X → Bool) (xs : List X) (x : X) → Has (filter t xs) x
    → Has xs x × (t x ≡ true)
filtered_has t [] x h = absurd h
filtered_has {X} t (y ∷ ys) x h =
    cond_both (t y) (y ∷ filter t ys) (filter t ys) (λ l. Has l x → Has (y ∷ ys) x × (t x ≡ true))
    (λ on h. ⊎_elim (λ same. (inl same, ap t (sym same) ∙ on))
    (λ later. let r = filtered_has t ys x later in (inr r.0, r.1)) h)
    (λ off h. let r = filtered_has t ys x h in (inr r.0, r.1)) h

-- ---- the log of a unit

-- what is noted about the unit is on its log
pub noted_is_on_log : (w : World) (u : ℕ) (x : WorldNode) (n : Note Value) → Contains x.notes n
    → n.path ≡ name_of w u
    → Has (log_of w u x) (note_of n.fact)
noted_is_on_log w u x n h e =
    has_mapped (λ (n : Note Value). note_of n.fact)
    (reverse (filter (λ n. bytes_eq n.path (name_of w u)) x.notes)) n
    (has_reversed (filter (λ n. bytes_eq n.path (name_of w u)) x.notes) n
    (has_filtered (λ n. bytes_eq n.path (name_of w u)) x.notes n
    (equal_bytes n.path (name_of w u) e) (contains_has x.notes n h)))

-- what is on its log was noted about the unit
pub on_log_was_noted : (w : World) (u : ℕ) (x : WorldNode) (note : theory.Note Value)
    → Has (log_of w u x) note
    → (n : Note Value) × Contains x.notes n × (n.path ≡ name_of w u) × (note_of n.fact ≡ note)
on_log_was_noted w u x note h =
    let a = mapped_has (λ (n : Note Value). note_of n.fact)
    (reverse (filter (λ n. bytes_eq n.path (name_of w u)) x.notes)) note h in
    let b = reversed_has (filter (λ n. bytes_eq n.path (name_of w u)) x.notes) a.0 a.1 in
    let r = filtered_has (λ n. bytes_eq n.path (name_of w u)) x.notes a.0 b in
    (a.0, has_contains x.notes a.0 r.0, same_bytes (a.0).path (name_of w u) r.1, a.2)

-- The effect of one more setting on what lines set.
use Rattle.std.proofs.Common.{◌≡◌, ◌++◌, ◌&&◌, ◌||◌, ℕ, Bool, true, false, not, cond, List, [], ◌∷◌, map, filter, find, is_some, option_map, Option, None, Some, refl, sym, ap, ◌∙◌, if◌then◌else◌}
use Rattle.std.specs.List.{list_any}
use Rattle.std.specs.Str.{bytes_eq}
use Rattle.std.specs.Cmp.Lexicographic.{nat_list_eq_equiv}
use Rattle.std.proofs.lemmas.List.{append-nil, map_push}
use Rattle.std.proofs.lemmas.List.Elements.{filter-append}
use Rattle.std.proofs.lemmas.Slice.Eq.{bytes_eq-Decides}
use Rattle.indexmap.specs.IndexSet.{insert_key}
use Rattle.faults.specs.Answers.{first_given, option_or}
use Rattle.faults.specs.Bytes.{Text, is_among}
use Rattle.faults.specs.Pieces.{in_order_of_appearance}
use Rattle.listing.specs.Lines.{Setting, full_name}
use Rattle.listing.specs.Listing.{nameless_fault, paths_of, sets, value_of}
use Rattle.listing.specs.declared.ListingFault.{ListingFault}
use Rattle.listing.specs.declared.ListingFault.TheVariants.{NoName}

-- ---- texts

pub same_text : (a b : Text) → bytes_eq a b ≡ true → a ≡ b
same_text a b e = (bytes_eq-Decides a b).0 e

pub eq_self : (a : Text) → bytes_eq a a ≡ true
eq_self a = nat_list_eq_equiv.refl a

pub eq_flip : (a b : Text) → bytes_eq a b ≡ bytes_eq b a
eq_flip a b = nat_list_eq_equiv.symm a b

-- whether a text is among others, in both notations
pub among_flip : (ts : List Text) (t : Text) → is_among ts t ≡ list_any (bytes_eq t) ts
among_flip [] t = refl
among_flip (u ∷ us) t =
    let head = eq_flip u t in
    let tail = among_flip us t in
    λ i. head i || tail i

-- ---- the order of first appearance

abbrev others : Text → List Text → List Text
others y ts = filter (λ u. not (bytes_eq y u)) ts

-- if a text differs from y, it is among the texts other than y if and only if it is among all
any_others_by : (x y z : Text) (zs : List Text) (b : Bool) → bytes_eq y z ≡ b → bytes_eq x y ≡ false
    → list_any (bytes_eq x) (others y zs) ≡ list_any (bytes_eq x) zs
    → list_any (bytes_eq x) (cond (not b) (z ∷ others y zs) (others y zs)) ≡ (bytes_eq x z || list_any (bytes_eq x) zs)
any_others_by x y z zs true e apart rest =
    rest ∙ ap (λ b. b || list_any (bytes_eq x) zs) (sym (ap (bytes_eq x) (sym (same_text y z e)) ∙ apart))
any_others_by x y z zs false e apart rest = ap (λ b. bytes_eq x z || b) rest

any_others : (x y : Text) (zs : List Text) → bytes_eq x y ≡ false → list_any (bytes_eq x) (others y zs) ≡ list_any (bytes_eq x) zs
any_others x y [] apart = refl
any_others x y (z ∷ zs) apart = any_others_by x y z zs (bytes_eq y z) refl apart (any_others x y zs apart)

-- one more text, which is appended if it is new
push_by : (x y : Text) (zs : List Text) (a b : Bool) → bytes_eq x y ≡ a → list_any (bytes_eq x) zs ≡ b
    → (y ∷ others y (if b then zs else zs ++ x ∷ [])) ≡ insert_key bytes_eq (y ∷ others y zs) x
push_by x y zs true true e h = ap (λ c. if (c || list_any (bytes_eq x) (others y zs)) then y ∷ others y zs else (y ∷ others y zs) ++ x ∷ []) (sym e)
push_by x y zs true false e h =
    let skip : others y (x ∷ []) ≡ [] = ap (λ c. cond (not c) (x ∷ []) []) (eq_flip y x ∙ e) in
    ap (λ ts. y ∷ ts) (filter-append (λ u. not (bytes_eq y u)) zs (x ∷ []) ∙ ap (λ ts. others y zs ++ ts) skip ∙ append-nil (others y zs))
    ∙ ap (λ c. if (c || list_any (bytes_eq x) (others y zs)) then y ∷ others y zs else (y ∷ others y zs) ++ x ∷ []) (sym e)
push_by x y zs false true e h =
    let there : (bytes_eq x y || list_any (bytes_eq x) (others y zs)) ≡ true = ap (λ c. c || list_any (bytes_eq x) (others y zs)) e ∙ any_others x y zs e ∙ h in
    ap (λ c. if c then y ∷ others y zs else (y ∷ others y zs) ++ x ∷ []) (sym there)
push_by x y zs false false e h =
    let there : (bytes_eq x y || list_any (bytes_eq x) (others y zs)) ≡ false = ap (λ c. c || list_any (bytes_eq x) (others y zs)) e ∙ any_others x y zs e ∙ h in
    let keep : others y (x ∷ []) ≡ x ∷ [] = ap (λ c. cond (not c) (x ∷ []) []) (eq_flip y x ∙ e) in
    ap (λ ts. y ∷ ts) (filter-append (λ u. not (bytes_eq y u)) zs (x ∷ []) ∙ ap (λ ts. others y zs ++ ts) keep)
    ∙ ap (λ c. if c then y ∷ others y zs else (y ∷ others y zs) ++ x ∷ []) (sym there)

pub in_order-push : (xs : List Text) (x : Text) → in_order_of_appearance (xs ++ x ∷ []) ≡ insert_key bytes_eq (in_order_of_appearance xs) x
in_order-push [] x = refl
in_order-push (y ∷ ys) x =
    ap (λ zs. y ∷ others y zs) (in_order-push ys x)
    ∙ push_by x y (in_order_of_appearance ys) (bytes_eq x y) (list_any (bytes_eq x) (in_order_of_appearance ys)) refl refl

any_in_order_by : (x y : Text) (ys : List Text) (b : Bool) → bytes_eq x y ≡ b → list_any (bytes_eq x) (in_order_of_appearance ys) ≡ list_any (bytes_eq x) ys
    → (b || list_any (bytes_eq x) (others y (in_order_of_appearance ys))) ≡ (b || list_any (bytes_eq x) ys)
any_in_order_by x y ys true e rest = refl
any_in_order_by x y ys false e rest = any_others x y (in_order_of_appearance ys) e ∙ rest

any_in_order : (x : Text) (ys : List Text) → list_any (bytes_eq x) (in_order_of_appearance ys) ≡ list_any (bytes_eq x) ys
any_in_order x [] = refl
any_in_order x (y ∷ ys) = any_in_order_by x y ys (bytes_eq x y) refl (any_in_order x ys)

-- ---- the paths

pub paths_of-push : (ss : List Setting) (s : Setting) → paths_of (ss ++ s ∷ []) ≡ insert_key bytes_eq (paths_of ss) s.path
paths_of-push ss s = ap in_order_of_appearance (map_push (λ (x : Setting). x.path) ss s) ∙ in_order-push (map (λ (x : Setting). x.path) ss) s.path

pub old_path : (ss : List Setting) (s : Setting) → list_any (bytes_eq s.path) (paths_of ss) ≡ true → paths_of (ss ++ s ∷ []) ≡ paths_of ss
old_path ss s e = paths_of-push ss s ∙ ap (λ b. if b then paths_of ss else paths_of ss ++ s.path ∷ []) e

pub new_path : (ss : List Setting) (s : Setting) → list_any (bytes_eq s.path) (paths_of ss) ≡ false → paths_of (ss ++ s ∷ []) ≡ paths_of ss ++ s.path ∷ []
new_path ss s e = paths_of-push ss s ∙ ap (λ b. if b then paths_of ss else paths_of ss ++ s.path ∷ []) e

-- ---- the values

pub find-push : (p : Setting → Bool) (ss : List Setting) (s : Setting) → find p (ss ++ s ∷ []) ≡ option_or (find p ss) (if p s then Some s else None)
find-push p [] s = refl
find-push p (x ∷ xs) s = by (p x) (find-push p xs s)
  where
    by : (b : Bool) → find p (xs ++ s ∷ []) ≡ option_or (find p xs) (if p s then Some s else None)
        → cond b (Some x) (find p (xs ++ s ∷ [])) ≡ option_or (cond b (Some x) (find p xs)) (if p s then Some s else None)
    by true e = refl
    by false e = e

pub map_or : {X Y : Type 0} (f : X → Y) (o : Option X) (b : Bool) (x : X) → option_map f (option_or o (if b then Some x else None)) ≡ option_or (option_map f o) (if b then Some (f x) else None)
map_or f None true x = refl
map_or f None false x = refl
map_or f (Some y) b x = refl

pub value_of-push : (ss : List Setting) (s : Setting) (path variable : Text)
    → value_of (ss ++ s ∷ []) path variable ≡ option_or (value_of ss path variable) (if sets path variable s then Some s.value else None)
value_of-push ss s path variable =
    ap (option_map (λ (x : Setting). x.value)) (find-push (sets path variable) ss s) ∙ map_or (λ (x : Setting). x.value) (find (sets path variable) ss) (sets path variable s) s

-- the first line of a path
abbrev pub line_of : List Setting → Text → Option ℕ
line_of ss path = option_map (λ s. s.line) (find (λ s. bytes_eq s.path path) ss)

pub line_of-push : (ss : List Setting) (s : Setting) (path : Text)
    → line_of (ss ++ s ∷ []) path ≡ option_or (line_of ss path) (if bytes_eq s.path path then Some s.line else None)
line_of-push ss s path =
    ap (option_map (λ (x : Setting). x.line)) (find-push (λ x. bytes_eq x.path path) ss s)
    ∙ map_or (λ (x : Setting). x.line) (find (λ x. bytes_eq x.path path) ss) (bytes_eq s.path path) s

-- nothing is set for a path that isn't there
find_nothing : (p : Setting → Bool) (path : Text) (ss : List Setting) → ((s : Setting) → bytes_eq path s.path ≡ false → p s ≡ false)
    → list_any (bytes_eq path) (map (λ (s : Setting). s.path) ss) ≡ false → find p ss ≡ None
find_nothing p path [] never e = refl
find_nothing p path (s ∷ ss) never e = by (bytes_eq path s.path) refl e (find_nothing p path ss never)
  where
    by : (b : Bool) → bytes_eq path s.path ≡ b → (b || list_any (bytes_eq path) (map (λ (x : Setting). x.path) ss)) ≡ false
        → (list_any (bytes_eq path) (map (λ (x : Setting). x.path) ss) ≡ false → find p ss ≡ None) → find p (s ∷ ss) ≡ None
    by true h e rest = cc
    by false h e rest = ap (λ c. cond c (Some s) (find p ss)) (never s h) ∙ rest e

absent : (ss : List Setting) (path : Text) → list_any (bytes_eq path) (paths_of ss) ≡ false → list_any (bytes_eq path) (map (λ (s : Setting). s.path) ss) ≡ false
absent ss path e = sym (any_in_order path (map (λ (s : Setting). s.path) ss)) ∙ e

pub no_value : (ss : List Setting) (path variable : Text) → list_any (bytes_eq path) (paths_of ss) ≡ false → value_of ss path variable ≡ None
no_value ss path variable e =
    ap (option_map (λ (s : Setting). s.value))
    (find_nothing (sets path variable) path ss (λ s h. ap (λ b. b && bytes_eq s.variable variable) (eq_flip s.path path ∙ h)) (absent ss path e))

pub no_line : (ss : List Setting) (path : Text) → list_any (bytes_eq path) (paths_of ss) ≡ false → line_of ss path ≡ None
no_line ss path e =
    ap (option_map (λ (s : Setting). s.line)) (find_nothing (λ s. bytes_eq s.path path) path ss (λ s h. eq_flip s.path path ∙ h) (absent ss path e))

-- ---- the first path without a name

abbrev pub path_fault : (Text → Bool) → List Setting → Text → Option ListingFault
path_fault named ss path = if named path then None else option_map NoName (line_of ss path)

skip_by : (named : Text → Bool) (s : Setting) (ss : List Setting) (z : Text) (zs : List Text) (b : Bool) → bytes_eq s.path z ≡ b → named s.path ≡ true
    → first_given (path_fault named (s ∷ ss)) (others s.path zs) ≡ first_given (path_fault named ss) zs
    → first_given (path_fault named (s ∷ ss)) (cond (not b) (z ∷ others s.path zs) (others s.path zs)) ≡ first_given (path_fault named ss) (z ∷ zs)
skip_by named s ss z zs true e has rest =
    let none : path_fault named ss z ≡ None =
    ap (λ n. if n then None else option_map NoName (line_of ss z)) (ap named (sym (same_text s.path z e)) ∙ has) in
    rest ∙ ap (λ o. option_or o (first_given (path_fault named ss) zs)) (sym none)
skip_by named s ss z zs false e has rest =
    let same : path_fault named (s ∷ ss) z ≡ path_fault named ss z =
    ap (λ c. if named z then None else option_map NoName (option_map (λ (x : Setting). x.line) (cond c (Some s) (find (λ x. bytes_eq x.path z) ss)))) e in
    λ i. option_or (same i) (rest i)

skip : (named : Text → Bool) (s : Setting) (ss : List Setting) (zs : List Text) → named s.path ≡ true
    → first_given (path_fault named (s ∷ ss)) (others s.path zs) ≡ first_given (path_fault named ss) zs
skip named s ss [] has = refl
skip named s ss (z ∷ zs) has = skip_by named s ss z zs (bytes_eq s.path z) refl has (skip named s ss zs has)

first_by : (named : Text → Bool) (s : Setting) (ss : List Setting) (b : Bool) → named s.path ≡ b
    → first_given (λ (x : Setting). if named x.path then None else Some (NoName x.line)) ss ≡ first_given (path_fault named ss) (paths_of ss)
    → option_or (if b then None else Some (NoName s.line)) (first_given (λ (x : Setting). if named x.path then None else Some (NoName x.line)) ss)
    ≡ option_or (if b then None else Some (NoName s.line)) (first_given (path_fault named (s ∷ ss)) (others s.path (paths_of ss)))
first_by named s ss true e rest = rest ∙ sym (skip named s ss (paths_of ss) e)
first_by named s ss false e rest = refl

first_by_paths : (named : Text → Bool) (ss : List Setting)
    → first_given (λ (s : Setting). if named s.path then None else Some (NoName s.line)) ss ≡ first_given (path_fault named ss) (paths_of ss)
first_by_paths named [] = refl
first_by_paths named (s ∷ ss) =
    let here : path_fault named (s ∷ ss) s.path ≡ (if named s.path then None else Some (NoName s.line)) =
    ap (λ c. if named s.path then None else option_map NoName (option_map (λ (x : Setting). x.line) (cond c (Some s) (find (λ x. bytes_eq x.path s.path) ss)))) (eq_self s.path) in
    first_by named s ss (named s.path) refl (first_by_paths named ss)
    ∙ ap (λ o. option_or o (first_given (path_fault named (s ∷ ss)) (others s.path (paths_of ss)))) (sym here)

pub nameless_by_paths : (ss : List Setting)
    → nameless_fault ss ≡ first_given (path_fault (λ p. is_some (value_of ss p full_name)) ss) (paths_of ss)
nameless_by_paths ss = first_by_paths (λ p. is_some (value_of ss p full_name)) ss

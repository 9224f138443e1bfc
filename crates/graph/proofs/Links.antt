-- Links to which names are added, and the lists that they form.
use Rattle.std.proofs.Common.{◌≡◌, ◌+◌, ◌<◌, ◌≤◌, ℕ, zero, suc, List, [], ◌∷◌, ◌++◌, All, cond, nat_eq, get_or, length, replicate, set, refl, sym, ap, ◌∙◌, inl, inr, arith, add-one}
use Rattle.std.proofs.lemmas.Bool.{cases_eq, cases_lt, eq-eqb, ne_eqb}
use Rattle.std.proofs.lemmas.List.{get_or_append_left, get_or-map, get_or_push, get_or-replicate, get_or-set_other, get_or-set_same, length-replicate, length-set, length_push, map-set}
use Rattle.graph.specs.declared.naming.Link.{Link}
use Rattle.graph.specs.inside.Links.{AreLinked, link_behind, linked_below, linked_list, linked_lists}

-- ---- following links

-- following a link doesn't depend on later links
pub linked_below-settled : (links : List Link) (n h : ℕ) → h ≤ n → linked_below links n h ≡ linked_list links h
linked_below-settled links zero zero below = refl
linked_below-settled links zero (suc h) below = absurd (omega arith)
linked_below-settled links (suc n) h below = elim (cases_eq h (suc n)) [
  | inl same ↦ ap (λ k. linked_below links k h) (sym same)
  | inr other ↦
      ap (λ b. cond b ((link_behind links n).who ∷ linked_below links n (link_behind links n).earlier) (linked_below links n h)) (ne_eqb h (suc n) other)
      ∙ linked_below-settled links n h (omega (arith, below, other))
]

-- the list of a link is its name, followed by the list of the earlier link
pub linked_list-more : (links : List Link) (k h : ℕ) → h ≡ k + 1 → (link_behind links k).earlier ≤ k
    → linked_list links h ≡ (link_behind links k).who ∷ linked_list links (link_behind links k).earlier
linked_list-more links k h is earlier =
    ap (linked_list links) (is ∙ add-one k)
    ∙ ap (λ b. cond b ((link_behind links k).who ∷ linked_below links k (link_behind links k).earlier) (linked_below links k (suc k))) (eq-eqb (suc k) (suc k) refl)
    ∙ ap (λ ps. (link_behind links k).who ∷ ps) (linked_below-settled links k (link_behind links k).earlier earlier)

-- ---- one more link

pub linked_below-push : (links : List Link) (link : Link) (n h : ℕ) → n ≤ length links → linked_below (links ++ link ∷ []) n h ≡ linked_below links n h
linked_below-push links link zero h within = refl
linked_below-push links link (suc n) h within =
    let here : link_behind (links ++ link ∷ []) n ≡ link_behind links n = get_or_append_left links (link ∷ []) _ n (omega (arith, within)) in
    ap (λ l. cond (nat_eq h (suc n)) (l.who ∷ linked_below (links ++ link ∷ []) n l.earlier) (linked_below (links ++ link ∷ []) n h)) here
    ∙ ap (λ ps. cond (nat_eq h (suc n)) ((link_behind links n).who ∷ ps) (linked_below (links ++ link ∷ []) n h)) (linked_below-push links link n (link_behind links n).earlier (omega (arith, within)))
    ∙ ap (λ ps. cond (nat_eq h (suc n)) ((link_behind links n).who ∷ linked_below links n (link_behind links n).earlier) ps) (linked_below-push links link n h (omega (arith, within)))

pub linked_list-push : (links : List Link) (link : Link) (h : ℕ) → h ≤ length links → linked_list (links ++ link ∷ []) h ≡ linked_list links h
linked_list-push links link h within = linked_below-push links link h h within

pub linked_lists-push : (links : List Link) (link : Link) (latest : List ℕ) → All (λ h. h ≤ length links) latest
    → linked_lists (links ++ link ∷ []) latest ≡ linked_lists links latest
linked_lists-push links link [] there = refl
linked_lists-push links link (h ∷ hs) there =
    ap (λ ps. ps ∷ linked_lists (links ++ link ∷ []) hs) (linked_list-push links link h (there 0 0 (omega arith)))
    ∙ ap (λ lists. linked_list links h ∷ lists) (linked_lists-push links link hs (λ k d inside. there (suc k) d (omega (arith, inside))))

-- the list of the last link is its name, followed by the list of the earlier link
pub linked_list-last : (links : List Link) (link : Link) → link.earlier ≤ length links
    → linked_list (links ++ link ∷ []) (length links + 1) ≡ link.who ∷ linked_list links link.earlier
linked_list-last links link earlier =
    let is : link_behind (links ++ link ∷ []) (length links) ≡ link = get_or_push links link _ (length links) refl in
    linked_list-more (links ++ link ∷ []) (length links) (length links + 1) refl (rw is earlier)
    ∙ ap (λ l. l.who ∷ linked_list (links ++ link ∷ []) l.earlier) is
    ∙ ap (λ ps. link.who ∷ ps) (linked_list-push links link link.earlier earlier)

-- ---- lists by their latest links

pub AreLinked-none : (n : ℕ) → AreLinked [] (replicate n 0)
AreLinked-none n = record {
  linked = λ k inside. absurd (omega arith);
  latest_there = λ k d inside. omega (arith, get_or-replicate n k 0 d (omega (arith, inside, length-replicate {A = ℕ} n 0)));
}

pub linked_lists-none : (n : ℕ) → linked_lists [] (replicate n 0) ≡ replicate n []
linked_lists-none zero = refl
linked_lists-none (suc n) = ap (λ lists. [] ∷ lists) (linked_lists-none n)

module _ {links : List Link} {latest : List ℕ} (are : AreLinked links latest) where
  -- a position's latest link
  pub latest-there : (o : ℕ) → o < length latest → get_or latest o 0 ≤ length links
  latest-there o inside = are.latest_there o 0 inside

  module _ (o : ℕ) (inside : o < length latest) (link : Link) (earlier : link.earlier ≡ get_or latest o 0) where
    pub AreLinked-more : AreLinked (links ++ link ∷ []) (set latest o (length links + 1))
    AreLinked-more = record {
      linked = λ k below. elim (cases_lt k (length links)) [
        | inl before ↦ rw (get_or_append_left links (link ∷ []) (record { who = 0; earlier = 0 }) k before) (are.linked k before)
        | inr past ↦
            let last : length links ≡ k = omega (arith, past, below, length_push links link) in
            rw (get_or_push links link (record { who = 0; earlier = 0 }) k last) (omega (arith, last, earlier, latest-there o inside))
      ];
      latest_there = λ k d within. elim (cases_eq k o) [
        | inl same ↦
            let is : get_or (set latest o (length links + 1)) k d ≡ length links + 1 = ap (λ n. get_or (set latest o (length links + 1)) n d) same ∙ get_or-set_same latest o (length links + 1) d inside in
            omega (arith, is, length_push links link)
        | inr other ↦
            omega (arith, get_or-set_other latest o k (length links + 1) d other, are.latest_there k d (omega (arith, within, length-set latest o (length links + 1))), length_push links link)
      ];
    }

    -- the added name is put in front of the position's list, and the other lists stay the same
    pub linked_lists-more : linked_lists (links ++ link ∷ []) (set latest o (length links + 1))
        ≡ set (linked_lists links latest) o (link.who ∷ get_or (linked_lists links latest) o [])
    linked_lists-more =
        map-set (linked_list (links ++ link ∷ [])) latest o (length links + 1)
        ∙ ap (λ lists. set lists o (linked_list (links ++ link ∷ []) (length links + 1))) (linked_lists-push links link latest are.latest_there)
        ∙ ap (set (linked_lists links latest) o) (linked_list-last links link (omega (arith, earlier, latest-there o inside))
        ∙ ap (λ h. link.who ∷ linked_list links h) earlier
        ∙ ap (λ ps. link.who ∷ ps) (sym (get_or-map (linked_list links) latest o 0 [] inside)))

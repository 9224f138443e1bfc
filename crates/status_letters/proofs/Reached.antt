-- What is reached from packages that are not held is not installable, and everything else is.
use Rattle.std.proofs.Common.{◌≡◌, ◌+◌, ◌++◌, ◌∷◌, ◌<◌, ◌&&◌, ℕ, zero, suc, Bool, true, false, not, cond, nat_lt, List, [], All, Contains, length, refl, sym, ap, ◌∙◌, subst, inl, inr, arith}
use Rattle.std.proofs.lemmas.Bool.{and_from, and_parts, both_ways, cases_Bool, cases_lt, false_from_ne_true, lt-ltb}
use Rattle.std.proofs.lemmas.Bool.Decides.{Decides-ltb}
use Rattle.std.proofs.lemmas.List.Elements.{All-contains, Contains-append_cases, Contains-append_left, Contains-append_right, Contains-get_or}
use Rattle.graph.specs.Lists.{AreReversed, list_at, times}
use Rattle.graph.specs.Marks.{has_mark}
use Rattle.graph.specs.Reach.{AreReachedFrom, IsClosed, IsReachedFrom}
use Rattle.graph.proofs.Lists.{contained-times, times-contained}
use Rattle.graph.proofs.Turned.{turned, turned_back}
use Rattle.listing.specs.Tree.{IsTree, Tree, run_at}
use Rattle.engine.specs.shared.Marks.{AreMarksOf}
use Rattle.engine.proofs.Dependents.{run_listed}
use Rattle.engine.specs.Letters.{IsInstallable}
use Rattle.status_letters.specs.inside.Lacking.{AreLacking, AreUnmarked, held_runs}

-- the run dependencies of a held package are run dependencies
held_needs : (tree : Tree) (held : ℕ → Bool) (p d : ℕ) → Contains (held_runs tree held p) d → Contains (run_at tree p) d
held_needs tree held p d needed = go (held p) needed
  where
    go : (b : Bool) → Contains (cond b (run_at tree p) []) d → Contains (run_at tree p) d
    go true inside = inside
    go false (k, within, is) = absurd (omega (arith, within))

needs_held : (tree : Tree) (held : ℕ → Bool) (p d : ℕ) → held p ≡ true → Contains (run_at tree p) d → Contains (held_runs tree held p) d
needs_held tree held p d is needed = subst (λ (b : Bool). Contains (cond b (run_at tree p) []) d) (sym is) needed

-- ---- the lists to follow, and where to begin

pub runs_if_held : (tree : Tree) (held : ℕ → Bool) (p : ℕ) → held p ≡ true → held_runs tree held p ≡ run_at tree p
runs_if_held tree held p is = ap (λ b. cond b (run_at tree p) []) is

pub runs_unless_held : (tree : Tree) (held : ℕ → Bool) (p : ℕ) → held p ≡ false → held_runs tree held p ≡ []
runs_unless_held tree held p is_not = ap (λ b. cond b (run_at tree p) []) is_not

-- an empty list adds nothing
pub none_more : (b : Bool) (before d : ℕ) (ps : List ℕ) → ps ≡ [] → before ≡ before + cond b (times d ps) 0
none_more true before d ps empty = let none : times d ps ≡ 0 = ap (times d) empty in omega (arith, none)
none_more false before d ps empty = omega arith

in_single : (n p : ℕ) → Contains (n ∷ []) p → n ≡ p
in_single n p (zero, within, is) = is
in_single n p (suc k, within, is) = absurd (omega (arith, within))

-- one more position, without a mark
pub unmarked_more : (marks : List Bool) (n : ℕ) (ps : List ℕ) → AreUnmarked marks n ps → has_mark marks n ≡ false → AreUnmarked marks (n + 1) (ps ++ n ∷ [])
unmarked_more marks n ps are unmarked p = (
  λ member. elim (Contains-append_cases ps (n ∷ []) p member) [
    | inl earlier ↦ let at = (are p).0 earlier in (omega (arith, at.0), at.1)
    | inr here ↦ let same = in_single n p here in (omega (arith, same), ap (has_mark marks) (sym same) ∙ unmarked)
  ],
  λ (below, is). elim (cases_lt p n) [
    | inl before ↦ Contains-append_left ps (n ∷ []) p ((are p).1 (before, is))
    | inr past ↦ Contains-append_right ps (n ∷ []) p (let same : n ≡ p = omega (arith, below, past) in (0, omega arith, same))
  ],
)

-- one more position, with a mark
pub unmarked_same : (marks : List Bool) (n : ℕ) (ps : List ℕ) → AreUnmarked marks n ps → has_mark marks n ≡ true → AreUnmarked marks (n + 1) ps
unmarked_same marks n ps are marked p = (
  λ member. let at = (are p).0 member in (omega (arith, at.0), at.1),
  λ (below, is). elim (cases_lt p n) [
    | inl before ↦ (are p).1 (before, is)
    | inr past ↦ let same : p ≡ n = omega (arith, below, past) in absurd (both_ways (has_mark marks p) is (ap (has_mark marks) same ∙ marked))
  ],
)

-- ---- what is reached

not_true : (b : Bool) → not b ≡ true → b ≡ false
not_true true e = sym e
not_true false e = refl

module _ (tree : Tree) (is_tree : IsTree tree) (marks : List Bool) (runs : List (List ℕ)) (unheld found : List ℕ)
    (are : AreReversed (length tree) (length tree) (held_runs tree (has_mark marks)) runs)
    (unmarked : AreUnmarked marks (length tree) unheld)
    (reached : AreReachedFrom (list_at runs) unheld found) where
  held : ℕ → Bool
  held = has_mark marks

  held_listed : (x d : ℕ) → Contains (held_runs tree (has_mark marks) x) d → (x < length tree) × (d < length tree)
  held_listed x d needed = run_listed tree is_tree x d (held_needs tree (has_mark marks) x d needed)

  found_reached : (p : ℕ) → Contains found p → IsReachedFrom (list_at runs) unheld p
  found_reached p member = elim (reached p) [
    | inl (leads, one) ↦ leads
    | inr (leads_not, none) ↦ absurd (omega (arith, none, times-contained p found member))
  ]

  reached_found : (p : ℕ) → IsReachedFrom (list_at runs) unheld p → Contains found p
  reached_found p leads = elim (reached p) [
    | inl (leads', one) ↦ contained-times p found (omega (arith, one))
    | inr (leads_not, none) ↦ absurd (leads_not leads)
  ]

  -- what is reached from packages that are not held is not installable
  reached_lacks : (p : ℕ) → IsReachedFrom (list_at runs) unheld p → IsInstallable tree (has_mark marks) p → ⊥
  reached_lacks p leads i = both_ways (i.among p) (not_true (i.among p) (leads (λ q. not (i.among q)) outside stays)) i.member
    where
      out : (q : ℕ) → has_mark marks q ≡ false → not (i.among q) ≡ true
      out q is_not = ap not (false_from_ne_true (i.among q) (λ inside. both_ways (has_mark marks q) is_not (i.all_held q inside)))

      outside : All (λ q. not (i.among q) ≡ true) unheld
      outside k d inside = out _ ((unmarked _).0 (Contains-get_or unheld k d inside)).1

      stays : IsClosed (list_at runs) (λ q. not (i.among q))
      stays x d x_out named = ap not (false_from_ne_true (i.among d) (λ d_in.
          both_ways (i.among x) (not_true (i.among x) x_out) (i.closed d x d_in (held_needs tree (has_mark marks) d x (turned_back are x d named)))))

  -- what is not reached is held, and so are all its run dependencies
  module _ (lacking : List Bool) (marked : AreMarksOf (length tree) found lacking) where
    not_found : (q : ℕ) → has_mark lacking q ≡ false → Contains found q → ⊥
    not_found q lacks_not member = both_ways (has_mark lacking q) lacks_not ((marked.are q).1 member)

    is_held : (q : ℕ) → q < length tree → has_mark lacking q ≡ false → has_mark marks q ≡ true
    is_held q within lacks_not = elim (cases_Bool (has_mark marks q)) [
      | inl is ↦ is
      | inr is_not ↦ absurd (not_found q lacks_not (reached_found q (λ S all closed. All-contains (λ x. S x ≡ true) unheld q all ((unmarked q).1 (within, is_not)))))
    ]

    need_lacks_not : (q d : ℕ) → q < length tree → has_mark lacking q ≡ false → Contains (run_at tree q) d → has_mark lacking d ≡ false
    need_lacks_not q d within lacks_not needed = false_from_ne_true (has_mark lacking d) (λ lacks.
        let named = turned are held_listed q d (needs_held tree (has_mark marks) q d (is_held q within lacks_not) needed) in
        not_found q lacks_not (reached_found q (λ S all closed. closed d q (found_reached d ((marked.are d).0 lacks) S all closed) named)))

    unreached_is_installable : (p : ℕ) → p < length tree → has_mark lacking p ≡ false → IsInstallable tree (has_mark marks) p
    unreached_is_installable p within lacks_not = record {
      among = λ q. nat_lt q (length tree) && not (has_mark lacking q);
      member = and_from _ _ (lt-ltb p (length tree) within) (ap not lacks_not);
      all_held = λ q inside. let at = parts q inside in is_held q at.0 at.1;
      closed = λ q d inside needed.
          let at = parts q inside in
          and_from _ _ (lt-ltb d (length tree) (run_listed tree is_tree q d needed).1) (ap not (need_lacks_not q d at.0 at.1 needed));
    }
      where
        parts : (q : ℕ) → (nat_lt q (length tree) && not (has_mark lacking q)) ≡ true → (q < length tree) × (has_mark lacking q ≡ false)
        parts q inside =
            let both = and_parts _ _ inside in
            ((Decides-ltb q (length tree)).0 both.0, not_true (has_mark lacking q) both.1)

    pub are_lacking : AreLacking tree (has_mark marks) (has_mark lacking)
    are_lacking p within = (
      unreached_is_installable p within,
      λ i. false_from_ne_true (has_mark lacking p) (λ lacks. reached_lacks p (found_reached p ((marked.are p).0 lacks)) i),
    )

-- The packages that the lines so far name are held.
use Rattle.std.proofs.Common.{◌≡◌, ◌∙◌, ◌↔◌, ◌++◌, ◌⊎◌, ℕ, zero, suc, Bool, true, false, List, [], ◌∷◌, length, replicate, set, All, Any, IsErr, Result, Ok, Err, arith, ap, sym, subst, inl, inr, true≢false}
use Rattle.std.proofs.lemmas.Bool.{cases_lt}
use Rattle.std.proofs.lemmas.List.{get_or-replicate, get_or_past, length-replicate, length-set}
use Rattle.std.proofs.lemmas.List.Elements.{All-nil, All-push}
use Rattle.std.proofs.lemmas.List.Quantifiers.{Any-push}
use Rattle.engine.specs.Ignored.{IsIgnored}
use Rattle.faults.specs.Bytes.{Text, is_empty}
use Rattle.graph.specs.Marks.{has_mark}
use Rattle.graph.proofs.Marked.{has_mark-same, marked_after, marked_before}
use Rattle.listing.specs.Lines.{Line}
use Rattle.listing.specs.Tree.{IsTree, Tree}
use Rattle.pkgpath.specs.PkgPath.{path_of}
use Rattle.program_io.proofs.Once.{ok_once}
use Rattle.dpbr_status.proofs.Positions.{same_paths}
use Rattle.dpbr_status.specs.Held.{IsFaultless, Names}
use Rattle.dpbr_status.specs.inside.Holding.{IsNamed}
use Rattle.dpbr_status.specs.declared.held.HeldFault.TheVariants.{Memory, BadList, Unlisted, Ignored}

abbrev pub AnyNames : Tree → ℕ → List Line → Type 0
AnyNames tree p lines = Any (λ (line : Line). Names tree line.1 p) lines

-- no line is faulty, and exactly the packages that lines name are marked
pub record HasHeld (tree : Tree) (lines : List Line) (marks : List Bool) : Type 0 where
  pub each : length marks ≡ length tree
  pub faultless : All (IsFaultless tree) lines
  pub named : (p : ℕ) → (has_mark marks p ≡ true) ↔ AnyNames tree p lines

no_mark : (n p : ℕ) → has_mark (replicate n false) p ≡ false
no_mark n p = elim (cases_lt p n) [
  | inl within ↦ get_or-replicate n p false false within
  | inr past ↦ get_or_past (replicate n false) p false (omega (arith, past, length-replicate {A = Bool} n false))
]

pub none_held : (tree : Tree) (n : ℕ) (marks : List Bool) → n ≡ length tree → marks ≡ replicate n false → HasHeld tree [] marks
none_held tree n marks is none = record {
  each = ap length none ∙ length-replicate {A = Bool} n false ∙ is;
  faultless = All-nil (IsFaultless tree);
  named = λ p. (
    (λ held. absurd (true≢false (sym held ∙ ap (λ ms. has_mark ms p) none ∙ no_mark n p))),
    (λ (k, line, within, reads, names). absurd (omega arith)),
  );
}

empty_spells_none : (text path : Text) → is_empty text ≡ true → path_of text ≡ Ok path → ⊥
empty_spells_none [] path empty spelled = cc
empty_spells_none (b ∷ text) path empty spelled = true≢false (sym empty)

err_is_no_ok : {X F : Type 0} (r : Result X F) (x : X) → IsErr r → r ≡ Ok x → ⊥
err_is_no_ok (Ok y) x is e = true≢false (sym is)
err_is_no_ok (Err y) x is e = cc

-- an empty line has no fault
empty_is_faultless : (tree : Tree) (line : Line) → is_empty line.1 ≡ true → IsFaultless tree line
empty_is_faultless tree line empty Memory fault = fault
empty_is_faultless tree line empty (BadList n) fault = true≢false (sym empty ∙ fault.1)
empty_is_faultless tree line empty (Unlisted n) fault = empty_spells_none line.1 _ empty fault.2
empty_is_faultless tree line empty (Ignored n) fault = empty_spells_none line.1 _ empty fault.2.spelled

-- a text names at most one package
named_once : (tree : Tree) → IsTree tree → (text : Text) (p q : ℕ) → Names tree text p → Names tree text q → p ≡ q
named_once tree is text p q n m = is.once p q n.listed m.listed (same_paths tree text p q n m)

-- a line that names a package that is not ignored has no fault
named_is_faultless : (tree : Tree) → IsTree tree → (line : Line) (p : ℕ) → IsNamed tree line.1 p → IsFaultless tree line
named_is_faultless tree is line p names Memory fault = fault
named_is_faultless tree is line p names (BadList n) fault = err_is_no_ok _ _ fault.2 names.named.spelled
named_is_faultless tree is line p names (Unlisted n) fault =
    fault.3 (p, names.named.listed, ok_once _ _ _ names.named.spelled fault.2)
named_is_faultless tree is line p names (Ignored n) fault =
    names.not_ignored (subst (IsIgnored tree) (named_once tree is line.1 fault.1 p fault.2 names.named) fault.3)

-- what one more line names
pushed_names : (tree : Tree) (p : ℕ) (lines : List Line) (line : Line) → AnyNames tree p (lines ++ line ∷ []) → AnyNames tree p lines ⊎ Names tree line.1 p
pushed_names tree p [] line (zero, x, within, reads, names) = inr (subst (λ (l : Line). Names tree l.1 p) (sym reads) names)
pushed_names tree p [] line (suc k, x, within, reads, names) = absurd (omega arith)
pushed_names tree p (y ∷ ys) line (zero, x, within, reads, names) = inl (zero, x, omega arith, reads, names)
pushed_names tree p (y ∷ ys) line (suc k, x, within, reads, names) =
    elim (pushed_names tree p ys line (k, x, omega arith, reads, names)) [
      | inl any ↦ inl (suc any.0, any.1, omega arith, any.3, any.4)
      | inr here ↦ inr here
    ]

kept_names : (tree : Tree) (p : ℕ) (lines : List Line) (line : Line) → AnyNames tree p lines → AnyNames tree p (lines ++ line ∷ [])
kept_names tree p [] line (k, x, within, reads, names) = absurd (omega arith)
kept_names tree p (y ∷ ys) line (zero, x, within, reads, names) = (zero, x, omega arith, reads, names)
kept_names tree p (y ∷ ys) line (suc k, x, within, reads, names) =
    let any = kept_names tree p ys line (k, x, omega arith, reads, names) in
    (suc any.0, any.1, omega arith, any.3, any.4)

pub line_skipped : (tree : Tree) (lines : List Line) (marks : List Bool) (line : Line) → HasHeld tree lines marks → is_empty line.1 ≡ true
    → HasHeld tree (lines ++ line ∷ []) marks
line_skipped tree lines marks line has empty = record {
  each = has.each;
  faultless = All-push (IsFaultless tree) lines line has.faultless (empty_is_faultless tree line empty);
  named = λ p. (
    (λ is. kept_names tree p lines line ((has.named p).0 is)),
    (λ any. elim (pushed_names tree p lines line any) [
      | inl earlier ↦ (has.named p).1 earlier
      | inr here ↦ absurd (empty_spells_none line.1 _ empty here.spelled)
    ]),
  );
}

pub line_held : (tree : Tree) → IsTree tree → (lines : List Line) (marks : List Bool) (line : Line) (q : ℕ) → HasHeld tree lines marks → IsNamed tree line.1 q
    → HasHeld tree (lines ++ line ∷ []) (set marks q true)
line_held tree is lines marks line q has names = record {
  each = length-set marks q true ∙ has.each;
  faultless = All-push (IsFaultless tree) lines line has.faultless (named_is_faultless tree is line q names);
  named = λ p. (
    (λ marked. elim (marked_before marks q p marked) [
      | inl here ↦ Any-push (λ (l : Line). Names tree l.1 p) lines line (subst (Names tree line.1) (sym here) names.named)
      | inr earlier ↦ kept_names tree p lines line ((has.named p).0 earlier)
    ]),
    (λ any. elim (pushed_names tree p lines line any) [
      | inl earlier ↦ marked_after marks q p ((has.named p).1 earlier)
      | inr here ↦
          let same : p ≡ q = named_once tree is line.1 p q here names.named in
          ap (has_mark (set marks q true)) same ∙ has_mark-same marks q true (omega (arith, has.each, names.named.listed))
    ]),
  );
}

-- Each package has a letter.
use Rattle.std.proofs.Common.{◌≡◌, ◌⊎◌, ℕ, Bool, false, List, All, length, refl, sym, subst, ◌∙◌, inl, inr, arith}
use Rattle.std.proofs.lemmas.Bool.{cases_Bool, cases_lt, true≢false}
use Rattle.std.proofs.lemmas.List.Elements.{All-contains}
use Rattle.listing.specs.Tree.{Tree}
use Rattle.engine.proofs.Once.{one_unit}
use Rattle.engine.specs.Ignored.{IsIgnored}
use Rattle.engine.specs.Units.{AreUnits, IsUnitOf, Unit, unit_with}
use Rattle.engine.specs.Laws.{EachPackageHasALetter}
use Rattle.engine.specs.Letters.{CanBeBuilt, IsInstallable, IsLetter}
use Rattle.engine.specs.declared.Letter.{Letter}
use Rattle.engine.specs.declared.Letter.TheVariants.{T, Q, B, I, Ignored}
use Rattle.engine.proofs.Decided.{all_or_any, installable_or_not}

module _ (tree : Tree) (units : List Unit) (are : AreUnits tree units) (held : ℕ → Bool)
    (p : ℕ) where
  -- everything that the build of the package's unit needs is installable, or something is not
  buildable_or_not : (u : Unit) → IsUnitOf tree p u → CanBeBuilt tree held p
      ⊎ ¬ CanBeBuilt tree held p
  buildable_or_not u of_unit = elim (all_or_any (IsInstallable tree held)
      (λ d. ¬ IsInstallable tree held d) (installable_or_not tree held) u.build) [
        | inl all ↦ inl (record { unit = u; of_unit = of_unit; installable = all })
        | inr (k, d, inside, is, lacks) ↦ inr (λ can.
            let same : can.unit ≡ u = one_unit tree p can.unit u can.of_unit of_unit in
            lacks (All-contains (IsInstallable tree held) u.build d
            (subst (λ (v : Unit). All (IsInstallable tree held) v.build) same can.installable)
            (k, inside, is)))
      ]

  -- a package that is neither held nor ignored
  waits_or_queued : held p ≡ false → are.ignored p ≡ false
      → (letter : Letter) × IsLetter tree held p letter
  waits_or_queued not_held not_ignored = elim (cases_lt p (length tree)) [
    | inr past ↦ (T, (not_held, not_is, λ can. absurd (omega (arith, past, can.of_unit.listed))))
    | inl listed ↦ elim (buildable_or_not (unit_with tree are.ignored p) (record {
      ignored = are.ignored;
      are_ignored = are.are_ignored;
      listed = listed;
      not_ignored = not_ignored;
      is = refl;
    })) [
      | inl can ↦ (Q, (not_held, not_is, can))
      | inr can_not ↦ (T, (not_held, not_is, can_not))
    ]
  ]
    where
      not_is : ¬ IsIgnored tree p
      not_is is = true≢false (sym ((are.are_ignored p).1 is) ∙ not_ignored)

  letter_there : (letter : Letter) × IsLetter tree held p letter
  letter_there = elim (cases_Bool (held p)) [
    | inl is_held ↦ elim (installable_or_not tree held p) [
      | inl can ↦ (I, (is_held, can))
      | inr can_not ↦ (B, (is_held, can_not))
    ]
    | inr not_held ↦ elim (cases_Bool (are.ignored p)) [
      | inl ignored ↦ (Ignored, (not_held, (are.are_ignored p).0 ignored))
      | inr not_ignored ↦ waits_or_queued not_held not_ignored
    ]
  ]

pub some_letter : EachPackageHasALetter
some_letter tree units held p are = letter_there tree units are held p

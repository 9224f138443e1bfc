-- Letters in trees where no package is marked.
use Rattle.std.proofs.Common.{◌≡◌, ◌<◌, ℕ, Bool, All, refl, sym, ap, subst, ◌∙◌, length, [], ◌∷◌, true, false, arith}
use mathlib.Core.Bool.{true≢false}
use Rattle.listing.specs.Tree.{Tree, is_marked_at}
use Rattle.engine.proofs.Once.{one_unit}
use Rattle.engine.specs.Ignored.{IsIgnored}
use Rattle.engine.specs.Units.{IsUnitOf, Unit, unit_with}
use Rattle.engine.specs.Letters.{CanBeBuilt, IsInstallable}

-- nothing is ignored, or nothing is held
abbrev pub none : ℕ → Bool
none p = false

module _ (tree : Tree) (unmarked : (q : ℕ) → is_marked_at tree q ≡ true → ⊥) where
  -- if nothing is marked, nothing is ignored: the empty set contains the marked packages
  pub free : (p : ℕ) → ¬ IsIgnored tree p
  free p ignored = true≢false (sym (ignored none (record { marked = λ q _ h. absurd (unmarked q h); build = λ q d _ _ h. h; run = λ q d _ _ h. h })))

  unit_there : (p : ℕ) → p < length tree → IsUnitOf tree p (unit_with tree none p)
  unit_there p within = record {
    ignored = none;
    are_ignored = λ q. (λ h. absurd (true≢false (sym h)), λ ignored. absurd (free q ignored));
    listed = within;
    not_ignored = refl;
    is = refl;
  }

  -- a package whose unit needs nothing can be built
  pub needs_nothing : (held : ℕ → Bool) (p : ℕ) → p < length tree → (unit_with tree none p).build ≡ [] → CanBeBuilt tree held p
  needs_nothing held p within nothing = record {
    unit = unit_with tree none p;
    of_unit = unit_there p within;
    installable = λ k d h. absurd (omega (arith, h, ap length nothing));
  }

  -- a package whose unit needs another that is not installable can't be built
  pub lacks_one : (held : ℕ → Bool) (p d : ℕ) → p < length tree → (unit_with tree none p).build ≡ d ∷ [] → (IsInstallable tree held d → ⊥) → ¬ CanBeBuilt tree held p
  lacks_one held p d within needs lacking can =
      let build : can.unit.build ≡ d ∷ [] = ap (λ (u : Unit). u.build) (one_unit tree p can.unit (unit_with tree none p) can.of_unit (unit_there p within)) ∙ needs in
      lacking (subst (All (IsInstallable tree held)) build can.installable 0 d (omega arith))

-- A line with four fields.
use Rattle.std.proofs.Common.{◌≡◌, ◌<◌, ◌==◌, ◌∙◌, ℕ, ◌∷◌, arith, length, sym}
use Rattle.std.proofs.lemmas.List.Splits.{length-slice_split}
use Rattle.claims.specs.declared.deps.Dep.{Dep}
use Rattle.faults.specs.Bytes.{Text, blank}
use Rattle.faults.specs.Pieces.{pieces_at}
use Rattle.package_lists.specs.List.{Names, Says}
use Rattle.package_lists.specs.inside.Signatures.{AreFieldsOf, IsSignature}
use Rattle.package_lists.specs.declared.list_line.ListLine.{ListLine}
use Rattle.package_lists.specs.declared.list_line.ListLine.TheVariants.{Package, Built}

-- a text has at least one piece
pub some_pieces : (b : ℕ) (t : Text) → 0 < length (pieces_at b t)
some_pieces b t = omega (arith, length-slice_split (λ c. c == b) t)

module _ (line word behind : Text) (cut : pieces_at blank line ≡ word ∷ pieces_at blank behind) where
  named : (other : Text) (d : Dep) → Names other line d → IsSignature behind d
  named other d names =
      let parts = sym cut ∙ names.fields in
      let fields : AreFieldsOf behind names.path names.name names.digest = cc in
      record { path = names.path; name = names.name; digest = names.digest; fields = fields; spelled = names.spelled }

  -- a line whose rest after the first field is not a signature is not one of a list
  pub not_spelled : ((d : Dep) → ¬ IsSignature behind d) → (s : ListLine) → Says line s → ⊥
  not_spelled none (Package d) says = none d (named _ d says)
  not_spelled none (Built d) says = none d (named _ d says)

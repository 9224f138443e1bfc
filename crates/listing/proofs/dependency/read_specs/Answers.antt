use Rattle.std.proofs.Common.{◌≡◌, ◌++◌, ◌∷◌, [], Ok, true, false, map, codes, ap, sym, ◌∙◌}
use Rattle.std.proofs.lemmas.List.{append-nil}
use Rattle.pkgspec.specs.Spec.{spec_of}
use Rattle.listing.specs.inside.Parts.{filled}
use Rattle.listing.proofs.Fields.{both_said, filled_by, none_said, one_said}
use Rattle.listing.proofs.dependency.read_specs.Goals as goal
use Rattle.listing.proofs.dependency.read_specs.Goals.{then-not-is_empty+in_ok-read_spec+in_ok-push, else-not-is_empty, then-not-is_empty-2+in_ok-read_bounds+in_ok-push-2, else-not-is_empty-2}

pub returns : goal.returns
returns c =
    let before = c.args.before.now in
    let bounds = c.args.bounds.now in
    let first = c.if-not-is_empty.specs.items in
    let all = c.if-not-is_empty-2.specs.items in
    let meant = map (λ b. codes "STEM-" ++ b) in
    let front : map spec_of (filled (before ∷ [])) ≡ map Ok first =
    elim c.if-not-is_empty.branch [
      | then-not-is_empty+in_ok-read_spec+in_ok-push w ↦
          one_said (filled (before ∷ [])) before first w.in_ok-read_spec.field-0
          (filled_by before c.is_empty.result false c.is_empty.ensures w.if-not-is_empty.true) w.in_ok-read_spec.ensures
          (ap (λ v. v.items) w.specs-is ∙ w.in_ok-push.ensures.items ∙ ap (λ xs. xs ++ w.in_ok-read_spec.field-0 ∷ []) c.new-specs.ensures.items)
      | else-not-is_empty w ↦
          none_said (filled (before ∷ [])) first
          (filled_by before c.is_empty.result true c.is_empty.ensures w.if-not-is_empty.false)
          (ap (λ v. v.items) w.specs-is ∙ c.new-specs.ensures.items)
    ] in
    elim c.if-not-is_empty-2.branch [
      | then-not-is_empty-2+in_ok-read_bounds+in_ok-push-2 w ↦
          both_said (filled (before ∷ [])) (meant (filled (bounds ∷ []))) first (w.in_ok-read_bounds.field-0 ∷ []) all front
          (one_said (meant (filled (bounds ∷ []))) (codes "STEM-" ++ bounds) (w.in_ok-read_bounds.field-0 ∷ []) w.in_ok-read_bounds.field-0
          (ap meant (filled_by bounds c.is_empty-2.result false c.is_empty-2.ensures w.if-not-is_empty-2.true))
          w.in_ok-read_bounds.ensures (λ i. w.in_ok-read_bounds.field-0 ∷ []))
          (ap (λ v. v.items) w.specs-is ∙ w.in_ok-push-2.ensures.items)
      | else-not-is_empty-2 w ↦
          both_said (filled (before ∷ [])) (meant (filled (bounds ∷ []))) first [] all front
          (none_said (meant (filled (bounds ∷ []))) []
          (ap meant (filled_by bounds c.is_empty-2.result true c.is_empty-2.ensures w.if-not-is_empty-2.false))
          (λ i. []))
          (ap (λ v. v.items) w.specs-is ∙ sym (append-nil first))
    ]

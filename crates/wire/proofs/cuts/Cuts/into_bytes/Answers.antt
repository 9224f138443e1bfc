use Rattle.std.proofs.Common.{◌≡◌, ◌≤◌, [], ◌∷◌, ◌++◌, length, sym, ap, subst, arith, ◌∙◌}
use Rattle.std.specs.Vec.{vec_len}
use Rattle.std.proofs.lemmas.Bool.{eqb-false}
use Rattle.std.proofs.lemmas.List.{length-append}
use Rattle.faults.specs.Bytes.{Text}
use Rattle.package_record.specs.Content.{most_bytes}
use Rattle.wire.specs.inside.Cuts.{AreCuts}
use Rattle.wire.proofs.CutTexts.{are_cuts_full, are_cuts_last, joined}
use Rattle.wire.proofs.cuts.Cuts.into_bytes.Goals.{then-not-is_empty+in_ok-last+in_ok-push, else-not-is_empty}
use Rattle.wire.proofs.cuts.Cuts.into_bytes.Goals as goal

pub returns-clause-cuts : goal.returns-clause-cuts
returns-clause-cuts c =
    let full = c.args.self.full.items in
    let last = c.args.self.last.items in
    elim c.if-not-is_empty.branch [
      | then-not-is_empty+in_ok-last+in_ok-push w ↦
          let some : 1 ≤ length last = omega (arith, eqb-false (vec_len c.args.self.last) 0 (sym c.is_empty.ensures ∙ w.if-not-is_empty.true), c.args.self.last.ok.0) in
          let made : w.new.result ≡ last = w.new.ensures ∙ w.in_ok-last.ensures.items ∙ w.as_slice.ensures.value in
          let items = ap (λ v. v.items) w.full-is ∙ w.in_ok-push.ensures.items ∙ ap (λ (t : Text). full ++ t ∷ []) made in
          subst AreCuts (sym items) (are_cuts_last full last c.requires.cut.0 some c.requires.cut.1 c.requires.few)
      | else-not-is_empty w ↦
          let few : length (joined full) ≤ most_bytes = omega (arith, c.requires.few, length-append (joined full) last) in
          subst AreCuts (sym (ap (λ v. v.items) w.full-is)) (are_cuts_full full c.requires.cut.0 few)
    ]

use Rattle.std.proofs.Common.{◌≡◌, ◌<◌, ◌==◌, ℕ, false, length, slice_index, MatchOption, subst, sym, ◌∙◌}
use Rattle.std.proofs.lemmas.Bool.{eqb-true}
use Rattle.faults.specs.Bytes.{dot}
use Rattle.listing.specs.Lines.{is_cut}
use Rattle.listing.specs.inside.Parts.{AreParts}
use Rattle.listing.proofs.Found.{none_behind, none_found}
use Rattle.listing.proofs.LineLemmas.{dot_cuts, no_dot, path_text_at, value_text_is, variable_text_at}
use Rattle.listing.proofs.line.parts_of.Goals as goal

pub returns-in_err-dot : goal.returns-in_err-dot
returns-in_err-dot c =
    let line = c.args.line.now in
    let key = c.in_ok-key.key.now in
    let cut = c.in_ok-key.ensures.halves in
    let none : (k : ℕ) → k < length key → (slice_index key k == dot) ≡ false =
    none_found (λ b. b == dot) key c.in_err-dot.ensures in
    subst (λ r. MatchOption r (is_cut line ≡ false) (AreParts line)) (sym c.from_residual-in_err-dot.ensures)
    (no_dot line key c.in_ok-key.value.now cut.0 cut.1 none)

pub returns : goal.returns
returns c =
    let line = c.args.line.now in
    let key = c.in_ok-key.key.now in
    let value = c.in_ok-key.value.now in
    let j = c.in_ok-dot.dot in
    let cut = c.in_ok-key.ensures.halves in
    let found = c.in_ok-dot.ensures in
    let here : slice_index key j ≡ dot = eqb-true (slice_index key j) dot found.1 in
    let last = none_behind (λ b. b == dot) key j found.0.after in
    record {
      cut = dot_cuts line key value cut.0 cut.1 j found.0.high here;
      path = path_text_at line key value cut.0 cut.1 j found.0.high here last;
      variable = variable_text_at line key value cut.0 cut.1 j found.0.high here last;
      value = c.trimmed.ensures ∙ value_text_is line key value cut.0 cut.1;
    }

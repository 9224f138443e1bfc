use Rattle.std.proofs.Common.{◌∙◌, ◌+◌, Bool, Bor, List, [], ◌∷◌, ◌++◌, take, get_or, ap, inl, inr, subst, sym}
use Rattle.std.proofs.lemmas.Result.{err_from_is_err_and}
use Rattle.faults.specs.Bytes.{Text}
use Rattle.listing.specs.Lines.{Line, lines_of}
use Rattle.dpbr_status.proofs.Holding.{HasHeld, line_held, line_skipped, none_held}
use Rattle.dpbr_status.proofs.NumberedLines.{line_next, line_stands, lines_end, no_bytes}
use Rattle.dpbr_status.proofs.held.held_marks.Goals as goal
use Rattle.dpbr_status.proofs.held.held_marks.Goals.{then-not-is_empty+in_ok-position, else-not-is_empty}

pub loop-index-init : goal.loop-index-init
loop-index-init c = none_held c.args.tree.now c.len.result c.in_ok-held.held.items c.len.ensures.count (c.in_ok-held.ensures.items_if_clones_equal (λ y e. e))

pub loop-index-preserved : goal.loop-index-preserved
loop-index-preserved c =
    let items = c.deref-line-items.result.now in
    let are = rw (← c.deref-line-items.ensures.value) at c.in_ok-lines.ensures in
    let i = c.loop-index.index in
    let none : Bor Text = record { ref_ptr = (0, 0); now = [] } in
    let before = take i (lines_of c.args.text.now) in
    let line : Line = (i + 1, (get_or items i none).now) in
    let marks = c.loop-index.held.items in
    let next = line_next c.args.text.now items are i none c.loop-index-test.true in
    let P : List Line → Type 0 = λ lines. HasHeld c.args.tree.now lines c.if-not-is_empty.held.items in
    let Q : List Bool → Type 0 = HasHeld c.args.tree.now (before ++ line ∷ []) in
    subst P (sym next) (elim c.if-not-is_empty.branch [
      | then-not-is_empty+in_ok-position w ↦
          subst Q (sym (ap (λ v. v.items) w.held-is))
          (line_held c.args.tree.now c.len.ensures.tree before marks line w.in_ok-position.position c.loop-index.invariant w.in_ok-position.ensures.ok)
      | else-not-is_empty w ↦
          subst Q (sym (ap (λ v. v.items) w.held-is))
          (line_skipped c.args.tree.now before marks line c.loop-index.invariant (no_bytes line.1 (sym c.is_empty.ensures ∙ w.if-not-is_empty.false)))
    ])

pub returns-in_err-position-clause-refused : goal.returns-in_err-position-clause-refused
returns-in_err-position-clause-refused c =
    let items = c.deref-line-items.result.now in
    let are = rw (← c.deref-line-items.ensures.value) at c.in_ok-lines.ensures in
    let i = c.loop-index.index in
    let none : Bor Text = record { ref_ptr = (0, 0); now = [] } in
    let p = err_from_is_err_and c.from_residual-in_err-position.result c.from_residual-in_err-position.ensures.1 in
    rw (p.1, p.2) (elim c.in_err-position.ensures.err [
      | inl memory ↦ inl memory
      | inr fault ↦ inr (record {
        place = i;
        line = (i + 1, (get_or items i none).now);
        stands = line_stands c.args.text.now items are i none c.loop-index-test.true;
        fault = fault;
        before = c.loop-index.invariant.faultless;
      })
    ])

pub returns-clause-held : goal.returns-clause-held
returns-clause-held c =
    let items = c.deref-line-items.result.now in
    let are = rw (← c.deref-line-items.ensures.value) at c.in_ok-lines.ensures in
    let P : List Line → Type 0 = λ lines. HasHeld c.args.tree.now lines c.loop-index.held.items in
    let held = subst P (lines_end c.args.text.now items are c.loop-index.index c.loop-index-test.false) c.loop-index.invariant in
    record { faultless = held.faultless; named = held.named }

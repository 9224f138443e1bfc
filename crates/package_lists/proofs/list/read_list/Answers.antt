use Rattle.std.proofs.Common.{◌∙◌, inl, inr, subst, sym}
use Rattle.std.proofs.lemmas.Result.{err_from_is_err_and}
use Rattle.package_lists.specs.List.{IsFirstBadLine}
use Rattle.package_lists.specs.declared.list.ListFault.{ListFault}
use Rattle.package_lists.proofs.Lines.{all_read, last_bad, last_read, line_bad, line_read}
use Rattle.package_lists.proofs.list.read_list.Goals as goal
use Rattle.package_lists.proofs.list.read_list.Goals.{then-not-is_empty+in_ok-with_line-2, else-not-is_empty}

pub lines-preserved : goal.lines-preserved
lines-preserved c =
    line_read c.args.text.now c.lines.left.now c.lines.number c.lines.packages c.lines.invariant c.in-Some.line.now c.in-Some.behind.now
    c.in-Some.ensures.pieces c.in_ok-with_line.field-0 c.in-Some.ensures.shorter c.in_ok-with_line.ensures.ok

pub returns-in_err-with_line-clause-refused : goal.returns-in_err-with_line-clause-refused
returns-in_err-with_line-clause-refused c =
    let bad = line_bad c.args.text.now c.lines.left.now c.lines.number c.lines.packages c.lines.invariant c.in-Some.line.now c.in-Some.behind.now
    c.in-Some.ensures.pieces in
    let p = err_from_is_err_and c.from_residual.result c.from_residual.ensures.1 in
    rw (p.1, p.2) (elim c.in_err-with_line.ensures.err [
      | inl memory ↦ inl memory
      | inr fault ↦ inr (subst (λ (e : ListFault). IsFirstBadLine c.args.text.now e) (sym fault.0) (bad fault.1))
    ])

pub returns-in_err-with_line-2-clause-refused : goal.returns-in_err-with_line-2-clause-refused
returns-in_err-with_line-2-clause-refused c =
    let some = sym c.is_empty.ensures ∙ c.if-not-is_empty.true in
    let bad = last_bad c.args.text.now c.lines.left.now c.lines.number c.lines.packages c.lines.invariant c.in_default.ensures.pieces some in
    let p = err_from_is_err_and c.from_residual-in_err-with_line-2.result c.from_residual-in_err-with_line-2.ensures.1 in
    rw (p.1, p.2) (elim c.in_err-with_line-2.ensures.err [
      | inl memory ↦ inl memory
      | inr fault ↦ inr (subst (λ (e : ListFault). IsFirstBadLine c.args.text.now e) (sym fault.0) (bad fault.1))
    ])

pub returns-clause-entries : goal.returns-clause-entries
returns-clause-entries c =
    rw c.in_ok-entries.ensures (elim c.if-not-is_empty.branch [
      | then-not-is_empty+in_ok-with_line-2 w ↦ rw w.packages-is (last_read c.args.text.now c.lines.left.now c.lines.number c.lines.packages c.lines.invariant c.in_default.ensures.pieces
          w.in_ok-with_line-2.field-0 (sym c.is_empty.ensures ∙ w.if-not-is_empty.true) w.in_ok-with_line-2.ensures.ok)
      | else-not-is_empty w ↦ rw w.packages-is (all_read c.args.text.now c.lines.left.now c.lines.number c.lines.packages c.lines.invariant c.in_default.ensures.pieces
          (sym c.is_empty.ensures ∙ w.if-not-is_empty.false))
    ])

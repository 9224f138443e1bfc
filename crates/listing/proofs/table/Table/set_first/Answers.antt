use Rattle.std.proofs.Common.{◌≡◌, ◌<◌, ◌++◌, ◌∷◌, [], false, refl, ap, sym, subst, ◌∙◌, inl, inr, arith, length}
use Rattle.std.specs.List.{list_any}
use Rattle.std.specs.Str.{bytes_eq}
use Rattle.std.proofs.lemmas.Result.{MatchResult-weaker, err_from_is_err_and}
use Rattle.pkgpath.specs.PkgPath.{IsPath}
use Rattle.listing.specs.inside.Table.{new_row, setting, with_value}
use Rattle.listing.specs.Tree.{most_paths}
use Rattle.listing.specs.declared.table.Value.{Value}
use Rattle.listing.proofs.Rows.{anew_first, fault_many, fault_value, inserted_new, no_fault, not_too_many, one_too_many, rows_moved, rows_push}
use Rattle.listing.proofs.table.Table.set_first.Goals as goal

pub returns-then-len-ge-MOST_PATHS : goal.returns-then-len-ge-MOST_PATHS
returns-then-len-ge-MOST_PATHS c = λ earlier h.
    let s = setting c.args.line c.args.path c.args.variable c.args.text.now in
    inr (fault_many earlier s (one_too_many earlier c.args.self.now.dependencies c.args.self.now.paths.keys c.args.self.now.rows.items s h c.requires.new
    (omega (arith, c.len.ensures.len, c.if-len-ge-MOST_PATHS.true))))

pub returns-in_err-reading : goal.returns-in_err-reading
returns-in_err-reading c = λ earlier h.
    let room : length c.args.self.now.paths.keys < most_paths = omega (arith, c.len.ensures.len, c.if-len-ge-MOST_PATHS.false) in
    let s = setting c.args.line c.args.path c.args.variable c.args.text.now in
    let few = not_too_many earlier c.args.self.now.dependencies c.args.self.now.paths.keys c.args.self.now.rows.items s h (inr room) in
    let p = err_from_is_err_and c.from_residual.result c.from_residual.ensures.1 in
    rw (p.1, p.2) (elim c.in_err-reading.ensures.answer [ inl m ↦ inl m | inr bad ↦ inr (fault_value earlier s c.in_err-reading.field-0.0 few bad) ])

pub returns : goal.returns
returns c = λ earlier h.
    let s = setting c.args.line c.args.path c.args.variable c.args.text.now in
    let words = c.args.self.now.dependencies in
    let more = c.read_value.new.self.dependencies in
    let keys = c.read_value.new.self.paths.keys in
    let rows = c.read_value.new.self.rows.items in
    let same : keys ≡ c.args.self.now.paths.keys = ap (λ k. k.keys) c.read_value.ensures.paths in
    let here = rows_moved earlier words words c.args.self.now.paths.keys keys c.args.self.now.rows.items rows refl (sym same) (sym (ap (λ r. r.items) c.read_value.ensures.rows)) h in
    let new : list_any (bytes_eq c.args.path) keys ≡ false = ap (list_any (bytes_eq c.args.path)) same ∙ c.requires.new in
    let room : length keys < most_paths = omega (arith, ap length same, c.len.ensures.len, c.if-len-ge-MOST_PATHS.false) in
    let few = not_too_many earlier words keys rows s here (inr room) in
    let x : Value = record { text = c.args.text; reading = c.in_ok-reading.reading } in
    let good = c.in_ok-reading.ensures.answer in
    MatchResult-weaker c.add.result c.add.ensures
    (λ _ ok. (
      no_fault earlier s few good.0 (anew_first earlier words keys rows c.args.path c.args.line c.args.variable c.args.text.now here new),
      rows_moved (earlier ++ s ∷ []) more _ (keys ++ c.args.path ∷ []) _ (rows ++ with_value (new_row c.args.line c.args.spelled) c.args.variable x ∷ []) _
          (sym ok.2) (sym (ok.0 ∙ inserted_new keys c.args.path new)) (sym ok.1)
          (rows_push earlier words more keys rows c.args.line c.args.path c.args.spelled c.args.variable x here new room
          (subst IsPath c.path.view_is c.path.invariant) c.requires.spells c.read_value.ensures.grows good.1),
    ))
    (λ e m. inl m)

use Rattle.std.proofs.Common.{◌≡◌, ◌<◌, ◌++◌, ◌∷◌, [], true, false, refl, Some, ap, sym, subst, ◌∙◌, inl, inr, length, get_or}
use Rattle.std.specs.Str.{bytes_eq}
use Rattle.std.proofs.lemmas.Result.{MatchResult-weaker, err_from_is_err_and}
use Rattle.listing.specs.inside.Table.{AreRowsOf, no_row, setting}
use Rattle.listing.specs.declared.table.Row.{Row}
use Rattle.listing.specs.declared.table.Value.{Value}
use Rattle.listing.proofs.Rows.{anew_there, fault_anew, fault_value, listed_at, no_fault, not_too_many, rows_moved, rows_set}
use Rattle.listing.proofs.Settings.{eq_self}
use Rattle.listing.proofs.table.Table.set_at.Goals as goal

pub returns-in_err-reading : goal.returns-in_err-reading
returns-in_err-reading c = λ earlier h.
    let keys = c.args.self.now.paths.keys in
    let path = get_or keys c.args.position [] in
    let s = setting c.args.line path c.args.variable c.args.text.now in
    let there = listed_at keys path c.args.position c.requires.listed (eq_self path) in
    let few = not_too_many earlier c.args.self.now.dependencies keys c.args.self.now.rows.items s h (inl there) in
    let p = err_from_is_err_and c.from_residual.result c.from_residual.ensures.1 in
    rw (p.1, p.2) (elim c.in_err-reading.ensures.answer [ inl m ↦ inl m | inr bad ↦ inr (fault_value earlier s c.in_err-reading.field-0.0 few bad) ])

pub returns : goal.returns
returns c = λ earlier h.
    let words = c.args.self.now.dependencies in
    let old = c.args.self.now.paths.keys in
    let keys = c.read_value.new.self.paths.keys in
    let rows = c.read_value.new.self.rows.items in
    let i = c.args.position in
    let path = get_or old i [] in
    let s = setting c.args.line path c.args.variable c.args.text.now in
    let same : keys ≡ old = ap (λ k. k.keys) c.read_value.ensures.paths in
    let here = rows_moved earlier words words old keys c.args.self.now.rows.items rows refl (sym same) (sym (ap (λ r. r.items) c.read_value.ensures.rows)) h in
    let place : (i < length keys) × (bytes_eq path (get_or keys i []) ≡ true) =
    subst (λ ks. (i < length ks) × (bytes_eq path (get_or ks i []) ≡ true)) (sym same) (c.requires.listed, eq_self path) in
    let few = not_too_many earlier words keys rows s here (inl (listed_at keys path i place.0 place.1)) in
    let x : Value = record { text = c.args.text; reading = c.in_ok-reading.reading } in
    let d : Row = no_row in
    let good = c.in_ok-reading.ensures.answer in
    MatchResult-weaker c.set_in.result (c.set_in.ensures d)
    (λ _ ok. (
      no_fault earlier s few good.0 (anew_there earlier words keys rows path i c.args.line c.args.variable c.args.text.now d false here place ok.1),
      subst (AreRowsOf (earlier ++ s ∷ []) c.read_value.new.self.dependencies keys) (sym ok.0)
          (rows_set earlier words c.read_value.new.self.dependencies keys rows c.args.line path c.args.variable x i d here place
          c.read_value.ensures.grows good.1),
    ))
    (λ e bad. inr (fault_anew earlier s few good.0
    (anew_there earlier words keys rows path i c.args.line c.args.variable c.args.text.now d true here place bad.0) ∙ ap Some (sym bad.1)))

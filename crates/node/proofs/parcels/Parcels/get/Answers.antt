use Rattle.std.proofs.Common.{◌≡◌, ◌≤◌, ◌/◌, arith, length, sym, ◌∙◌}
use Rattle.std.proofs.lemmas.List.{length-map}
use Rattle.node.specs.Parcels.{texts_in}
use Rattle.node.proofs.Places.{none_behind, none_without, one_stands}
use Rattle.node.proofs.parcels.Parcels.get.Goals as goal

pub returns-then-count-eq0 : goal.returns-then-count-eq0
returns-then-count-eq0 c =
    let inside = c.self.inside in
    let none = none_without inside.receivers.items (texts_in inside.texts.items) c.args.place (length-map inside.texts.items (λ t. t.items) ∙ sym inside.texts.ok.0 ∙ sym c.len-count.ensures ∙ c.if-count-eq0.true) in
    sym (rw (← c.self.view_is) none)

pub returns-in_err-to : goal.returns-in_err-to
returns-in_err-to c =
    let inside = c.self.inside in
    let count : c.len-count.result ≡ length inside.texts.items = c.len-count.ensures ∙ inside.texts.ok.0 in
    let past : length inside.receivers.items ≤ c.args.place / c.len-count.result = rw (← c.deref.ensures.value) c.in_err-to.ensures.lookup.3 in
    rw (← c.self.view_is, c.from_residual.ensures) (sym (none_behind inside.receivers.items inside.texts.items c.len-count.result c.args.place count (omega arith) past))

pub returns : goal.returns
returns c =
    let inside = c.self.inside in
    let count : c.len-count.result ≡ length inside.texts.items = c.len-count.ensures ∙ inside.texts.ok.0 in
    let to = rw c.deref.ensures.value at c.in_ok-to.ensures.lookup.3 in
    let text = rw c.deref-2.ensures.value at c.in_ok-text.ensures.lookup.3 in
    let one = one_stands inside.receivers.items inside.texts.items c.len-count.result c.args.place c.in_ok-to.to.now c.in_ok-text.text.now count (omega arith) to.0 (to.1 _) text.0 (text.1 _) in
    rw (← c.self.view_is, c.as_slice.ensures.value) one

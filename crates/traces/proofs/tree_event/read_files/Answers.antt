use Rattle.std.proofs.Common.{◌≡◌, ◌+◌, ◌++◌, ◌∷◌, [], List, ap, drop, map, sym, subst, ◌∙◌}
use Rattle.std.proofs.lemmas.List.{map-append}
use Rattle.json.proofs.Trees.{view-Array}
use Rattle.json.specs.Json as json
use Rattle.json.specs.Value.{items_view, value_view}
use Rattle.package_record.specs.Content.{NamedFile}
use Rattle.package_record.specs.FileView.{file_view}
use Rattle.traces.specs.Fields.{files_in}
use Rattle.traces.specs.inside.Trees.{Reads}
use Rattle.traces.proofs.TreeEvents.{ReadsItems, items_done, items_more}
use Rattle.traces.proofs.tree_event.read_files.Goals as goal

pub loop-item-preserved : goal.loop-item-preserved
loop-item-preserved c =
    let vs = c.deref-item-items.result.now in
    let grown : map file_view c.push.new.self.items ≡ map file_view c.loop-item.files.items ++ file_view c.in_ok-read_file.field-0 ∷ [] = ap (map file_view) c.in_ok-push.ensures.items ∙ map-append file_view c.loop-item.files.items (c.in_ok-read_file.field-0 ∷ []) in
    subst (λ done. (fs : List NamedFile) → ReadsItems (drop (c.loop-item.item-index + 1) vs) fs → ReadsItems vs (done ++ fs)) (sym grown)
    (items_more vs c.loop-item.item-index c.item-item.result (file_view c.in_ok-read_file.field-0) (map file_view c.loop-item.files.items) c.loop-item-test.true c.item-item.is c.in_ok-read_file.ensures c.loop-item.invariant)

pub returns : goal.returns
returns c =
    let vs = c.deref-item-items.result.now in
    let is : value_view c.args.value.now ≡ json.array (items_view vs) = ap value_view c.in-Array.is ∙ view-Array c.in-Array.items ∙ ap (λ ws. json.array (items_view ws)) (sym c.deref-item-items.ensures.value) in
    subst (λ j. Reads files_in j c.new.result) (sym is)
    (subst (Reads files_in (json.array (items_view vs))) (sym c.new.ensures)
    (items_done vs c.loop-item.item-index (map file_view c.loop-item.files.items) c.loop-item-test.false c.loop-item.invariant))

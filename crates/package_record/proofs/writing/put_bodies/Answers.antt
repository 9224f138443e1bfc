use Rattle.std.proofs.Common.{◌≡◌, ℕ, ◌+◌, ◌<◌, List, [], ◌∷◌, ◌++◌, length, get_or, take, flat_map, map, sym, ap, ◌∙◌}
use Rattle.std.proofs.lemmas.List.{flat_map_more, map-append, take_more}
use Rattle.package_record.specs.FileView.{file_view}
use Rattle.package_record.proofs.writing.put_bodies.Goals as goal

-- the pieces of one more item
next_piece : {X Y A : Type 0} (v : X → Y) (f : Y → List A) (old mid new : List A) (xs : List X) (i : ℕ) (x : X) → i < length xs → x ≡ get_or xs i x
    → mid ≡ old ++ flat_map f (map v (take i xs)) → new ≡ mid ++ f (v x) → new ≡ old ++ flat_map f (map v (take (i + 1) xs))
next_piece v f old mid new xs i x lt e before piece =
    piece ∙ ap (λ t. t ++ f (v x)) before ∙ flat_map_more f old (map v (take i xs)) (v x)
    ∙ sym (ap (λ ys. old ++ flat_map f (map v ys)) (take_more xs i x lt ∙ ap (λ y. take i xs ++ y ∷ []) (sym e)) ∙ ap (λ ys. old ++ flat_map f ys) (map-append v (take i xs) (x ∷ [])))

pub loop-file-preserved : goal.loop-file-preserved
loop-file-preserved c =
    next_piece file_view (λ f. f.bytes) _ _ _ c.args.files.now c.loop-file.file-index c.file-item.result c.loop-file-test.true c.file-item.is c.loop-file.invariant (rw c.as_slice.ensures.value at c.in_ok-extend_from_slice.ensures.items)

-- Lists that are stored one after another.
use Rattle.std.proofs.Common.{◌≡◌, ◌-◌, ℕ, suc, List, [], ◌∷◌, ◌++◌, drop, length, take, refl, sym, ap, ◌∙◌, inl, inr, arith, length-append, length-drop}
use Rattle.std.proofs.lemmas.Bool.{cases_lt}
use Rattle.std.proofs.lemmas.List.{drop-append-le, drop_at, get_or_append_left, get_or_push, length_push, map_push, take-append-le, take_all}
use Rattle.graph.specs.declared.reversed.Range.{Range}
use Rattle.graph.specs.inside.Ranges.{AreWithin, IsWithin, part, parts}

-- a list stays the same when names are appended to the block
pub part-append : (names more : List ℕ) (range : Range) → IsWithin names range → part (names ++ more) range ≡ part names range
part-append names more range within =
    ap (take (range.to - range.from)) (drop-append-le range.from names more (omega (arith, within.from, within.to)))
    ∙ take-append-le (range.to - range.from) (drop range.from names) more (omega (arith, length-drop range.from names, within.from, within.to))

pub parts-append : (names more : List ℕ) (ranges : List Range) → AreWithin names ranges → parts (names ++ more) ranges ≡ parts names ranges
parts-append names more [] within = refl
parts-append names more (range ∷ ranges) within =
    ap (λ ps. ps ∷ parts (names ++ more) ranges) (part-append names more range (within 0 range (omega arith)))
    ∙ ap (λ lists. part names range ∷ lists) (parts-append names more ranges (λ k d inside. within (suc k) d (omega (arith, inside))))

-- the list that was appended
pub part-last : (names more : List ℕ) (range : Range) → range.from ≡ length names → range.to ≡ length (names ++ more) → part (names ++ more) range ≡ more
part-last names more range from to =
    ap (take (range.to - range.from)) (drop_at names more range.from (sym from))
    ∙ take_all (range.to - range.from) more (omega (arith, from, to, length-append names more))

pub parts-more : (names more : List ℕ) (ranges : List Range) (range : Range) → AreWithin names ranges → range.from ≡ length names → range.to ≡ length (names ++ more)
    → parts (names ++ more) (ranges ++ range ∷ []) ≡ parts names ranges ++ more ∷ []
parts-more names more ranges range within from to =
    map_push (part (names ++ more)) ranges range
    ∙ ap (λ lists. lists ++ part (names ++ more) range ∷ []) (parts-append names more ranges within)
    ∙ ap (λ ps. parts names ranges ++ ps ∷ []) (part-last names more range from to)

pub AreWithin-more : (names more : List ℕ) (ranges : List Range) (range : Range) → AreWithin names ranges → range.from ≡ length names → range.to ≡ length (names ++ more)
    → AreWithin (names ++ more) (ranges ++ range ∷ [])
AreWithin-more names more ranges range within from to = λ k d inside. elim (cases_lt k (length ranges)) [
  | inl before ↦
      let old = within k d before in
      rw (get_or_append_left ranges (range ∷ []) d k before) (record {
        from = old.from;
        to = omega (arith, old.to, length-append names more);
      })
  | inr past ↦
      let last : length ranges ≡ k = omega (arith, past, inside, length_push ranges range) in
      rw (get_or_push ranges range d k last) (record {
        from = omega (arith, from, to, length-append names more);
        to = omega (arith, to);
      })
]

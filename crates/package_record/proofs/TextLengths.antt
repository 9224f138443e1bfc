-- The lengths of the texts of builds, part by part.
use Rattle.std.proofs.Common.{◌≡◌, ◌<◌, ◌≤◌, ◌+◌, ℕ, zero, suc, List, [], ◌∷◌, ◌++◌, flat_map, get_or, length, map, take, sym, ap, ◌∙◌, arith}
use Rattle.std.proofs.lemmas.List.{length-append, map-append, take_more}
use Rattle.package_record.specs.Build.{records_text}
use Rattle.package_record.specs.Content.{Content, NamedFile, record_text}
use Rattle.package_record.proofs.BuildTexts.{text_push}

-- the texts of the first records are not longer than those of all
pub part_within : (cs : List Content) (n : ℕ)
    → length (records_text (take n cs)) ≤ length (records_text cs)
part_within [] zero = omega arith
part_within [] (suc n) = omega arith
part_within (c ∷ cs) zero = omega arith
part_within (c ∷ cs) (suc n) =
    let rest = part_within cs n in
    let part = length-append (record_text c) (records_text (take n cs)) in
    let all = length-append (record_text c) (records_text cs) in
    omega (arith, rest, part, all)

-- one record more
pub one_more_record : (cs : List Content) (i : ℕ) (c : Content) → i < length cs
    → c ≡ get_or cs i c
    → length (records_text (take (i + 1) cs))
    ≡ length (records_text (take i cs)) + length (record_text c)
one_more_record cs i c lt here =
    ap (λ (ds : List Content). length (records_text ds))
    (take_more cs i c lt ∙ ap (λ (d : Content). take i cs ++ d ∷ []) (sym here))
    ∙ text_push (take i cs) c

pub files_within : (fs : List NamedFile) (n : ℕ)
    → length (flat_map (λ (f : NamedFile). f.bytes) (take n fs))
    ≤ length (flat_map (λ (f : NamedFile). f.bytes) fs)
files_within [] zero = omega arith
files_within [] (suc n) = omega arith
files_within (f ∷ fs) zero = omega arith
files_within (f ∷ fs) (suc n) =
    let rest = files_within fs n in
    let part = length-append f.bytes (flat_map (λ (g : NamedFile). g.bytes) (take n fs)) in
    let all = length-append f.bytes (flat_map (λ (g : NamedFile). g.bytes) fs) in
    omega (arith, rest, part, all)

files_push : (fs : List NamedFile) (f : NamedFile)
    → length (flat_map (λ (g : NamedFile). g.bytes) (fs ++ f ∷ []))
    ≡ length (flat_map (λ (g : NamedFile). g.bytes) fs) + length f.bytes
files_push [] f = omega (arith, length-append f.bytes [])
files_push (g ∷ fs) f =
    omega (
      arith,
      length-append g.bytes (flat_map (λ (h : NamedFile). h.bytes) (fs ++ f ∷ [])),
      length-append g.bytes (flat_map (λ (h : NamedFile). h.bytes) fs),
      files_push fs f,
    )

-- one file more
pub one_more_file : (fs : List NamedFile) (i : ℕ) (f : NamedFile) → i < length fs
    → f ≡ get_or fs i f
    → length (flat_map (λ (g : NamedFile). g.bytes) (take (i + 1) fs))
    ≡ length (flat_map (λ (g : NamedFile). g.bytes) (take i fs)) + length f.bytes
one_more_file fs i f lt here =
    ap (λ (gs : List NamedFile). length (flat_map (λ (g : NamedFile). g.bytes) gs))
    (take_more fs i f lt ∙ ap (λ (g : NamedFile). take i fs ++ g ∷ []) (sym here))
    ∙ files_push (take i fs) f

-- likewise, with a view of the items as files
pub some_within : {X : Type 0} (v : X → NamedFile) (xs : List X) (n : ℕ)
    → length (flat_map (λ (g : NamedFile). g.bytes) (map v (take n xs)))
    ≤ length (flat_map (λ (g : NamedFile). g.bytes) (map v xs))
some_within v [] zero = omega arith
some_within v [] (suc n) = omega arith
some_within v (x ∷ xs) zero = omega arith
some_within v (x ∷ xs) (suc n) =
    let rest = some_within v xs n in
    let part = length-append (v x).bytes
    (flat_map (λ (g : NamedFile). g.bytes) (map v (take n xs))) in
    let all = length-append (v x).bytes (flat_map (λ (g : NamedFile). g.bytes) (map v xs)) in
    omega (arith, rest, part, all)

-- and one more of these
pub some_more : {X : Type 0} (v : X → NamedFile) (xs : List X) (i : ℕ) (x : X) → i < length xs
    → x ≡ get_or xs i x
    → length (flat_map (λ (g : NamedFile). g.bytes) (map v (take (i + 1) xs)))
    ≡ length (flat_map (λ (g : NamedFile). g.bytes) (map v (take i xs))) + length (v x).bytes
some_more v xs i x lt here =
    ap (λ l. length (flat_map (λ (g : NamedFile). g.bytes) (map v l)))
    (take_more xs i x lt ∙ ap (λ y. take i xs ++ y ∷ []) (sym here))
    ∙ ap (λ (l : List NamedFile). length (flat_map (λ (g : NamedFile). g.bytes) l))
    (map-append v (take i xs) (x ∷ []))
    ∙ files_push (map v (take i xs)) (v x)

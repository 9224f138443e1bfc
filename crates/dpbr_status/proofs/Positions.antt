-- The position of the package with a path.
use Rattle.std.proofs.Common.{◌≡◌, ◌<◌, ◌∙◌, ℕ, Bool, true, false, cond, length, Some, None, Ok, arith, ap, sym, refl, true≢false}
use Rattle.std.specs.List.{position, position_or_len}
use Rattle.std.specs.Prelude.{nat_lt}
use Rattle.std.specs.Str.{bytes_eq}
use Rattle.std.proofs.lemmas.Bool.Decides.{Decides-ltb}
use Rattle.std.proofs.lemmas.List.Quantifiers.{position-Some}
use Rattle.std.proofs.lemmas.List.Sums.{fails_before_first}
use Rattle.std.proofs.lemmas.Slice.Eq.{bytes_eq-Decides}
use Rattle.faults.specs.Bytes.{Text}
use Rattle.listing.specs.Tree.{Tree, no_package, path_at}
use Rattle.pkgpath.specs.PkgPath.{path_of}
use Rattle.program_io.proofs.Once.{ok_once}
use Rattle.dpbr_status.specs.Held.{IsListed, Names}

pub listed_at : (tree : Tree) (path : Text) (p : ℕ) → Some p ≡ position (λ x. bytes_eq x.path path) tree → (p < length tree) × (path_at tree p ≡ path)
listed_at tree path p e =
    let found = position-Some (λ x. bytes_eq x.path path) tree p no_package (sym e) in
    (found.0, (bytes_eq-Decides (path_at tree p) path).0 found.1)

none_is_false : (b : Bool) (n : ℕ) → cond b (Some n) None ≡ None → b ≡ false
none_is_false true n e = absurd (let no : Some n ≡ None = e in cc)
none_is_false false n e = refl

pub not_listed : (tree : Tree) (path : Text) → None ≡ position (λ x. bytes_eq x.path path) tree → ¬ IsListed tree path
not_listed tree path e (p, within, same) =
    let none = none_is_false (nat_lt (position_or_len (λ x. bytes_eq x.path path) tree) (length tree)) _ (sym e) in
    let past : ¬ (position_or_len (λ x. bytes_eq x.path path) tree < length tree) =
    λ lt. true≢false (sym ((Decides-ltb _ _).1 lt) ∙ none) in
    let before : p < position_or_len (λ x. bytes_eq x.path path) tree = omega arith in
    true≢false (sym ((bytes_eq-Decides (path_at tree p) path).1 same) ∙ fails_before_first (λ x. bytes_eq x.path path) tree p no_package before)

-- the text spells the path at this position
pub named_at : (tree : Tree) (text path : Text) (p : ℕ) → path_of text ≡ Ok path → Some p ≡ position (λ x. bytes_eq x.path path) tree → Names tree text p
named_at tree text path p spelled e =
    let found = listed_at tree path p e in
    record { listed = found.0; spelled = spelled ∙ ap Ok (sym found.1) }

-- a text spells only one path
pub same_paths : (tree : Tree) (text : Text) (p q : ℕ) → Names tree text p → Names tree text q → path_at tree p ≡ path_at tree q
same_paths tree text p q n m = ok_once (path_of text) (path_at tree p) (path_at tree q) n.spelled m.spelled

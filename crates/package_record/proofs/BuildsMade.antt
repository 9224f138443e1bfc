-- A build made of packages is valid.
use Rattle.std.proofs.Common.{◌≡◌, ℕ, zero, suc, ◌+◌, ◌<◌, ◌≤◌, Bool, true, false, cond, List, [], ◌∷◌, ◌++◌, length, get_or, take, drop, map, Option, None, Some, Ok, Err, refl, sym, ap, ◌∙◌, arith, inl, inr}
use Rattle.std.specs.List.{All, range_with_len}
use Rattle.std.proofs.lemmas.Bool.{cases_lt, le-ltb, lt-ltb}
use Rattle.std.proofs.lemmas.List.{length-append, length-map, take-append-drop}
use Rattle.std.proofs.lemmas.List.Elements.{All-cons, All-nil}
use Rattle.faults.specs.Answers.{first_given, option_or, unless_fault}
use Rattle.faults.specs.Bytes.{Text}
use Rattle.claims.specs.declared.claim.Claim.{Claim}
use Rattle.claims.specs.Deps.{is_ascending}
use Rattle.claims.specs.declared.deps.Dep.{Dep}
use Rattle.claims.specs.PkgPath.{without_subpackage}
use Rattle.package_record.specs.Build.{AreAlike, IsAlike, IsBuild, build_text, most_packages, paths_of, records_text}
use Rattle.package_record.specs.Content.{AreFileNames, Content, IsRecord, is_next_name, most_bytes, names_of, record_text}
use Rattle.package_record.specs.Laws.{CanBeMade}
use Rattle.package_record.specs.Making.{build_fault, build_names_fault, names_fault, too_large}
use Rattle.package_record.specs.Packages.{AreOfOneGroup, content_from, contents_of}
use Rattle.package_record.specs.declared.RecordFault.{RecordFault}
use Rattle.package_record.specs.declared.RecordFault.TheVariants.{BadFileName, TooLarge}
use Rattle.package_record.specs.declared.build.Package.{Package}
use Rattle.package_record.proofs.BuildTexts.{record_within, text_length}
use Rattle.package_record.proofs.FirstBad.{within}
use Rattle.package_record.proofs.Lists.{drop_one}

-- ---- names

neither : {X : Type 0} (o p : Option X) → option_or o p ≡ None → (o ≡ None) × (p ≡ None)
neither None p e = (refl, e)
neither (Some x) p e = absurd cc

none_given : {F : Type 0} (f : ℕ → Option F) (a n : ℕ) → first_given f (range_with_len a n) ≡ None → (k : ℕ) → a ≤ k → k < a + n → f k ≡ None
none_given f a zero e k low high = absurd (omega arith)
none_given f a (suc n) e k low high =
    let parts = neither (f a) (first_given f (range_with_len (a + 1) n)) e in
    elim (cases_lt a k) [
      | inl below ↦ none_given f (a + 1) n parts.1 k (omega arith) (omega arith)
      | inr above ↦ let same : k ≡ a = omega arith in ap f same ∙ parts.0
    ]

passes : (b : Bool) (d : RecordFault) → cond b None (Some d) ≡ None → b ≡ true
passes true d e = refl
passes false d e = absurd cc

-- without a bad name all names are good
good_names : (names : List Text) → names_fault names ≡ None → AreFileNames names
good_names names none k lt = passes (is_next_name (take k names) (get_or names k [])) (BadFileName (k + 1)) (none_given _ 0 (length names) none k (omega arith) (omega arith))

none_in : {X F : Type 0} (f : X → Option F) (xs : List X) → first_given f xs ≡ None → All (λ x. f x ≡ None) xs
none_in f [] e = All-nil (λ x. f x ≡ None)
none_in f (x ∷ xs) e = let parts = neither (f x) (first_given f xs) e in All-cons (λ x. f x ≡ None) x xs parts.0 (none_in f xs parts.1)

-- ---- lengths

-- each record's text is within the limit if the build's is
pub records_fit : (cs : List Content) → length (build_text cs) ≤ most_bytes → (k : ℕ) (c : Content) → k < length cs → length (record_text (get_or cs k c)) ≤ most_bytes
records_fit cs fits k c lt = omega (arith, record_within cs k c lt, text_length cs, fits)

-- ---- builds

pub made_is_build : (cs : List Content) → All CanBeMade cs → length cs ≤ most_packages → is_ascending (paths_of cs) ≡ true → AreAlike cs → build_fault cs ≡ None → IsBuild cs
made_is_build cs able few up alike none =
    let parts = neither (build_names_fault cs) (too_large (length (build_text cs))) none in
    let named = none_in (λ c. names_fault (names_of c.files)) cs parts.0 in
    let fits : length (build_text cs) ≤ most_bytes = within (length (build_text cs)) parts.1 in
    record {
      records = λ k c lt. let can = able k c lt in record {
        names = can.names;
        host = can.host;
        claim = can.claim;
        built = can.built;
        run = can.run;
        file_names = good_names (names_of (get_or cs k c).files) (named k c lt);
        fits = records_fit cs fits k c lt;
      };
      few = few;
      ascending = up;
      alike = alike;
      fits = fits;
    }

-- ---- of packages

paths_made : (host : ℕ) (claim : Claim) (built : List Dep) (ps : List Package) → paths_of (contents_of host claim built ps) ≡ map (λ p. p.path) ps
paths_made host claim built [] = refl
paths_made host claim built (p ∷ ps) = ap (λ (ts : List Text). p.path ∷ ts) (paths_made host claim built ps)

alike_made : (host : ℕ) (claim : Claim) (built : List Dep) (ps : List Package) → 1 ≤ length ps → AreOfOneGroup ps → AreAlike (contents_of host claim built ps)
alike_made host claim built [] some group = absurd (omega arith)
alike_made host claim built (p ∷ ps) some group = behind ps group
  where
    behind : (qs : List Package) → All (λ q. without_subpackage q.path ≡ without_subpackage p.path) qs → All (IsAlike (content_from host claim built p)) (contents_of host claim built qs)
    behind [] same = All-nil (IsAlike (content_from host claim built p))
    behind (q ∷ qs) same =
        All-cons (IsAlike (content_from host claim built p)) (content_from host claim built q) (contents_of host claim built qs) (record { group = same 0 q (omega arith); host = refl; claim = refl; built = refl }) (behind qs (λ k x below. same (suc k) x (omega arith)))

-- what is made of these packages is a valid build, if their records can be made and it doesn't
-- exceed the limit
pub packages_make : (host : ℕ) (claim : Claim) (built : List Dep) (ps : List Package) → 1 ≤ length ps → length ps ≤ most_packages → is_ascending (map (λ (p : Package). p.path) ps) ≡ true → AreOfOneGroup ps
    → All IsRecord (contents_of host claim built ps) → too_large (length (build_text (contents_of host claim built ps))) ≡ None → IsBuild (contents_of host claim built ps)
packages_make host claim built ps some few up group good none = record {
  records = good;
  few = omega (arith, length-map ps (content_from host claim built), few);
  ascending = ap is_ascending (paths_made host claim built ps) ∙ up;
  alike = alike_made host claim built ps some group;
  fits = within _ none;
}

-- the first bad name of the packages is that of their records
pub names_made : (host : ℕ) (claim : Claim) (built : List Dep) (ps : List Package) → build_names_fault (contents_of host claim built ps) ≡ first_given (λ (p : Package). names_fault (names_of p.files)) ps
names_made host claim built [] = refl
names_made host claim built (p ∷ ps) = ap (option_or (names_fault (names_of p.files))) (names_made host claim built ps)

-- ---- one package after the other

-- the packages up to one of them, and those after it
pub packages_cut : (ps ys : List Package) (p : Package) → ys ≡ take (length ys) ps → length ys < length ps → p ≡ get_or ps (length ys) p → ps ≡ ys ++ p ∷ drop (length ys + 1) ps
packages_cut ps ys p front lt here =
    sym (take-append-drop (length ys) ps) ∙ ap (λ (qs : List Package). qs ++ drop (length ys) ps) (sym front) ∙ ap (λ (qs : List Package). ys ++ qs) (drop_one ps (length ys) p lt here)

records_longer : (host : ℕ) (claim : Claim) (built : List Dep) (ys : List Package) (p : Package) (qs : List Package)
    → length (records_text (contents_of host claim built ys)) + length (record_text (content_from host claim built p)) ≤ length (records_text (contents_of host claim built (ys ++ p ∷ qs)))
records_longer host claim built [] p qs = omega (arith, length-append (record_text (content_from host claim built p)) (records_text (contents_of host claim built qs)))
records_longer host claim built (y ∷ ys) p qs =
    omega (
      arith,
      length-append (record_text (content_from host claim built y)) (records_text (contents_of host claim built ys)),
      length-append (record_text (content_from host claim built y)) (records_text (contents_of host claim built (ys ++ p ∷ qs))),
      records_longer host claim built ys p qs,
    )

pub over : (n : ℕ) → most_bytes < n → too_large n ≡ Some TooLarge
over n long = rw (lt-ltb most_bytes n long) refl

-- a build is too large if the records up to one of its packages are
pub too_long : (host : ℕ) (claim : Claim) (built : List Dep) (ps ys : List Package) (p : Package) → ys ≡ take (length ys) ps → length ys < length ps → p ≡ get_or ps (length ys) p
    → most_bytes < length (records_text (contents_of host claim built ys)) + length (record_text (content_from host claim built p)) → too_large (length (build_text (contents_of host claim built ps))) ≡ Some TooLarge
too_long host claim built ps ys p front lt here long =
    let cs = contents_of host claim built ps in
    let cut = packages_cut ps ys p front lt here in
    let longer = records_longer host claim built ys p (drop (length ys + 1) ps) in
    let same : length (records_text cs) ≡ length (records_text (contents_of host claim built (ys ++ p ∷ drop (length ys + 1) ps))) = ap (λ (qs : List Package). length (records_text (contents_of host claim built qs))) cut in
    over (length (build_text cs)) (omega (arith, text_length cs, same, longer, long))

-- what a refusal for length implies
pub refused_for_length : {X : Type 0} (n : ℕ) (x : X) (e : RecordFault) → unless_fault (too_large n) x ≡ Err e → (most_bytes < n) × (e ≡ TooLarge)
refused_for_length n x e h = elim (cases_lt most_bytes n) [
  | inl long ↦ (long, same e (sym (ap (λ (o : Option RecordFault). unless_fault o x) (over n long)) ∙ h))
  | inr le ↦ absurd (let none : unless_fault (too_large n) x ≡ Ok x = rw (le-ltb most_bytes n le) refl in let clash = sym none ∙ h in (cc))
]
  where
    same : (e : RecordFault) → unless_fault (Some TooLarge) x ≡ Err e → e ≡ TooLarge
    same e h = cc

-- ---- the fault of a build

pub build_named : (host : ℕ) (claim : Claim) (built : List Dep) (ps : List Package) (e : RecordFault) → first_given (λ (p : Package). names_fault (names_of p.files)) ps ≡ Some e
    → unless_fault (build_fault (contents_of host claim built ps)) (contents_of host claim built ps) ≡ Err e
build_named host claim built ps e bad =
    let cs = contents_of host claim built ps in
    ap (λ (o : Option RecordFault). unless_fault (option_or o (too_large (length (build_text cs)))) cs) (names_made host claim built ps ∙ bad)

pub build_unnamed : (host : ℕ) (claim : Claim) (built : List Dep) (ps : List Package) → first_given (λ (p : Package). names_fault (names_of p.files)) ps ≡ None
    → build_fault (contents_of host claim built ps) ≡ too_large (length (build_text (contents_of host claim built ps)))
build_unnamed host claim built ps good =
    ap (λ (o : Option RecordFault). option_or o (too_large (length (build_text (contents_of host claim built ps))))) (names_made host claim built ps ∙ good)

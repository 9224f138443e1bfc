-- A build that is allowed for a unit has the records of that unit's packages, and of no other's.
use Rattle.std.proofs.Common.{◌≡◌, ◌<◌, ◌&&◌, ℕ, zero, suc, true, List, [], ◌∷◌, length, map, Option, Some, refl, sym, ap, ap₂, subst, ◌∙◌, arith}
use Rattle.std.specs.Prelude.{Contains}
use Rattle.std.specs.List.{list_all}
use Rattle.std.specs.Str.{bytes_eq}
use Rattle.std.proofs.lemmas.Bool.{and_from, and_parts, true≢false}
use Rattle.faults.specs.Bytes.{Text}
use Rattle.faults.specs.Pieces.{set_of}
use Rattle.listing.specs.Tree.{Tree, name_at, path_at, run_at}
use Rattle.package_record.specs.Content.{Content}
use Rattle.protocol.specs.State.{Value}
use Rattle.engine.specs.Division.{Division, IsDivision, number_of, unit_at}
use Rattle.engine.specs.Units.{Unit}
use Rattle.engine.proofs.Kept.{unit_listed}
use Rattle.engine.proofs.Places.{equal_bytes, same_bytes}
use Rattle.engine.proofs.WellMade.{one_unit_has}
use Rattle.one_list.specs.Needs.{are_records_of, is_record_of, may_build, same_texts, stands_on}

-- ---- lists of texts

pub texts_same : (s t : List Text) → same_texts s t ≡ true → s ≡ t
texts_same [] [] e = refl
texts_same [] (t ∷ ts) e = absurd (true≢false (sym e))
texts_same (s ∷ ss) [] e = absurd (true≢false (sym e))
texts_same (s ∷ ss) (t ∷ ts) e =
    let parts = and_parts (bytes_eq s t) (same_texts ss ts) e in ap₂ (λ x xs. x ∷ xs)
    (same_bytes s t parts.0) (texts_same ss ts parts.1)

pub same_texts_of : (s t : List Text) → s ≡ t → same_texts s t ≡ true
same_texts_of s t e = subst (λ u. same_texts s u ≡ true) e (itself s)
  where
    itself : (s : List Text) → same_texts s s ≡ true
    itself [] = refl
    itself (s ∷ ss) = and_from (bytes_eq s s) (same_texts ss ss) (equal_bytes s s refl) (itself ss)

-- ---- records

-- what it means that a record passes the test
pub record IsRecordOf (tree : Tree) (x : Unit) (p : ℕ) (r : Content) : Type 0 where
  pub path : r.path ≡ path_at tree p
  pub name : r.name ≡ name_at tree p
  pub built : map (λ d. d.path) r.built ≡ set_of (map (path_at tree) x.build)
  pub run : r.run ≡ set_of (map (path_at tree) (run_at tree p))

pub record_tells : (tree : Tree) (x : Unit) (p : ℕ) (r : Content) → is_record_of tree x p r ≡ true
    → IsRecordOf tree x p r
record_tells tree x p r e =
    let a = and_parts (bytes_eq r.path (path_at tree p) && bytes_eq r.name (name_at tree p) &&
    same_texts (map (λ d. d.path) r.built) (set_of (map (path_at tree) x.build)))
    (same_texts r.run (set_of (map (path_at tree) (run_at tree p)))) e in
    let b = and_parts (bytes_eq r.path (path_at tree p) && bytes_eq r.name (name_at tree p))
    (same_texts (map (λ d. d.path) r.built) (set_of (map (path_at tree) x.build))) a.0 in
    let c = and_parts (bytes_eq r.path (path_at tree p)) (bytes_eq r.name (name_at tree p))
    b.0 in record {
      path = same_bytes r.path (path_at tree p) c.0;
      name = same_bytes r.name (name_at tree p) c.1;
      built = texts_same (map (λ d. d.path) r.built) (set_of (map (path_at tree) x.build)) b.1;
      run = texts_same r.run (set_of (map (path_at tree) (run_at tree p))) a.1;
    }

pub record_told : (tree : Tree) (x : Unit) (p : ℕ) (r : Content) → IsRecordOf tree x p r
    → is_record_of tree x p r ≡ true
record_told tree x p r is =
    and_from (bytes_eq r.path (path_at tree p) && bytes_eq r.name (name_at tree p) && same_texts
    (map (λ d. d.path) r.built) (set_of (map (path_at tree) x.build)))
    (same_texts r.run (set_of (map (path_at tree) (run_at tree p))))
    (and_from (bytes_eq r.path (path_at tree p) && bytes_eq r.name (name_at tree p))
    (same_texts (map (λ d. d.path) r.built) (set_of (map (path_at tree) x.build)))
    (and_from (bytes_eq r.path (path_at tree p)) (bytes_eq r.name (name_at tree p))
    (equal_bytes r.path (path_at tree p) is.path) (equal_bytes r.name (name_at tree p) is.name))
    (same_texts_of (map (λ d. d.path) r.built) (set_of (map (path_at tree) x.build)) is.built))
    (same_texts_of r.run (set_of (map (path_at tree) (run_at tree p))) is.run)

-- each record is one of a package
pub record_of : (tree : Tree) (x : Unit) (ps : List ℕ) (build : Value)
    → are_records_of tree x ps build ≡ true → (r : Content) → Contains build r
    → (p : ℕ) × Contains ps p × IsRecordOf tree x p r
record_of tree x ps [] e r (k, within, at) = absurd (omega arith)
record_of tree x [] (q ∷ qs) e r h = absurd (true≢false (sym e))
record_of tree x (p ∷ ps) (q ∷ qs) e r (zero, within, at) =
    let parts = and_parts (is_record_of tree x p q) (are_records_of tree x ps qs) e in (
      p,
      (zero, omega arith, refl),
      record_tells tree x p r
          (subst (λ (z : Content). is_record_of tree x p z ≡ true) at parts.0),
    )
record_of tree x (p ∷ ps) (q ∷ qs) e r (suc k, within, at) =
    let parts = and_parts (is_record_of tree x p q) (are_records_of tree x ps qs) e in
    let later = record_of tree x ps qs parts.1 r (k, omega (arith, within), at) in
    (later.0, (suc (later.1).0, omega (arith, (later.1).1), (later.1).2), later.2)

-- and each package has one
pub has_record : (tree : Tree) (x : Unit) (ps : List ℕ) (build : Value)
    → are_records_of tree x ps build ≡ true → (p : ℕ) → Contains ps p
    → (r : Content) × Contains build r × IsRecordOf tree x p r
has_record tree x [] build e p (k, within, at) = absurd (omega arith)
has_record tree x (q ∷ qs) [] e p h = absurd (true≢false (sym e))
has_record tree x (q ∷ qs) (r ∷ rs) e p (zero, within, at) =
    let parts = and_parts (is_record_of tree x q r) (are_records_of tree x qs rs) e in (
      r,
      (zero, omega arith, refl),
      record_tells tree x p r
          (subst (λ (n : ℕ). is_record_of tree x n r ≡ true) at parts.0),
    )
has_record tree x (q ∷ qs) (r ∷ rs) e p (suc k, within, at) =
    let parts = and_parts (is_record_of tree x q r) (are_records_of tree x qs rs) e in
    let later = has_record tree x qs rs parts.1 p (k, omega (arith, within), at) in
    (later.0, (suc (later.1).0, omega (arith, (later.1).1), (later.1).2), later.2)

-- ---- builds of units

module _ (d : Division) (is : IsDivision d) where
  -- a build that is allowed for a unit has that unit's records
  pub are_records : (f : ℕ → Option Value) (u : ℕ) (build : Value) → may_build d f u build ≡ true
      → are_records_of d.tree (unit_at d u) (unit_at d u).packages build ≡ true
  are_records f u build e = (and_parts
      (are_records_of d.tree (unit_at d u) (unit_at d u).packages build)
      (list_all (stands_on d f) build) e).0

  some_number : (a b : ℕ) → Some a ≡ Some b → a ≡ b
  some_number a b e = cc

  -- builds of two different units have no path in common
  pub no_path_of_both : (f g : ℕ → Option Value) (u q : ℕ) (a b : Value) → u < length d.units
      → q < length d.units → may_build d f u a ≡ true → may_build d g q b ≡ true
      → (r s : Content) → Contains a r → Contains b s → r.path ≡ s.path → u ≡ q
  no_path_of_both f g u q a b lu lq ea eb r s hr hs same =
      let x = record_of d.tree (unit_at d u) (unit_at d u).packages a (are_records f u a ea) r hr in
      let y = record_of d.tree (unit_at d q) (unit_at d q).packages b (are_records g q b eb) s hs in
      let one : x.0 ≡ y.0 = is.tree.once x.0 y.0 (unit_listed d u x.0 is lu x.1)
      (unit_listed d q y.0 is lq y.1) (sym (x.2).path ∙ same ∙ (y.2).path) in
      some_number u q (sym (one_unit_has d u x.0 is lu x.1).0 ∙ ap (number_of d) one
      ∙ (one_unit_has d q y.0 is lq y.1).0)

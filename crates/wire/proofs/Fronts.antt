-- The first fields of each datagram.
use Rattle.std.proofs.Common.{◌≡◌, ℕ, ◌<◌, ◌≤◌, true, List, ◌∷◌, ◌++◌, length, Result, Ok, sym, ap, subst, ◌∙◌, append_assoc, arith}
use Rattle.faults.specs.Bytes.{Text, is_one_of}
use Rattle.pkgpath.specs.PkgPath.{IsPath}
use Rattle.wire.specs.Laws.{AreBytes}
use Rattle.wire.specs.Reading.{◌>>=◌, bytes_at, front_at, kind_at, number_at, path_at}
use Rattle.wire.specs.Spelling.{path_text}
use Rattle.wire.specs.declared.WireFault.{WireFault}
use Rattle.wire.specs.declared.fields.Front.{Front}
use Rattle.wire.proofs.FieldTexts.{Took, bytes_read, bytes_taken, byte_read, gives, kind_read, kind_taken, number_taken, one_byte, path_read, path_taken}
use Rattle.wire.proofs.Steps.{bind_ok, ok_is}

-- the text of the fields
abbrev pub fields_text : Front → Text
fields_text f = f.kind ∷ f.sender ∷ (f.tree ++ path_text f.path)

-- fields in their ranges, of one of these kinds
pub record IsFront (kinds : Text) (f : Front) : Type 0 where
  pub kind : is_one_of kinds f.kind ≡ true
  pub sender : f.sender < 9
  pub tree : length f.tree ≡ 32
  pub path : IsPath f.path

abbrev pub front_of : ℕ → ℕ → List ℕ → Text → Front
front_of kind sender tree path = record { kind = kind; sender = sender; tree = tree; path = path }

pub front_read : (kinds : Text) (f : Front) (rest : Text) → IsFront kinds f → front_at kinds (fields_text f ++ rest) ≡ gives f rest
unfolding front_at
front_read kinds f rest good =
    let behind = f.tree ++ (path_text f.path ++ rest) in
    ap (λ (t : Text). kind_at kinds (f.kind ∷ f.sender ∷ t) >>= λ kind. number_at 1 0 8 kind.1 >>= λ sender. bytes_at 32 sender.1 >>= λ tree. path_at tree.1 >>= λ path. gives (front_of kind.0 sender.0 tree.0 path.0) path.1)
    (append_assoc f.tree (path_text f.path) rest)
    ∙ ap (λ (r : Result (ℕ × Text) WireFault). r >>= λ kind. number_at 1 0 8 kind.1 >>= λ sender. bytes_at 32 sender.1 >>= λ tree. path_at tree.1 >>= λ path. gives (front_of kind.0 sender.0 tree.0 path.0) path.1)
    (kind_read kinds f.kind (f.sender ∷ behind) good.kind)
    ∙ ap (λ (r : Result (ℕ × Text) WireFault). r >>= λ sender. bytes_at 32 sender.1 >>= λ tree. path_at tree.1 >>= λ path. gives (front_of f.kind sender.0 tree.0 path.0) path.1)
    (byte_read 0 8 f.sender behind (omega arith) (omega (arith, good.sender)) (omega (arith, good.sender)))
    ∙ ap (λ (r : Result (Text × Text) WireFault). r >>= λ tree. path_at tree.1 >>= λ path. gives (front_of f.kind f.sender tree.0 path.0) path.1)
    (bytes_read 32 f.tree (path_text f.path ++ rest) good.tree)
    ∙ ap (λ (r : Result (Text × Text) WireFault). r >>= λ path. gives (front_of f.kind f.sender f.tree path.0) path.1) (path_read f.path rest good.path)

pub front_taken : (kinds text : Text) (y : Front × Text) → AreBytes text → front_at kinds text ≡ Ok y → Took (IsFront kinds) fields_text text y
unfolding front_at
front_taken kinds text y bytes e =
    let a = bind_ok (kind_at kinds text) (λ kind. number_at 1 0 8 kind.1 >>= λ sender. bytes_at 32 sender.1 >>= λ tree. path_at tree.1 >>= λ path. gives (front_of kind.0 sender.0 tree.0 path.0) path.1) y e in
    let b = bind_ok (number_at 1 0 8 a.0.1) (λ sender. bytes_at 32 sender.1 >>= λ tree. path_at tree.1 >>= λ path. gives (front_of a.0.0 sender.0 tree.0 path.0) path.1) y a.2 in
    let c = bind_ok (bytes_at 32 b.0.1) (λ tree. path_at tree.1 >>= λ path. gives (front_of a.0.0 b.0.0 tree.0 path.0) path.1) y b.2 in
    let d = bind_ok (path_at c.0.1) (λ path. gives (front_of a.0.0 b.0.0 c.0.0 path.0) path.1) y c.2 in
    let k = kind_taken kinds text a.0 bytes a.1 in
    let s = number_taken 1 0 8 a.0.1 b.0 k.bytes b.1 in
    let t = bytes_taken 32 b.0.1 c.0 s.bytes c.1 in
    let p = path_taken c.0.1 d.0 t.bytes d.1 in
    let eight : b.0.0 ≤ 8 = s.good.1 in
    subst (λ (z : Front × Text). Took (IsFront kinds) fields_text text z) (ok_is (front_of a.0.0 b.0.0 c.0.0 d.0.0, d.0.1) y d.2) (record {
      good = record { kind = k.good; sender = omega arith; tree = t.size; path = p.good };
      spelled = k.spelled
          ∙ ap (λ (u : Text). a.0.0 ∷ u) (
          s.spelled
          ∙ ap (λ (u : Text). u ++ b.0.1) (one_byte b.0.0 (omega arith))
          ∙ ap (λ (u : Text). b.0.0 ∷ u) (t.spelled ∙ ap (λ (u : Text). c.0.0 ++ u) p.spelled ∙ sym (append_assoc c.0.0 (path_text d.0.0) d.0.1)));
      bytes = p.bytes;
    })

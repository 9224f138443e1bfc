-- Paths are UTF-8.
use Rattle.std.proofs.Common.{◌≡◌, ℕ, zero, suc, ◌<◌, ◌≤◌, [], ◌∷◌, false, eqb, IsUtf8, refl, arith, inl, inr, rules}
use Rattle.std.proofs.lemmas.Bool.{cases_lt, eqb-false, lt-leb, ne_eqb, or_parts}
use Rattle.std.proofs.lemmas.Str.{IsUtf8-from_ascii, utf8_lossy-IsUtf8}
use Rattle.std.proofs.lemmas.Str.Ascii.{IsAscii-nil}
use Rattle.std.specs.List.{slice_index}
use Rattle.std.specs.Str.Lossy.{utf8_lossy}
use Rattle.faults.specs.Bytes.{Text, comma, has_byte, slash}
use Rattle.package_record.proofs.Lacking.{path_lacks}
use Rattle.pkgpath.specs.PkgPath.{IsPath, is_path_byte}

-- a text without bytes above ASCII
all_ascii : (text : Text) → ((c : ℕ) → 128 ≤ c → has_byte c text ≡ false) → (i : ℕ) → slice_index text i < 128
all_ascii [] none i = IsAscii-nil i
all_ascii (b ∷ bs) none zero = elim (cases_lt b 128) [
  | inl below ↦ below
  | inr above ↦ absurd (eqb-false b b (or_parts (eqb b b) (has_byte b bs) (none b above)).0 refl)
]
all_ascii (b ∷ bs) none (suc i) = all_ascii bs (λ c above. (or_parts (eqb b c) (has_byte c bs) (none c above)).1) i

no_path_byte : (c : ℕ) → 128 ≤ c → is_path_byte c ≡ false
no_path_byte c above = rw (lt-leb c 0x7e (omega (arith, above))) (search rules)

-- a path is ASCII
pub path_utf8 : (path : Text) → IsPath path → IsUtf8 path
path_utf8 path is =
    IsUtf8-from_ascii path (all_ascii path (λ c above.
    path_lacks c path (no_path_byte c above) (ne_eqb comma c (λ e. omega (arith, above, e))) (ne_eqb slash c (λ e. omega (arith, above, e))) is))

-- so it is written unchanged
pub path_text : (path : Text) → IsPath path → utf8_lossy path ≡ path
path_text path is = utf8_lossy-IsUtf8 path (path_utf8 path is)

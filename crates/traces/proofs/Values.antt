-- The value of a text, by the results of the parser.
use Rattle.std.proofs.Common.{◌≡◌, Bool, true, false, None, Some, refl, if◌then◌else◌}
use Rattle.std.proofs.lemmas.Str.{IsUtf8-from_is_utf8, is_utf8-from_IsUtf8}
use Rattle.std.specs.Prelude.{IsUtf8}
use Rattle.std.specs.Str.{is_utf8}
use Rattle.faults.specs.Bytes.{Text}
use Rattle.serde_json.specs.Data.{Data}
use Rattle.serde_json.specs.Read.{read}
use Rattle.traces.specs.Trace.{value_of}

pub value_read : (text : Text) (d : Data) → IsUtf8 text → read text ≡ Some d → value_of text ≡ Some d
value_read text d utf8 reads = rw (is_utf8-from_IsUtf8 text utf8) reads

none_read : (text : Text) (b : Bool) → is_utf8 text ≡ b → (IsUtf8 text → read text ≡ None) → (if b then read text else None) ≡ None
none_read text true is refused = refused (IsUtf8-from_is_utf8 text is)
none_read text false is refused = refl

pub no_value : (text : Text) → (IsUtf8 text → read text ≡ None) → value_of text ≡ None
no_value text refused = none_read text (is_utf8 text) refl refused

-- the value of a UTF-8 text
pub utf8_read : (text : Text) → IsUtf8 text → value_of text ≡ read text
utf8_read text utf8 = rw (is_utf8-from_IsUtf8 text utf8) refl

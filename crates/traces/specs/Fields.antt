-- The members of a JSON object, and their values.
use Rattle.std.specs.Prelude.{◌==◌, ℕ, nat_le, List, [], ◌∷◌, Option, None, Some, Result, Ok, Err, option_map, unwrap_or, if◌then◌else◌, codes}
use Rattle.faults.specs.Bytes.{Text}
use Rattle.hex.specs.Hex.{decode_of}
use Rattle.pkgpath.specs.PkgPath.{path_of}
use Rattle.package_record.specs.Content.{NamedFile}
use Rattle.protocol.specs.Given.{Given}
use Rattle.serde_json.specs.Data.{Data, Items, no_items, item}
use Rattle.serde_json.specs.Events.{members_len}
use Rattle.serde_json.specs.Find.{as_array, as_number, as_object, as_str, as_u64, get}

infixl 10 ◌>>=◌
-- without a value parsing ends, and else goes on with the result
abbrev pub ◌>>=◌ : {A B : Type 0} → Option A → (A → Option B) → Option B
None >>= f = None
(Some x) >>= f = f x

-- the number of members of an object, or 0
abbrev pub count_in : Data → ℕ
count_in d = unwrap_or (option_map members_len (as_object d)) 0

-- the value, if the result is one
abbrev pub answer_in : {X E : Type 0} → Result X E → Option X
answer_in (Ok x) = Some x
answer_in (Err e) = None

-- ---- values

-- a nonnegative integer, written without point or exponent, of at most this value
unfoldable pub number_of : ℕ → Data → Option ℕ
number_of most d = do
  n ← as_number d >>= as_u64
  if nat_le n most then Some n else None

-- ---- members: the value at the key, if it has this type

-- the text at the key
abbrev pub text_at : Text → Data → Option Text
text_at key d = get key d >>= as_str

-- a number at the key of at most this value
abbrev pub number_at : Text → ℕ → Data → Option ℕ
number_at key most d = get key d >>= number_of most

-- the number of a node
abbrev pub node_at : Data → Option ℕ
node_at d = number_at (codes "node") 255 d

-- the canonical form of the path, which may be spelled in any way
abbrev pub path_at : Data → Option Text
path_at d = text_at (codes "path") d >>= (λ text. answer_in (path_of text))

-- the bytes of hexadecimal digits in either case
abbrev pub hex_at : Data → Option (List ℕ)
hex_at d = text_at (codes "hex") d >>= (λ text. answer_in (decode_of text))

-- ---- lists

-- the items, if each can be parsed
abbrev pub all_of : {X : Type 0} → (Data → Option X) → Items → Option (List X)
all_of read no_items = Some []
all_of read (item d ds) = read d >>= (λ x. option_map (λ xs. x ∷ xs) (all_of read ds))

-- the items of the array at the key
abbrev pub items_at : Text → Data → Option Items
items_at key d = get key d >>= as_array

-- the array at the key, if each of its items can be parsed
abbrev pub array_at : {X : Type 0} → Text → (Data → Option X) → Data → Option (List X)
array_at key read d = items_at key d >>= all_of read

-- ---- files and packages

-- a file: `hex` and `name`, and no other member
unfoldable pub file_in : Data → Option NamedFile
file_in d = do
  bytes ← hex_at d
  name ← text_at (codes "name") d
  if count_in d == 2 then Some (record { name = name; bytes = bytes }) else None

-- the files of an array
abbrev pub files_in : Data → Option (List NamedFile)
files_in d = as_array d >>= all_of file_in

-- a package: `files` and `path`, and no other member
unfoldable pub package_in : Data → Option (Text × List NamedFile)
package_in d = do
  files ← get (codes "files") d >>= files_in
  path ← path_at d
  if count_in d == 2 then Some (path, files) else None

-- the packages of an array
abbrev pub packages_in : Data → Option Given
packages_in d = as_array d >>= all_of package_in

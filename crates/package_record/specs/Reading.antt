-- Parsing a record from left to right, up to the first fault.
use Rattle.std.specs.Prelude.{◌+◌, ◌-◌, ℕ, zero, suc, Bool, true, false, ◌&&◌, ◌||◌, ◌==◌, not, nat_le, nat_lt, List, [], ◌∷◌, ◌++◌, length, take, drop, map, sum_by, codes, slice_get, option_map, Option, Some, None, Result, Ok, Err, if◌then◌else◌}
use Rattle.std.specs.Char.{is_ascii_digit}
use Rattle.std.specs.List.{after_first, before_first, join_with_byte, list_all, position_or_len}
use Rattle.std.specs.Ordering.{is_lt}
use Rattle.std.specs.Str.{bytes_eq}
use Rattle.std.specs.Str.Parse.{digits_value}
use Rattle.hex.specs.Hex.{decode_sized, encode_lower}
use Rattle.sha2.specs.Sha256.{sha256}
use Rattle.faults.specs.Bytes.{Text, begins_with, blank, dot, is_empty, line_feed}
use Rattle.faults.specs.Pieces.{pieces_at, text_cmp}
use Rattle.claims.specs.PkgName.{name_of}
use Rattle.claims.specs.PkgPath.{path_of}
use Rattle.claims.specs.declared.claim.Claim.{Claim}
use Rattle.claims.specs.Claim.{greatest_round}
use Rattle.claims.specs.declared.deps.Dep.{Dep}
use Rattle.package_record.specs.Content.{Content, NamedFile, greatest_host, is_next_name, most_bytes}
use Rattle.package_record.specs.declared.RecordFault.{RecordFault}
use Rattle.package_record.specs.declared.RecordFault.TheVariants.{BadLine, Truncated, Trailing, DigestDiffers, BadFileName, TooLarge}

infixl 10 ◌>>=◌
-- parsing ends at a fault, and else goes on with the result
abbrev pub ◌>>=◌ :
    {A B : Type 0} → Result A RecordFault → (A → Result B RecordFault) → Result B RecordFault
(Ok x) >>= f = f x
(Err e) >>= f = Err e

-- ---- lines

-- the place of a parser: the number of lines that it has passed, and the rest of the lines, all but
-- the last ended by LF
pub record Place : Type 0 where
  pub passed : ℕ
  pub lines : List Text

-- the first of these lines, after n others, and the place after it; without its LF it is truncated
abbrev pub line_in : ℕ → List Text → Result (Text × Place) RecordFault
line_in n [] = Err Truncated
line_in n (l ∷ []) = Err Truncated
line_in n (l ∷ m ∷ ms) = Ok (l, record { passed = n + 1; lines = m ∷ ms })

-- the line at the place
unfoldable pub line_at : Place → Result (Text × Place) RecordFault
line_at p = line_in p.passed p.lines

-- the rest of the line after this word, which has to begin it
unfoldable pub field_at : Text → Place → Result (Text × Place) RecordFault
field_at word p = do
  line ← line_at p
  if begins_with word line.0
      then Ok (drop (length word) line.0, line.1)
      else Err (BadLine line.1.passed)

-- ---- fields of line n

-- the text before the first such byte, and the text after it
unfoldable pub cut_in : ℕ → ℕ → Text → Result (Text × Text) RecordFault
cut_in byte n text =
    if nat_lt (position_or_len (λ b. b == byte) text) (length text)
    then Ok (before_first (λ b. b == byte) text, after_first (λ b. b == byte) text)
    else Err (BadLine n)

-- whether the text is the canonical form of its value
abbrev pub is_itself : {F : Type 0} → Result Text F → Text → Bool
is_itself (Ok t) text = bytes_eq t text
is_itself (Err e) text = false

-- the text as a package path, which has to be in its canonical form
unfoldable pub path_in : ℕ → Text → Result Text RecordFault
path_in n text = if is_itself (path_of text) text then Ok text else Err (BadLine n)

-- the text as a package name
unfoldable pub name_in : ℕ → Text → Result Text RecordFault
name_in n text = if is_itself (name_of text) text then Ok text else Err (BadLine n)

-- digits, without a leading zero
abbrev pub is_number : Text → Bool
is_number text =
    list_all is_ascii_digit text && not (is_empty text)
    && (length text == 1 || not (begins_with (codes "0") text))

-- the text as a number in this range
unfoldable pub number_in : ℕ → ℕ → ℕ → Text → Result ℕ RecordFault
number_in least greatest n text =
    if is_number text && nat_le least (digits_value 10 text)
    && nat_le (digits_value 10 text) greatest
    then Ok (digits_value 10 text)
    else Err (BadLine n)

-- the decoded digest, if the text is its lower-case form
abbrev pub if_lower :
    {F : Type 0} → ℕ → Text → Result (List ℕ) F → Result (List ℕ) RecordFault
if_lower n text (Ok digest) =
    if bytes_eq (encode_lower digest) text then Ok digest else Err (BadLine n)
if_lower n text (Err e) = Err (BadLine n)

-- the 32 bytes that the text encodes
unfoldable pub digest_in : ℕ → Text → Result (List ℕ) RecordFault
digest_in n text = if_lower n text (decode_sized text 32)

-- ---- the first five lines

-- the place after the line with the version of the format
unfoldable pub version_at : Place → Result Place RecordFault
version_at p = do
  line ← line_at p
  if bytes_eq line.0 (codes "@dpb 1") then Ok line.1 else Err (BadLine line.1.passed)

-- the package's name, and the place after its line
unfoldable pub name_at : Place → Result (Text × Place) RecordFault
name_at p = do
  field ← field_at (codes "@name ") p
  name ← name_in field.1.passed field.0
  Ok (name, field.1)

-- the package's path, and the place after its line
unfoldable pub path_at : Place → Result (Text × Place) RecordFault
path_at p = do
  field ← field_at (codes "@comment pkgpath=") p
  path ← path_in field.1.passed field.0
  Ok (path, field.1)

-- the host that built the package, and the place after its line
unfoldable pub host_at : Place → Result (ℕ × Place) RecordFault
host_at p = do
  field ← field_at (codes "@host ") p
  host ← number_in 0 greatest_host field.1.passed field.0
  Ok (host, field.1)

-- the text as a claim: its round, a dot, and its member
unfoldable pub claim_in : ℕ → Text → Result Claim RecordFault
claim_in n text = do
  parts ← cut_in dot n text
  round ← number_in 1 greatest_round n parts.0
  member ← number_in 0 8 n parts.1
  Ok (record { round = round; member = member })

-- the claim of the build, and the place after its line
unfoldable pub claim_at : Place → Result (Claim × Place) RecordFault
claim_at p = do
  field ← field_at (codes "@claim ") p
  claim ← claim_in field.1.passed field.0
  Ok (claim, field.1)

-- the contents of the first five lines
pub record Front : Type 0 where
  pub name : Text
  pub path : Text
  pub host : ℕ
  pub claim : Claim

-- the contents of the first five lines, and the place after them
unfoldable pub front_at : Place → Result (Front × Place) RecordFault
front_at p = do
  names ← version_at p
  name ← name_at names
  path ← path_at name.1
  host ← host_at path.1
  claim ← claim_at host.1
  Ok (record { name = name.0; path = path.0; host = host.0; claim = claim.0 }, claim.1)

-- ---- repeated lines

-- goes on after one more element; ends if there was none
abbrev pub go_on :
    {X : Type 0} → (List X → Place → Result (List X × Place) RecordFault)
    → List X → Option X × Place → Result (List X × Place) RecordFault
go_on more front (None, p) = Ok (front, p)
go_on more front (Some x, p) = more (front ++ x ∷ []) p

-- Parses elements while there is one more, at most this number of them. What may follow depends on
-- the previous ones, which are in front.
unfoldable pub many_at :
    {X : Type 0} → (List X → Place → Result (Option X × Place) RecordFault)
    → ℕ → List X → Place → Result (List X × Place) RecordFault
many_at one zero front p = Err Truncated
many_at one (suc k) front p = one front p >>= go_on (many_at one k) front

-- all elements; there are not more of them than lines
abbrev pub all_at :
    {X : Type 0} → (List X → Place → Result (Option X × Place) RecordFault)
    → Place → Result (List X × Place) RecordFault
all_at one p = many_at one (length p.lines) [] p

-- whether the path is above the previous one, if there is one
abbrev pub is_above : Option Text → Text → Bool
is_above None path = true
is_above (Some before) path = is_lt (text_cmp before path)

-- the last one, if there is any
abbrev pub last_of : {X : Type 0} → List X → Option X
last_of xs = slice_get xs (length xs - 1)

-- the text as a dependency: a path, a name and a digest, separated by single spaces
unfoldable pub dependency_in : ℕ → Text → Result Dep RecordFault
dependency_in n text = do
  path ← cut_in blank n text
  p ← path_in n path.0
  name ← cut_in blank n path.1
  m ← name_in n name.0
  digest ← digest_in n name.1
  Ok (record { path = p; name = m; digest = digest })

-- an `@built` line, if there is one here
unfoldable pub built_at : List Dep → Place → Result (Option Dep × Place) RecordFault
built_at deps p = do
  line ← line_at p
  if begins_with (codes "@built ") line.0 then (do
    d ← dependency_in line.1.passed (drop 7 line.0)
    if is_above (option_map (λ before. before.path) (last_of deps)) d.path
        then Ok (Some d, line.1)
        else Err (BadLine line.1.passed))
      else Ok (None, p)

-- a `@run` line, if there is one here
unfoldable pub run_at : List Text → Place → Result (Option Text × Place) RecordFault
run_at paths p = do
  line ← line_at p
  if begins_with (codes "@run ") line.0 then (do
    path ← path_in line.1.passed (drop 5 line.0)
    if is_above (last_of paths) path then Ok (Some path, line.1) else Err (BadLine line.1.passed))
      else Ok (None, p)

-- the contents of the lines of a file
pub record Head : Type 0 where
  pub name : Text
  pub digest : List ℕ
  pub size : ℕ
  -- the number of the line with the digest
  pub line : ℕ

-- the size of a file, after files of this total size
unfoldable pub size_in : ℕ → ℕ → Text → Result ℕ RecordFault
size_in total n text =
    if not (is_number text) then Err (BadLine n)
    else if nat_lt most_bytes (total + digits_value 10 text) then Err TooLarge
    else Ok (digits_value 10 text)

-- the digest and the size of the file with this name, after files of this total size
unfoldable pub head_at : ℕ → Text → Place → Result (Option Head × Place) RecordFault
head_at total name p = do
  sha ← field_at (codes "@sha ") p
  digest ← digest_in sha.1.passed sha.0
  size ← field_at (codes "@size ") sha.1
  n ← size_in total size.1.passed size.0
  Ok (Some (record { name = name; digest = digest; size = n; line = sha.1.passed }), size.1)

-- the lines of a file, after files with these names and this total size, or the empty line that
-- ends the header
unfoldable pub entry_at : List Text → ℕ → Place → Result (Option Head × Place) RecordFault
entry_at names total p = do
  line ← line_at p
  if is_empty line.0 then Ok (None, line.1)
      else if begins_with (codes "@") line.0 then Err (BadLine line.1.passed)
      else if is_next_name names line.0 then head_at total line.0 line.1
      else Err (BadFileName line.1.passed)

-- the lines of one more file after these, or the empty line that ends the header
abbrev pub file_at : List Head → Place → Result (Option Head × Place) RecordFault
file_at heads p = entry_at (map (λ h. h.name) heads) (sum_by (λ h. h.size) heads) p

-- ---- the whole

-- the contents of the header
pub record Header : Type 0 where
  pub front : Front
  pub built : List Dep
  pub run : List Text
  pub heads : List Head

-- the header, and the bytes after it
unfoldable pub header_of : Text → Result (Header × Text) RecordFault
header_of text = do
  front ← front_at (record { passed = 0; lines = pieces_at line_feed text })
  built ← all_at built_at front.1
  run ← all_at run_at built.1
  heads ← all_at file_at run.1
  Ok (
    record { front = front.0; built = built.0; run = run.0; heads = heads.0 },
    join_with_byte line_feed heads.1.lines,
  )

-- the file of this head, at the front of the bytes
abbrev pub file_from : Head → Text → NamedFile
file_from h bytes = record { name = h.name; bytes = take h.size bytes }

-- the files of these heads, from the front of the bytes, and the bytes after them
unfoldable pub files_in :
    List NamedFile → List Head → Text → Result (List NamedFile × Text) RecordFault
files_in front [] bytes = Ok (front, bytes)
files_in front (h ∷ hs) bytes =
    if bytes_eq (sha256 (take h.size bytes)) h.digest
    then files_in (front ++ file_from h bytes ∷ []) hs (drop h.size bytes)
    else Err (DigestDiffers h.line)

-- the total size of the files, by the header
abbrev pub total_of : Header → ℕ
total_of h = sum_by (λ head. head.size) h.heads

-- the contents of the record with this header and these files
abbrev pub content_with : Header → List NamedFile → Content
content_with h files = record {
  path = h.front.path;
  name = h.front.name;
  host = h.front.host;
  claim = h.front.claim;
  built = h.built;
  run = h.run;
  files = files;
}

-- the contents of the record with this header and the bytes after it, and the bytes that are left
unfoldable pub content_of_parts : Header → Text → Result (Content × Text) RecordFault
content_of_parts h bytes =
    if nat_lt (length bytes) (total_of h) then Err Truncated
    else (do
      files ← files_in [] h.heads bytes
      Ok (content_with h files.0, files.1))

-- the record that is the whole text
unfoldable pub whole_of : Text → Result Content RecordFault
whole_of text =
    if nat_lt most_bytes (length text) then Err TooLarge
    else (do
      header ← header_of text
      content ← content_of_parts header.0 header.1
      if is_empty content.1 then Ok content.0 else Err Trailing)

-- the record at the front of the text, and the text after it
unfoldable pub first_of : Text → Result (Content × Text) RecordFault
first_of text = do
  header ← header_of text
  if nat_lt most_bytes (length text - length header.1 + total_of header.0) then Err TooLarge
      else content_of_parts header.0 header.1

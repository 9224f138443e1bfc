-- Reading a printed list.
use Rattle.std.proofs.Common.{suc, ◌≡◌, ◌∙◌, ◌++◌, List, [], ◌∷◌, All, true, false, not, ap, sym, refl, flat_map, map, subst, append_assoc, arith, codes}
use Rattle.std.specs.List.{AllZip, join_with_byte, list_all}
use Rattle.std.proofs.lemmas.Bool.{and_from}
use Rattle.std.proofs.lemmas.Grind.{flat_map-append}
use Rattle.std.proofs.lemmas.List.{append-nil}
use Rattle.std.proofs.lemmas.List.Folds.{list_all-append}
use Rattle.hex.specs.Hex.{encode_lower}
use Rattle.hex.proofs.HexLemmas.{decode_sized-encode_lower}
use Rattle.sha2.specs.Sha256.{sha256}
use Rattle.sha2.proofs.Facts256.{length-sha256}
use Rattle.faults.specs.Bytes.{Text, blank, has_byte, line_feed}
use Rattle.faults.specs.Pieces.{pieces_at}
use Rattle.pkgpath.proofs.Pieces.{lacks, pieces_at-join}
use Rattle.claims.specs.declared.deps.Dep.{Dep}
use Rattle.package_record.specs.Content.{Content, IsDep, IsRecord, ended, record_text}
use Rattle.package_record.proofs.Digests.{sha256_bytes}
use Rattle.package_record.proofs.Lacking.{hex_lacks, lacks-append, name_lacks, path_lacks}
use Rattle.package_record.proofs.ReadWhole.{ended_split}
use Rattle.world.specs.Headline.{entry_of}
use Rattle.package_lists.specs.List.{AreEntries, Names, Says, Spells, lines_in, said_of, without_empty_end}
use Rattle.package_lists.specs.ListText.{built_line, list_text, record_lines, signature_line}
use Rattle.package_lists.specs.declared.list_line.ListLine.{ListLine}
use Rattle.package_lists.specs.declared.list_line.ListLine.TheVariants.{Built}

-- ---- one line

-- the line without its line feed
abbrev line_of : Text → Dep → Text
line_of word d = join_with_byte blank (word ∷ d.path ∷ d.name ∷ encode_lower d.digest ∷ [])

spelled : (d : Dep) → IsDep d → Spells d.path d.name (encode_lower d.digest) d
spelled d good = record {
  path_is = good.path;
  name_is = good.name;
  digest_is = decode_sized-encode_lower d.digest 32 good.digest good.bytes;
  lower = refl;
}

fields_lack : (word : Text) (d : Dep) → has_byte blank word ≡ false → IsDep d
    → list_all (lacks blank) (word ∷ d.path ∷ d.name ∷ encode_lower d.digest ∷ []) ≡ true
fields_lack word d none good =
    rw (none, path_lacks blank d.path refl refl refl good.path, name_lacks blank d.name refl good.name, hex_lacks blank d.digest refl refl) refl

named : (word : Text) (d : Dep) → has_byte blank word ≡ false → IsDep d → Names word (line_of word d) d
named word d none good = record {
  path = d.path;
  name = d.name;
  digest = encode_lower d.digest;
  fields = pieces_at-join blank word (d.path ∷ d.name ∷ encode_lower d.digest ∷ []) (fields_lack word d none good);
  spelled = spelled d good;
}

line_lacks : (word : Text) (d : Dep) → has_byte line_feed word ≡ false → IsDep d → lacks line_feed (line_of word d) ≡ true
line_lacks word d none good =
    let behind : Text = blank ∷ encode_lower d.digest in
    let digest : has_byte line_feed behind ≡ false = hex_lacks line_feed d.digest refl refl in
    let name : has_byte line_feed (d.name ++ behind) ≡ false = lacks-append line_feed d.name behind (name_lacks line_feed d.name refl good.name) digest in
    let path : has_byte line_feed (d.path ++ (blank ∷ (d.name ++ behind))) ≡ false =
    lacks-append line_feed d.path (blank ∷ (d.name ++ behind)) (path_lacks line_feed d.path refl refl refl good.path) name in
    ap not (lacks-append line_feed word (blank ∷ (d.path ++ (blank ∷ (d.name ++ behind)))) none path)

-- what is printed of a package is its line with a line feed
printed_line : (word : Text) (d : Dep) → signature_line (word ++ blank ∷ []) d.path d.name d.digest ≡ line_of word d ++ line_feed ∷ []
printed_line word d =
    let end : Text = line_feed ∷ [] in
    let digest : Text = blank ∷ encode_lower d.digest in
    let name : Text = blank ∷ (d.name ++ digest) in
    append_assoc ((word ++ blank ∷ []) ++ d.path) (blank ∷ d.name) (digest ++ end)
    ∙ append_assoc (word ++ blank ∷ []) d.path (blank ∷ (d.name ++ (digest ++ end)))
    ∙ append_assoc word (blank ∷ []) (d.path ++ (blank ∷ (d.name ++ (digest ++ end))))
    ∙ sym (append_assoc word (blank ∷ (d.path ++ name)) end
    ∙ ap (λ (t : Text). word ++ (blank ∷ t)) (append_assoc d.path name end
    ∙ ap (λ (t : Text). d.path ++ (blank ∷ t)) (append_assoc d.name digest end)))

-- ---- all lines

-- a package as it is printed
abbrev package_of : Content → Dep
package_of r = record { path = r.path; name = r.name; digest = sha256 (record_text r) }

good_package : (r : Content) → IsRecord r → IsDep (package_of r)
good_package r good = record {
  path = good.names.path;
  name = good.names.name;
  digest = length-sha256 (record_text r);
  bytes = sha256_bytes (record_text r);
}

abbrev lines_of : Content → List Text
lines_of r = line_of (codes "package") (package_of r) ∷ map (line_of (codes "built")) r.built

built_lines : (ds : List Dep) → flat_map built_line ds ≡ ended (map (line_of (codes "built")) ds)
unfolding ended
built_lines [] = refl
built_lines (d ∷ ds) = ap (λ (t : Text). t ++ flat_map built_line ds) (printed_line (codes "built") d)
    ∙ ap (λ (t : Text). (line_of (codes "built") d ++ line_feed ∷ []) ++ t) (built_lines ds)

printed_record : (r : Content) → record_lines r ≡ ended (lines_of r)
unfolding ended
printed_record r = ap (λ (t : Text). t ++ flat_map built_line r.built) (printed_line (codes "package") (package_of r))
    ∙ ap (λ (t : Text). (line_of (codes "package") (package_of r) ++ line_feed ∷ []) ++ t) (built_lines r.built)

ended-append : (ls ms : List Text) → ended (ls ++ ms) ≡ ended ls ++ ended ms
unfolding ended
ended-append ls ms = flat_map-append (λ (line : Text). line ++ line_feed ∷ []) ls ms

printed_list : (rs : List Content) → list_text rs ≡ ended (flat_map lines_of rs)
unfolding ended
printed_list [] = refl
printed_list (r ∷ rs) = ap (λ (t : Text). t ++ list_text rs) (printed_record r)
    ∙ ap (λ (t : Text). ended (lines_of r) ++ t) (printed_list rs)
    ∙ sym (ended-append (lines_of r) (flat_map lines_of rs))

built_lack : (ds : List Dep) → All IsDep ds → list_all (lacks line_feed) (map (line_of (codes "built")) ds) ≡ true
built_lack [] good = refl
built_lack (d ∷ ds) good = and_from _ _ (line_lacks (codes "built") d refl (good 0 d (omega arith))) (built_lack ds (λ k x below. good (suc k) x (omega arith)))

lines_lack : (rs : List Content) → All IsRecord rs → list_all (lacks line_feed) (flat_map lines_of rs) ≡ true
lines_lack [] good = refl
lines_lack (r ∷ rs) good =
    let here = good 0 r (omega arith) in
    list_all-append (lacks line_feed) (lines_of r) (flat_map lines_of rs)
    ∙ and_from _ _ (and_from _ _ (line_lacks (codes "package") (package_of r) refl (good_package r here)) (built_lack r.built here.names.built))
    (lines_lack rs (λ k x below. good (suc k) x (omega arith)))

empty_end : (ls : List Text) → without_empty_end (ls ++ [] ∷ []) ≡ ls
empty_end [] = refl
empty_end (l ∷ []) = refl
empty_end (l ∷ m ∷ ls) = ap (λ (ms : List Text). l ∷ ms) (empty_end (m ∷ ls))

lines_read : (rs : List Content) → All IsRecord rs → lines_in (list_text rs) ≡ flat_map lines_of rs
unfolding lines_in
lines_read rs good =
    ap without_empty_end (ap (pieces_at line_feed) (printed_list rs ∙ sym (append-nil (ended (flat_map lines_of rs))))
    ∙ ended_split (flat_map lines_of rs) [] (lines_lack rs good))
    ∙ empty_end (flat_map lines_of rs)

-- ---- what the lines say

says_too : (ls ms : List Text) (ss ts : List ListLine) → AllZip Says ls ss → AllZip Says ms ts → AllZip Says (ls ++ ms) (ss ++ ts)
says_too [] ms [] ts front behind = behind
says_too [] ms (s ∷ ss) ts front behind = absurd front
says_too (l ∷ ls) ms [] ts front behind = absurd front
says_too (l ∷ ls) ms (s ∷ ss) ts front behind = (front.0, says_too ls ms ss ts front.1 behind)

built_say : (ds : List Dep) → All IsDep ds → AllZip Says (map (line_of (codes "built")) ds) (map Built ds)
built_say [] good = tt
built_say (d ∷ ds) good = (named (codes "built") d refl (good 0 d (omega arith)), built_say ds (λ k x below. good (suc k) x (omega arith)))

lines_say : (rs : List Content) → All IsRecord rs → AllZip Says (flat_map lines_of rs) (flat_map said_of (map entry_of rs))
lines_say [] good = tt
lines_say (r ∷ rs) good =
    let here = good 0 r (omega arith) in
    says_too (lines_of r) (flat_map lines_of rs) (said_of (entry_of r)) (flat_map said_of (map entry_of rs))
    (named (codes "package") (package_of r) refl (good_package r here), built_say r.built here.names.built)
    (lines_say rs (λ k x below. good (suc k) x (omega arith)))

-- the printed list of records has their entries
pub printed_is_read : (rs : List Content) → All IsRecord rs → AreEntries (list_text rs) (map entry_of rs)
printed_is_read rs good =
    subst (λ (ls : List Text). AllZip Says ls (flat_map said_of (map entry_of rs))) (sym (lines_read rs good)) (lines_say rs good)

-- Known lists of packages.
use Rattle.std.proofs.Common.{◌≡◌, ◌++◌, codes, refl, [], ◌∷◌}
use Rattle.hex.proofs.OnLiterals.{hex_on_literals}
use Rattle.auditing.specs.declared.entry.Entry.{Entry}
use Rattle.claims.specs.declared.deps.Dep.{Dep}
use Rattle.faults.specs.Bytes.{Text, blank, line_feed}
use Rattle.faults.specs.Pieces.{pieces_at}
use Rattle.package_lists.specs.List.{AreEntries, Spells, lines_in}

example_no_lines : lines_in [] ≡ []
unfolding lines_in
example_no_lines = refl

example_one_line : lines_in (codes "ab" ++ line_feed ∷ []) ≡ codes "ab" ∷ []
unfolding lines_in
example_one_line = refl

example_no_end : lines_in (codes "ab" ++ line_feed ∷ codes "c") ≡ codes "ab" ∷ codes "c" ∷ []
unfolding lines_in
example_no_end = refl

-- an empty line is a line, if the text doesn't end before it
example_empty_line : lines_in (codes "ab" ++ line_feed ∷ line_feed ∷ []) ≡ codes "ab" ∷ [] ∷ []
unfolding lines_in
example_empty_line = refl

example_fields : pieces_at blank (codes "package a/q q-1 00") ≡ codes "package" ∷ codes "a/q" ∷ codes "q-1" ∷ codes "00" ∷ []
example_fields = refl

-- one more space is one more field
example_two_blanks : pieces_at blank (codes "package  a/q") ≡ codes "package" ∷ [] ∷ codes "a/q" ∷ []
example_two_blanks = refl

-- a package, and one that was built on it
abbrev digest_text : Text
digest_text = codes "00112233445566778899aabbccddeeff00112233445566778899aabbccddeeff"

abbrev digest : Text
digest = 0 ∷ 17 ∷ 34 ∷ 51 ∷ 68 ∷ 85 ∷ 102 ∷ 119 ∷ 136 ∷ 153 ∷ 170 ∷ 187 ∷ 204 ∷ 221 ∷ 238 ∷ 255 ∷ 0 ∷ 17 ∷ 34 ∷ 51 ∷ 68 ∷ 85 ∷ 102 ∷ 119 ∷ 136 ∷ 153 ∷ 170 ∷ 187 ∷ 204 ∷ 221 ∷ 238 ∷ 255 ∷ []

abbrev q_package : Dep
q_package = record { path = codes "a/q"; name = codes "q-1"; digest = digest }

abbrev q_entry : Entry
q_entry = record { path = codes "a/q"; name = codes "q-1"; digest = digest; built = [] }

abbrev p_entry : Entry
p_entry = record { path = codes "a/p"; name = codes "p-1"; digest = digest; built = q_package ∷ [] }

abbrev q_line : Text
q_line = codes "package a/q q-1 " ++ digest_text

abbrev p_line : Text
p_line = codes "package a/p p-1 " ++ digest_text

abbrev built_line : Text
built_line = codes "built a/q q-1 " ++ digest_text

q_spelled : Spells (codes "a/q") (codes "q-1") digest_text q_package
unfolding hex_on_literals
q_spelled = record { path_is = refl; name_is = refl; digest_is = refl; lower = refl }

p_spelled : Spells (codes "a/p") (codes "p-1") digest_text (record { path = codes "a/p"; name = codes "p-1"; digest = digest })
unfolding hex_on_literals
p_spelled = record { path_is = refl; name_is = refl; digest_is = refl; lower = refl }

example_list : AreEntries (q_line ++ line_feed ∷ [] ++ p_line ++ line_feed ∷ [] ++ built_line) (q_entry ∷ p_entry ∷ [])
unfolding lines_in
example_list = (
  record { path = codes "a/q"; name = codes "q-1"; digest = digest_text; fields = refl; spelled = q_spelled },
  (
    record { path = codes "a/p"; name = codes "p-1"; digest = digest_text; fields = refl; spelled = p_spelled },
    (record { path = codes "a/q"; name = codes "q-1"; digest = digest_text; fields = refl; spelled = q_spelled }, tt),
  ),
)

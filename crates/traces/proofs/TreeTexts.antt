-- The text of a tree.
use Rattle.std.proofs.Common.{◌≡◌, ℕ, ◌≤◌, List, [], ◌++◌, option_and_then, sym, ap, ◌∙◌, append-nil, IsUtf8}
use Rattle.std.proofs.lemmas.Str.{is_utf8-from_IsUtf8}
use Rattle.json.specs.Lex.{tokens}
use Rattle.json.specs.Json.{Json, if_last, value}
use Rattle.json.specs.Print.{print}
use Rattle.json.specs.Tree.{HasNumbers, depth, json_tokens}
use Rattle.json.proofs.Printed.Tokens.{tokens-print}
use Rattle.json.proofs.Printed.Trees.{ArePrintable-json_tokens, value-json_tokens}
use Rattle.serde_json.specs.Read.{max_depth, of_json, read}
use Rattle.traces.specs.Trace.{value_of}

-- the text of a tree is parsed as the tree's value
pub tree_read : (j : Json) (text : List ℕ) → HasNumbers j → depth j ≤ max_depth → text ≡ print (json_tokens j) → read text ≡ of_json j
tree_read j text numbers nests is =
    let same : tokens text ≡ json_tokens j ++ [] = ap tokens is ∙ tokens-print (json_tokens j) (ArePrintable-json_tokens j numbers) ∙ sym (append-nil (json_tokens j)) in
    ap (λ ts. option_and_then of_json (option_and_then (λ p. if_last p.0 p.1) (value max_depth ts))) same
    ∙ ap (λ o. option_and_then of_json (option_and_then (λ p. if_last p.0 p.1) o)) (value-json_tokens j max_depth [] nests)

-- the text of a tree is parsed, as bytes, as the tree's value
pub tree_value : (j : Json) (text : List ℕ) → HasNumbers j → depth j ≤ max_depth → IsUtf8 text → text ≡ print (json_tokens j) → value_of text ≡ of_json j
tree_value j text numbers nests utf8 is = rw (is_utf8-from_IsUtf8 text utf8) (tree_read j text numbers nests is)

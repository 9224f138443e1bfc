use Rattle.std.proofs.Common.{◌∙◌, ap, option_map, string_bytes}
use Rattle.std.proofs.lemmas.Result.{IfOk-weaker}
use Rattle.hex.specs.Hex.{encode_lower}
use Rattle.run_file.proofs.Texts.{told}
use Rattle.run_file.specs.RunFile.{between_commas}
use Rattle.run_file.proofs.text.run_text.Goals as goal

pub returns : goal.returns
returns c =
    IfOk-weaker c.format.result _ _
    (λ text e. e ∙ told c.args.identity.now (option_map (λ k. k.now) c.args.key) (string_bytes c.in_ok-tree.tree)
    (string_bytes c.in_ok-weights.weights) (string_bytes c.in_ok-key.key) (c.in_ok-tree.ensures ∙ ap encode_lower c.as_slice.ensures) (c.in_ok-weights.ensures ∙ ap between_commas c.as_slice-2.ensures.value)
    c.in_ok-key.ensures)
    c.format.ensures.ok

use Rattle.std.proofs.Common.{◌≡◌, ◌++◌, ◌∷◌, [], IfOk, codes, rules, append_assoc, string_bytes}
use Rattle.faults.specs.Bytes.{line_feed}
use Rattle.program_io.specs.NodeLine.{node_front}
use Rattle.program_io.proofs.node_line.node_text.Goals as goal

pub returns-in-None : goal.returns-in-None
returns-in-None c =
    let line : IfOk c.format-in-None.result (λ text. string_bytes text ≡ node_front c.args.node ++ codes "down" ++ line_feed ∷ []) =
    search (rules, append_assoc) in
    rw c.in-None.is line

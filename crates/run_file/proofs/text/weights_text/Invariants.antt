use Rattle.std.proofs.Common.{◌≡◌, ◌∷◌, ◌++◌, flat_map, string_bytes, take}
use Rattle.std.specs.Fmt.{decimal}
use Rattle.faults.specs.Bytes.{comma}
use Rattle.run_file.proofs.text.weights_text.Given as goal

abbrev pub invariant-loop-weight : goal.invariant-loop-weight
invariant-loop-weight l =
    string_bytes l.text ≡ decimal l.first ++ flat_map (λ n. comma ∷ decimal n) (take l.weight-index l.others)

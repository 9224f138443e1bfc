use Rattle.std.proofs.Common.{◌≡◌, string_bytes, take}
use Rattle.dpbn_node.specs.Given.{with_commas}
use Rattle.dpbn_node.proofs.given.text_of.Given as goal

abbrev pub invariant-loop-number : goal.invariant-loop-number
invariant-loop-number l = string_bytes l.text ≡ with_commas (take l.number-index l.numbers)

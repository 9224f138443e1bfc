use Rattle.std.proofs.Common.{[], arith}
use Rattle.stable_record.specs.Pasts.{just_found}
use Rattle.dpbn_node.proofs.given.log_of_file.Given as goal

abbrev pub ghost-new : goal.ghost-new
ghost-new a = just_found record { list = []; are_bytes = λ k. omega arith }

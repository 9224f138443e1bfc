use Rattle.std.proofs.Common.{◌∙◌, IfOk, subst, sym}
use Rattle.node.specs.Step.{Does}
use Rattle.turn_rules.proofs.Answered.{built_readied, failed_right, memory_else, only_memory}
use Rattle.turn_rules.specs.CausedSteps.{IsCausedStep}
use Rattle.turn_rules.proofs.answering.answered.Goals as goal

pub returns-in_default-clause-refused : goal.returns-in_default-clause-refused
returns-in_default-clause-refused g c w =
    only_memory c.args.node.now c.requires.up c.args.unit w c.args.name c.args.given
    c.requires.parts c.make_ready.result c.make_ready.ensures.refused

pub returns-in-Ok-clause-readied : goal.returns-in-Ok-clause-readied
returns-in-Ok-clause-readied g c w =
    built_readied c.args.node.now c.requires.up c.args.unit w c.args.name c.args.given
    c.requires.parts c.in-Some.packages c.in-Some.is c.in_ok-path.path c.in_ok-path.ensures
    c.make_ready-2.new.node c.make_ready-2.ensures.same c.in-Ok.readied c.in-Ok.ensures.readied

pub returns-in-Err-clause-readied : goal.returns-in-Err-clause-readied
returns-in-Err-clause-readied g c w =
    subst (λ input. IfOk c.make_ready-in-Err.result
    (IsCausedStep c.make_ready-in-Err.new.node (Does input)))
    (sym (failed_right c.args.node.now c.requires.up c.args.unit w c.args.name c.args.given
    c.requires.parts c.in-Some.packages c.in-Some.is c.in_ok-path.path c.in_ok-path.ensures
    c.in-Err.fault c.in-Err.ensures.refused (sym c.is_bad_files.ensures ∙ c.if-is_bad_files.true)))
    c.make_ready-in-Err.ensures.readied

pub returns-in-Err-2-clause-refused : goal.returns-in-Err-2-clause-refused
returns-in-Err-2-clause-refused g c w =
    memory_else c.args.node.now c.requires.up c.args.unit w c.args.name c.args.given
    c.requires.parts c.in-Some.packages c.in-Some.is c.in_ok-path.path c.in_ok-path.ensures
    c.in-Err.fault c.in-Err.ensures.refused (sym c.is_bad_files.ensures ∙ c.if-is_bad_files.false)

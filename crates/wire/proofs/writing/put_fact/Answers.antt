use Rattle.std.proofs.Common.{◌≡◌, ◌++◌, sym, ap, subst, ◌∙◌, append_assoc}
use Rattle.std.specs.Result.{IfOk}
use Rattle.faults.specs.Bytes.{Text}
use Rattle.ballots.specs.Value.{Value}
use Rattle.ballots.specs.declared.message.Fact.{Fact}
use Rattle.wire.specs.Spelling.{claim_text, fact_text, sized_build}
use Rattle.wire.proofs.writing.put_fact.Goals as goal

pub returns-in_ok-put_claim-in-Voted : goal.returns-in_ok-put_claim-in-Voted
returns-in_ok-put_claim-in-Voted c =
    let front = c.args.out.now.items in
    let claim = claim_text c.in-Voted.claim in
    let build = sized_build c.in-Voted.build in
    let both = ap (λ (t : Text). t ++ build) c.in_ok-put_claim-in-Voted.ensures ∙ append_assoc front claim build
    ∙ ap (λ (f : Fact Value). front ++ fact_text f) (sym c.in-Voted.is) in
    subst (λ (t : Text). IfOk c.put_size.result (λ text. c.put_size.new.out.items ++ text.items ≡ t)) both c.put_size.ensures

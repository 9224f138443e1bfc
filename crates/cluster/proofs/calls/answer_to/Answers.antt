use Rattle.std.proofs.Common.{IfErr, subst, sym}
use Rattle.std.proofs.lemmas.Result.{IfOk-weaker}
use Rattle.cluster.proofs.Statuses.{build_status}
use Rattle.cluster.proofs.calls.answer_to.Goals as goal
use Rattle.cluster.specs.Stopped.{RefusesCall}

pub returns-in-Node-clause-refused : goal.returns-in-Node-clause-refused
returns-in-Node-clause-refused g c =
    subst (λ call. IfErr c.node_of_words.result (RefusesCall call)) (sym c.in-Node.is) c.node_of_words.ensures.refused

pub returns-in-Build-clause-status : goal.returns-in-Build-clause-status
returns-in-Build-clause-status g c =
    IfOk-weaker c.build_of_words.result _ _
    (λ answer is. build_status _ _ _ _ answer.text.items answer.status is)
    c.build_of_words.ensures.ok

pub returns-in-Build-clause-refused : goal.returns-in-Build-clause-refused
returns-in-Build-clause-refused g c =
    subst (λ call. IfErr c.build_of_words.result (RefusesCall call)) (sym c.in-Build.is) c.build_of_words.ensures.refused

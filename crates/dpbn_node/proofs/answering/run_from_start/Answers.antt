use Rattle.std.proofs.Common.{inl, inr, ⊎_elim}
use Rattle.std.proofs.lemmas.Result.{IfOk-weaker, IfErr-weaker, err_from_is_err_and}
use Rattle.dpbn_node.proofs.answering.run_from_start.Goals as goal

pub returns-in_err-solo-clause-refused : goal.returns-in_err-solo-clause-refused
returns-in_err-solo-clause-refused g c =
    let p = err_from_is_err_and c.from_residual-in_err-solo.result
    c.from_residual-in_err-solo.ensures.1 in
    rw (p.1, p.2) (⊎_elim (λ system. inl system) (λ log. inr (inr (inr (inr log))))
    c.in_err-solo.ensures.refused)

pub returns-clause-member : goal.returns-clause-member
returns-clause-member g c =
    IfOk-weaker c.after_turns.result _ _ (λ solo ran. c.in_ok-begun.ensures.member)
    c.after_turns.ensures.ran

pub returns-clause-ran : goal.returns-clause-ran
returns-clause-ran g c =
    IfOk-weaker c.after_turns.result _ _
    (λ solo ran. record {
      begun = c.in_ok-begun.begun;
      has_begun = c.in_ok-begun.ensures.begun;
      opened = record {
        before = c.in_ok-solo.solo;
        opened = c.in_ok-solo.ensures.opened;
        is = ran;
      };
    }) c.after_turns.ensures.ran

pub returns-clause-refused : goal.returns-clause-refused
returns-clause-refused g c =
    IfErr-weaker c.after_turns.result _ _ (λ r memory. inl (inl memory))
    c.after_turns.ensures.refused

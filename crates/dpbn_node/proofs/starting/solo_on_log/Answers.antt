use Rattle.std.proofs.Common.{inl, subst, sym}
use Rattle.std.proofs.lemmas.Result.{err_from_is_err_and}
use Rattle.dpbn_node.specs.Runs.{IsNodeOf}
use Rattle.dpbn_node.proofs.starting.solo_on_log.Goals as goal

pub returns-in_err-write_unwritten-clause-refused :
    goal.returns-in_err-write_unwritten-clause-refused
returns-in_err-write_unwritten-clause-refused c =
    let p = err_from_is_err_and c.from_residual-in_err-write_unwritten.result
    c.from_residual-in_err-write_unwritten.ensures.1 in
    rw (p.1, p.2) (inl c.in_err-write_unwritten.ensures)

pub returns-clause-opened : goal.returns-clause-opened
returns-clause-opened c =
    let solo = c.new.ensures in
    record {
      node = subst (λ n. IsNodeOf c.args.tree.now c.args.weights.now c.args.me c.args.start.disk n)
          (sym solo.node) c.in_ok-node.ensures.opened;
      pending = solo.pending;
      port = solo.port;
    }

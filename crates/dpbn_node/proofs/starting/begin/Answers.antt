use Rattle.std.proofs.Common.{inl, inr, option_map, string_bytes, subst, ◌∙◌}
use Rattle.std.proofs.lemmas.Result.{err_from_is_err_and}
use Rattle.dpbn_node.specs.Keys.{shown_of}
use Rattle.dpbn_node.specs.Starts.{IsStartRefusal}
use Rattle.run_file.specs.Starts.{IsStarted}
use Rattle.dpbn_node.proofs.starting.begin.Goals as goal

pub returns-in_err-start-clause-refused : goal.returns-in_err-start-clause-refused
returns-in_err-start-clause-refused g c =
    let p = err_from_is_err_and c.from_residual.result
    c.from_residual.ensures.1 in
    rw (p.1, p.2) (inr (inr (inl (subst (λ i. IsStartRefusal
    (g.F.LogFolder.had_mode c.args.folder.now) (g.F.LogFolder.gave c.args.folder.now i.me) i
    (shown_of c.args.place.sealing.key) c.args.place.is_continued c.in_err-start.field-0.0)
    c.identity_of-identity.ensures c.in_err-start.ensures.refused))))

pub returns-clause-begun : goal.returns-clause-begun
returns-clause-begun g c =
    let guard = c.guard-guard.ensures in
    let port = c.in_ok-port.ensures in
    let start = c.in_ok-start.start in
    record {
      started = subst (λ i. IsStarted (g.F.LogFolder.gave c.args.folder.now i.me)
          (g.F.LogFolder.known c.args.folder.now i.me) i (shown_of c.args.place.sealing.key)
          c.args.place.is_continued start.disk (option_map string_bytes start.unwritten))
          c.identity_of-identity.ensures c.in_ok-start.ensures.started;
      seated = record { seat = port.seat; lone = port.lone; addresses = port.addresses };
      guarded = record {
        opens = port.sealed.0 ∙ guard.sealed;
        seals = port.sealed.1 ∙ guard.sealed;
        sealed = λ some. port.open ∙ guard.closed some;
        closed = λ no. port.open ∙ guard.members no;
      };
      empty = port.empty;
    }

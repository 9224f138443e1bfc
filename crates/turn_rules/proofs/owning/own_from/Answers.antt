use Rattle.std.specs.List.{list_any}
use Rattle.std.proofs.Common.{◌==◌, ◌||◌, ℕ, Some, subst, sym}
use Rattle.std.proofs.lemmas.Result.{err_from_is_err_and}
use Rattle.turn_rules.specs.Pending.{has_failed}
use Rattle.turn_rules.proofs.DoingOwn.{no_memory, no_part, own_of, some_of}
use Rattle.turn_rules.specs.Unfailed.{AllFailedBelow}
use Rattle.turn_rules.proofs.owning.own_from.Goals as goal

pub input_of-requires : goal.input_of-requires
input_of-requires g c =
    subst (λ s. AllFailedBelow s c.args.pending.now c.args.from) (sym c.member.ensures.member)
    c.requires.below

pub returns-in_err-input-clause-refused : goal.returns-in_err-input-clause-refused
returns-in_err-input-clause-refused g c =
    let p = err_from_is_err_and c.from_residual.result c.from_residual.ensures.1 in
    let barred = λ (u : ℕ). has_failed c.args.pending.now u || list_any (λ (v : ℕ). v == u) c.args.elsewhere.now in
    rw p.1 (no_memory c.args.node.now c.args.above barred p.0 p.2
    (some_of c.args.node.now.node.member c.member.result.now c.member.ensures.member c.args.above
    barred c.in_err-input.ensures.due))

pub returns-in_err-make_ready-in-Some-clause-refused :
    goal.returns-in_err-make_ready-in-Some-clause-refused
returns-in_err-make_ready-in-Some-clause-refused g c =
    let p = err_from_is_err_and c.from_residual-in_err-make_ready-in-Some.result
    c.from_residual-in_err-make_ready-in-Some.ensures.1 in
    rw p.1 (
      Some c.in-Some.input,
      own_of c.args.node.now.node.member c.member.result.now c.member.ensures.member c.args.above
          (λ u. has_failed c.args.pending.now u || list_any (λ v. v == u) c.args.elsewhere.now)
          c.in_ok-input.field-0 c.in-Some.input c.in-Some.is c.in_ok-input.ensures.own,
      no_part c.args.node.now c.make_ready.new.node c.make_ready.ensures.same c.in-Some.input
          p.0 c.in_err-make_ready-in-Some.field-0.0 p.2
          c.in_err-make_ready-in-Some.ensures.refused,
    )

pub returns-in_ok-make_ready-in-Some-clause-part :
    goal.returns-in_ok-make_ready-in-Some-clause-part
returns-in_ok-make_ready-in-Some-clause-part g c = (
  Some c.in-Some.input,
  own_of c.args.node.now.node.member c.member.result.now c.member.ensures.member c.args.above
      (λ u. has_failed c.args.pending.now u || list_any (λ v. v == u) c.args.elsewhere.now)
      c.in_ok-input.field-0 c.in-Some.input c.in-Some.is c.in_ok-input.ensures.own,
  c.in_ok-make_ready-in-Some.ensures.readied,
)

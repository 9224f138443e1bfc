use Rattle.std.proofs.Common.{◌∙◌, Option, None, Some, ap, append-nil, arith, map, sym}
use Rattle.std.proofs.Common.{option_map}
use Rattle.std.proofs.lemmas.List.{take_all}
use Rattle.std.specs.Prelude.{filter_map}
use Rattle.faults.specs.Bytes.{Text}
use Rattle.claims.specs.declared.deps.Dep.{Dep}
use Rattle.protocol.specs.Jobs.{signature}
use Rattle.protocol.specs.State.{held_record}
use Rattle.member.proofs.Signing.{given_more}
use Rattle.member.proofs.member.Member.sign.Goals as goal
use Rattle.member.proofs.member.Member.sign.Goals.{in-Some+in_ok-add, in_default}

pub loop-path-preserved : goal.loop-path-preserved
loop-path-preserved c =
    let sign : Text → Option Dep = λ path. option_map signature (held_record c.args.self.now path)
    in
    let items = c.args.paths.now in
    let k = c.loop-path.path-index in
    let before = c.loop-path.deps.items in
    let after = c.match-held_record.deps.items in
    elim c.match-held_record.branch [
      | in-Some+in_ok-add w ↦
          given_more (λ path. path.now) sign items k c.path-item.result
          (Some (signature w.in-Some.held)) before after c.loop-path-test.true c.path-item.is
          (ap (option_map signature) (sym c.held_record.ensures ∙ w.in-Some.is))
          c.loop-path.invariant (ap (λ v. v.items) w.deps-is ∙ w.in_ok-add.ensures)
      | in_default w ↦
          given_more (λ path. path.now) sign items k c.path-item.result None before after
          c.loop-path-test.true c.path-item.is
          (ap (option_map signature) (sym c.held_record.ensures ∙ w.in_default.is))
          c.loop-path.invariant (ap (λ v. v.items) w.deps-is ∙ sym (append-nil before))
    ]

pub returns : goal.returns
returns c =
    let sign : Text → Option Dep = λ path. option_map signature (held_record c.args.self.now path)
    in
    c.loop-path.invariant
    ∙ ap (λ xs. filter_map sign (map (λ path. path.now) xs))
    (take_all c.loop-path.path-index c.args.paths.now (omega (arith, c.loop-path-test.false)))

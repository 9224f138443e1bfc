use Rattle.std.proofs.Common.{◌∙◌, Option, ap, map, option_map}
use Rattle.std.specs.Prelude.{filter_map}
use Rattle.faults.specs.Bytes.{Text}
use Rattle.claims.specs.declared.deps.Dep.{Dep}
use Rattle.engine.specs.Division.{unit_at}
use Rattle.protocol.specs.Jobs.{in_order_of_path, signature}
use Rattle.protocol.specs.State.{State, held_record}
use Rattle.member.proofs.member.Member.deps.Goals as goal

pub returns : goal.returns
returns c =
    let s = c.args.self.now in
    let sign : Text → Option Dep = λ path. option_map signature (held_record s path) in
    let tree = c.self.invariant.tree ∙ ap (λ (x : State). x.division.tree) c.self.view_is in
    c.new.ensures
    ∙ (c.in_ok-sign.ensures
    ∙ (ap (λ xs. filter_map sign (map (λ path. path.now) xs)) c.as_slice.ensures.value
    ∙ (ap (filter_map sign) c.in_ok-paths.ensures
    ∙ ((λ i. filter_map sign (in_order_of_path (tree i) (c.build_deps.ensures.value i)))
    ∙ ap (λ (x : State). filter_map sign (in_order_of_path s.division.tree
    (unit_at x.division c.args.unit).build)) c.self.view_is))))

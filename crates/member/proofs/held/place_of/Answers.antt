use Rattle.std.proofs.Common.{◌<◌, Some, ap, length, subst, sym, rules, ◌∙◌}
use Rattle.std.specs.List.{slice_index_or}
use Rattle.std.proofs.lemmas.Fn.{always_returns_same}
use Rattle.faults.specs.Pieces.{text_cmp}
use Rattle.package_record.specs.Content.{Content}
use Rattle.protocol.specs.State.{Value, record_in}
use Rattle.member.proofs.FoundRecords.{found_by, none_by}
use Rattle.member.proofs.held.place_of.Goals as goal

pub returns-in-Ok : goal.returns-in-Ok
returns-in-Ok c =
    let path = c.args.path.now in
    let rs = c.packages-records.result.now in
    let same = c.packages-records.ensures.records in (
      subst (λ (v : Value). c.in-Ok.place < length v) same c.in-Ok.ensures.bound,
      λ r. ap (record_in path) (sym same)
          ∙ (found_by path rs c.in-Ok.place r c.packages-records.ensures.ascending
          c.in-Ok.ensures.bound (c.in-Ok.ensures.position (λ (r : Content). text_cmp r.path path)
          (always_returns_same _ _ _ (λ a r f called. search rules)))
          ∙ ap (λ (v : Value). Some (slice_index_or v c.in-Ok.place r)) same),
    )

pub returns-in-Err : goal.returns-in-Err
returns-in-Err c =
    let path = c.args.path.now in
    ap (record_in path) (sym c.packages-records.ensures.records)
    ∙ none_by path c.packages-records.result.now c.in-Err.field-0
    c.packages-records.ensures.ascending
    (c.in-Err.ensures.position (λ (r : Content). text_cmp r.path path)
    (always_returns_same _ _ _ (λ a r f called. search rules)))

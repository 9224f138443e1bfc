use Rattle.std.proofs.Common.{◌≡◌, ◌+◌, ◌∙◌, ◌++◌, ℕ, List, Some, ap, arith, drop, inr, length, refl, sym}
use Rattle.std.proofs.lemmas.List.{length-map}
use Rattle.faults.specs.Bytes.{Text}
use Rattle.package_record.specs.Content.{Content}
use Rattle.protocol.specs.Events.{event_view, node_of}
use Rattle.simulator.specs.History.{taken}
use Rattle.dpbr_run.specs.Events.{event_line}
use Rattle.dpbr_run.proofs.EventLines.{no_longer}
use Rattle.dpbr_run.proofs.events.take_telling.Goals as goal

pub split_at-requires : goal.split_at-requires
split_at-requires c =
    omega (
      arith,
      no_longer c.args.world.now.world.agreed c.step.new.self.world.agreed c.step.ensures.grows,
      ap length c.agreed-count.ensures.list,
      ap length c.agreed.ensures.list,
    )

pub returns-in-Ok-put_line-clause-taken : goal.returns-in-Ok-put_line-clause-taken
returns-in-Ok-put_line-clause-taken c =
    let w = c.args.world.now in
    let v = c.step.new.self in
    let old : Text = c.args.text.now.items in
    let node = node_of (event_view c.args.event.now) in
    let noted = c.in-Ok.done.noted in
    let number : length c.events.result.now + 1 ≡ length (taken w) + 1 =
    ap (λ n. n + 1) (ap length c.events.ensures.events ∙ sym (length-map w.events event_view)) in
    let packages : List Content = drop (length w.world.agreed) v.world.agreed in
    let grown : c.split_at.result.1.now ≡ packages =
    c.split_at.ensures.back ∙ ap (λ (n : ℕ). drop n c.agreed.result.now) (ap length c.agreed-count.ensures.list)
    ∙ ap (λ (l : List Content). drop (length w.world.agreed) l) c.agreed.ensures.list in
    let sent : Text = c.in-Ok-sent_text.sent.items in
    record {
      was = c.step.ensures.before;
      is = c.step.ensures.history;
      kept = c.in-Ok.ensures.kept;
      fixed = c.step.ensures.fixed;
      line = event_line (length (taken w) + 1) node noted sent packages;
      line_is = record { done = c.in-Ok.done; does = c.in-Ok.ensures.does; sent = sent; sent_is = c.in-Ok-sent_text.ensures; line_is = refl };
      appended = c.in-Ok-put_line.ensures
          ∙ ap (λ (n : ℕ). old ++ event_line n c.node_of-node.result noted c.as_slice.result.now c.split_at.result.1.now) number
          ∙ ap (λ (k : ℕ). old ++ event_line (length (taken w) + 1) k noted c.as_slice.result.now c.split_at.result.1.now) c.node_of-node.ensures
          ∙ ap (λ (t : Text). old ++ event_line (length (taken w) + 1) node noted t c.split_at.result.1.now) c.as_slice.ensures.value
          ∙ ap (λ (l : List Content). old ++ event_line (length (taken w) + 1) node noted sent l) grown;
    }

pub returns-in-Err-clause-refused : goal.returns-in-Err-clause-refused
returns-in-Err-clause-refused c =
    let w = c.args.world.now in
    let number : length c.events.result.now + 1 ≡ length (taken w) + 1 =
    ap (λ n. n + 1) (ap length c.events.ensures.events ∙ sym (length-map w.events event_view)) in
    inr (ap Some number, c.step.ensures.before, c.in-Err.ensures.refused)

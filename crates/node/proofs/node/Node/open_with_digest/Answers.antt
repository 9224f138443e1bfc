use Rattle.std.proofs.Common.{◌∙◌, Ok, map, subst, sym}
use Rattle.stable_record.specs.History.{seen}
use Rattle.stable_record.specs.Log.{gate_place, note_of}
use Rattle.stable_record.specs.Opening.{Opens}
use Rattle.node.proofs.AtFirst.{not_begun}
use Rattle.node.proofs.OneNode.{opens_as_one, whichever}
use Rattle.node.proofs.Opened.{both_err, both_ok, log_refused, log_untouched, notes_refused, notes_untouched, opens_as, owner_of_new, told_device}
use Rattle.node.specs.OnLog.{identity}
use Rattle.node.proofs.node.Node.open_with_digest.Goals as goal

pub returns-in_default-clause-any_moment_err : goal.returns-in_default-clause-any_moment_err
returns-in_default-clause-any_moment_err g c = λ kept. not_begun (identity c.args.tree.now c.args.weights.now c.args.me) (g.D.Disk.history c.args.disk)

pub returns-in-Ok-open-clause-notes : goal.returns-in-Ok-open-clause-notes
returns-in-Ok-open-clause-notes g c =
    let m = c.in-Ok.member in
    let texts = map note_of c.as_slice.result.now in
    let file = seen (g.D.Disk.history c.args.disk) in
    both_ok c.over.result _ _ _ (λ n is same kept.
    let opens = subst (λ ts. Opens c.owner-owner.result file (Ok (map note_of ts))) (sym c.as_slice.ensures.value)
    (c.in-Ok-open.ensures.notes (subst (λ l. g.D.Disk.is_kept l.disk) same kept)) in
    opens_as m c.args.tree.now c.args.weights.now c.args.me c.in-Ok.ensures.fresh c.in-Ok.ensures.tree texts n.node is c.owner-owner.result (c.owner-owner.ensures.identity ∙ owner_of_new c.in-Ok.member c.args.tree.now c.args.weights.now c.args.me c.in-Ok.ensures.fresh c.in-Ok.ensures.tree) file opens)
    c.over.ensures.node c.over.ensures.log

pub returns-in-Ok-open-clause-one_node : goal.returns-in-Ok-open-clause-one_node
returns-in-Ok-open-clause-one_node g c =
    whichever c.over.result _ _ (opens_as_one c.args.tree.now c.args.weights.now c.args.me c.owner-owner.result (c.owner-owner.ensures.identity ∙ owner_of_new c.in-Ok.member c.args.tree.now c.args.weights.now c.args.me c.in-Ok.ensures.fresh c.in-Ok.ensures.tree) c.in-Ok-open.ensures.one_answer)

pub returns-in-Ok-open-clause-refused : goal.returns-in-Ok-open-clause-refused
returns-in-Ok-open-clause-refused g c =
    let texts = map note_of c.as_slice.result.now in
    let old = g.D.Disk.history c.args.disk in
    both_err c.over.result _ _ _ (λ e bad same kept.
    let opens = subst (λ ts. Opens c.owner-owner.result (seen old) (Ok (map note_of ts))) (sym c.as_slice.ensures.value)
    (c.in-Ok-open.ensures.notes (subst g.D.Disk.is_kept same kept)) in
    notes_refused c.args.tree.now c.args.weights.now c.args.me c.owner-owner.result (c.owner-owner.ensures.identity ∙ owner_of_new c.in-Ok.member c.args.tree.now c.args.weights.now c.args.me c.in-Ok.ensures.fresh c.in-Ok.ensures.tree) c.in-Ok.member.division c.in-Ok.ensures.tree c.in-Ok.ensures.division texts old
    (g.D.Disk.history e.1) opens e.0 bad)
    c.over.ensures.refused c.over.ensures.disk

pub returns-in-Ok-open-clause-untouched : goal.returns-in-Ok-open-clause-untouched
returns-in-Ok-open-clause-untouched g c =
    let texts = map note_of c.as_slice.result.now in
    let old = g.D.Disk.history c.args.disk in
    both_err c.over.result _ _ _ (λ e bad same kept.
    let opens = subst (λ ts. Opens c.owner-owner.result (seen old) (Ok (map note_of ts))) (sym c.as_slice.ensures.value)
    (c.in-Ok-open.ensures.notes (subst g.D.Disk.is_kept same kept)) in
    notes_untouched c.args.tree.now c.args.weights.now c.args.me c.owner-owner.result (c.owner-owner.ensures.identity ∙ owner_of_new c.in-Ok.member c.args.tree.now c.args.weights.now c.args.me c.in-Ok.ensures.fresh c.in-Ok.ensures.tree) c.in-Ok.member.division c.in-Ok.ensures.tree c.in-Ok.ensures.division texts old
    (g.D.Disk.history e.1) opens c.in-Ok-open.ensures.one_answer e.0 bad)
    c.over.ensures.refused c.over.ensures.disk

pub returns-in-Err-clause-one_node : goal.returns-in-Err-clause-one_node
returns-in-Err-clause-one_node g c = λ other.
    opens_as_one c.args.tree.now c.args.weights.now c.args.me c.owner-owner.result (c.owner-owner.ensures.identity ∙ owner_of_new c.in-Ok.member c.args.tree.now c.args.weights.now c.args.me c.in-Ok.ensures.fresh c.in-Ok.ensures.tree) c.in-Err.ensures.one_answer

pub returns-in-Err-clause-refused : goal.returns-in-Err-clause-refused
returns-in-Err-clause-refused g c = λ kept.
    rw c.told.ensures
    (log_refused c.args.tree.now c.args.weights.now c.args.me c.owner-owner.result (c.owner-owner.ensures.identity ∙ owner_of_new c.in-Ok.member c.args.tree.now c.args.weights.now c.args.me c.in-Ok.ensures.fresh c.in-Ok.ensures.tree) (g.D.Disk.history c.args.disk) (g.D.Disk.history c.in-Err.disk) c.in-Err.fault
    (c.in-Err.ensures.refused kept) c.in-Err.ensures.no_append)

pub returns-in-Err-clause-untouched : goal.returns-in-Err-clause-untouched
returns-in-Err-clause-untouched g c = λ kept.
    rw c.told.ensures
    (log_untouched c.args.tree.now c.args.weights.now c.args.me c.owner-owner.result (c.owner-owner.ensures.identity ∙ owner_of_new c.in-Ok.member c.args.tree.now c.args.weights.now c.args.me c.in-Ok.ensures.fresh c.in-Ok.ensures.tree) (g.D.Disk.history c.args.disk) (g.D.Disk.history c.in-Err.disk) c.in-Err.fault
    (c.in-Err.ensures.refused kept))

pub returns-in-Err-clause-device : goal.returns-in-Err-clause-device
returns-in-Err-clause-device g c = λ told. c.in-Err.ensures.device (told_device c.in-Err.fault (rw c.told.ensures at told))

pub over-requires-clause-owner : goal.over-requires-clause-owner
over-requires-clause-owner g c = c.in-Ok-open.ensures.owner ∙ c.owner-owner.ensures.identity

pub over-requires-clause-end : goal.over-requires-clause-end
over-requires-clause-end g c =
    c.in-Ok-open.ensures.end ∙ λ j. gate_place (sym c.in-Ok-open.ensures.owner j) (map note_of (sym c.as_slice.ensures.value j))

use Rattle.std.proofs.lemmas.Grind.{common_steps}
use Rattle.std.proofs.Common.{inl, inr, [], map, refl, ◌∙◌, arith}
use Rattle.std.proofs.lemmas.Result.{err_from_is_err_and}
use Rattle.stable_record.specs.History.{seen}
use Rattle.stable_record.specs.Log.{note_of}
use Rattle.stable_record.proofs.AsLeft.{synced_along, synced_or_not, repaired_along, synced_on_disk, one_sync, opened_blank, opened_notes, opened_refused}
use Rattle.stable_record.proofs.opening.ready.Goals as goal

pub returns-in_err-file-clause-any_moment : goal.returns-in_err-file-clause-any_moment
returns-in_err-file-clause-any_moment g c kept =
    let disk = c.args.disk.now in
    synced_or_not c.args.identity.now (g.D.Disk.history disk) (g.met.D.Disk.stays_possible disk) (g.D.Disk.history c.synced_bytes.new.disk) (c.in_err-file.ensures.failed kept)

pub returns-in_err-opening_of-clause-any_moment : goal.returns-in_err-opening_of-clause-any_moment
returns-in_err-opening_of-clause-any_moment g c kept =
    let disk = c.args.disk.now in
    synced_along c.args.identity.now (g.D.Disk.history disk) (g.met.D.Disk.stays_possible disk) (g.D.Disk.history c.synced_bytes.new.disk) (c.in_ok-file.ensures.synced kept)

pub returns-in_err-opening_of-clause-refused : goal.returns-in_err-opening_of-clause-refused
returns-in_err-opening_of-clause-refused g c = λ kept.
    let h = g.D.Disk.history c.args.disk.now in
    let read = c.deref.ensures.value ∙ c.in_ok-file.ensures.bytes kept in
    let p = err_from_is_err_and c.from_residual-in_err-opening_of.result c.from_residual-in_err-opening_of.ensures.1 in
    rw (p.1, p.2) (λ which. (
      opened_refused c.args.identity.now c.deref.result.now (seen h) c.in_err-opening_of.field-0.0 read c.in_err-opening_of.ensures.refused which,
      one_sync h (g.D.Disk.history c.synced_bytes.new.disk) (c.in_ok-file.ensures.synced kept),
    ))

pub returns-in_err-owner-in-Blank-clause-any_moment : goal.returns-in_err-owner-in-Blank-clause-any_moment
returns-in_err-owner-in-Blank-clause-any_moment g c kept =
    let disk = c.args.disk.now in
    synced_along c.args.identity.now (g.D.Disk.history disk) (g.met.D.Disk.stays_possible disk) (g.D.Disk.history c.synced_bytes.new.disk) (c.in_ok-file.ensures.synced kept)

pub returns-in_err-place-in-Blank-clause-any_moment : goal.returns-in_err-place-in-Blank-clause-any_moment
returns-in_err-place-in-Blank-clause-any_moment g c kept =
    let i = c.args.identity.now in
    let h = g.D.Disk.history c.args.disk.now in
    let mid = g.D.Disk.history c.synced_bytes.new.disk in
    let kept1 = c.make.ensures.kept kept in
    let is = c.in_ok-file.ensures.synced kept1 in
    let read = c.deref.ensures.value ∙ c.in_ok-file.ensures.bytes kept1 in
    let blank = opened_blank i c.deref.result.now (seen h) c.in_ok-opening_of.field-0 read c.in_ok-opening_of.ensures.ok c.in-Blank.is in
    repaired_along i h (g.met.D.Disk.stays_possible c.args.disk.now) c.opening_of.ensures.tree [] mid (g.D.Disk.history c.make.new.disk) is (inl (blank, refl))
    (c.make.ensures.any_moment kept i c.in_ok-owner-in-Blank.ensures.bytes (synced_on_disk h mid is) (rw is blank))

pub returns-in-Blank-clause-any_moment : goal.returns-in-Blank-clause-any_moment
returns-in-Blank-clause-any_moment g c kept =
    let i = c.args.identity.now in
    let h = g.D.Disk.history c.args.disk.now in
    let mid = g.D.Disk.history c.synced_bytes.new.disk in
    let kept1 = c.make.ensures.kept kept in
    let is = c.in_ok-file.ensures.synced kept1 in
    let read = c.deref.ensures.value ∙ c.in_ok-file.ensures.bytes kept1 in
    let blank = opened_blank i c.deref.result.now (seen h) c.in_ok-opening_of.field-0 read c.in_ok-opening_of.ensures.ok c.in-Blank.is in
    repaired_along i h (g.met.D.Disk.stays_possible c.args.disk.now) c.opening_of.ensures.tree [] mid (g.D.Disk.history c.make.new.disk) is (inl (blank, refl))
    (c.make.ensures.any_moment kept i c.in_ok-owner-in-Blank.ensures.bytes (synced_on_disk h mid is) (rw is blank))

pub returns-in_err-trim-in-Notes-clause-any_moment : goal.returns-in_err-trim-in-Notes-clause-any_moment
returns-in_err-trim-in-Notes-clause-any_moment g c kept =
    let i = c.args.identity.now in
    let h = g.D.Disk.history c.args.disk.now in
    let mid = g.D.Disk.history c.synced_bytes.new.disk in
    let kept1 = c.trim.ensures.kept kept in
    let is = c.in_ok-file.ensures.synced kept1 in
    let read = c.deref.ensures.value ∙ c.in_ok-file.ensures.bytes kept1 in
    let notes = map note_of c.in-Notes.notes.items in
    let found = opened_notes i c.deref.result.now (seen h) c.in_ok-opening_of.field-0 c.in-Notes.notes c.in-Notes.end read c.in_ok-opening_of.ensures.ok c.in-Notes.is in
    repaired_along i h (g.met.D.Disk.stays_possible c.args.disk.now) c.opening_of.ensures.tree notes mid (g.D.Disk.history c.trim.new.disk) is (inr found.0)
    (c.trim.ensures.any_moment kept i notes (synced_on_disk h mid is) (rw is found.0) found.1)

pub returns-clause-any_moment : goal.returns-clause-any_moment
returns-clause-any_moment g c kept =
    let i = c.args.identity.now in
    let h = g.D.Disk.history c.args.disk.now in
    let mid = g.D.Disk.history c.synced_bytes.new.disk in
    let kept1 = c.trim.ensures.kept kept in
    let is = c.in_ok-file.ensures.synced kept1 in
    let read = c.deref.ensures.value ∙ c.in_ok-file.ensures.bytes kept1 in
    let notes = map note_of c.in-Notes.notes.items in
    let found = opened_notes i c.deref.result.now (seen h) c.in_ok-opening_of.field-0 c.in-Notes.notes c.in-Notes.end read c.in_ok-opening_of.ensures.ok c.in-Notes.is in
    repaired_along i h (g.met.D.Disk.stays_possible c.args.disk.now) c.opening_of.ensures.tree notes mid (g.D.Disk.history c.trim.new.disk) is (inr found.0)
    (c.trim.ensures.any_moment kept i notes (synced_on_disk h mid is) (rw is found.0) found.1)

pub returns-clause-fits : goal.returns-clause-fits
returns-clause-fits g c = grind (arith, common_steps)

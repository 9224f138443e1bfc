use Rattle.std.proofs.Common.{◌≡◌, ◌∷◌, ◌++◌, [], List, Ok, ◌∙◌, map, sym, subst}
use Rattle.stable_record.specs.Crash.{AllAlong, Leaves}
use Rattle.stable_record.specs.History.{seen}
use Rattle.stable_record.specs.Log.{HasBeforeOrAfter, HasNotes, Note, note_of}
use Rattle.stable_record.specs.OpenLog.{Holds}
use Rattle.stable_record.specs.Opening.{Opens}
use Rattle.stable_record.specs.RealFile.{file_agrees, file_history}
use Rattle.check_log.specs.RealFile.{IsAsBeforeOrAfter}
use Rattle.check_log.proofs.RealFile.{appended_along, on_ok, opened_along, settled_leaves}
use Rattle.check_log.proofs.real_file.append_to_file.Goals as goal

pub returns-in-Err-clause-any_moment : goal.returns-in-Err-clause-any_moment
returns-in-Err-clause-any_moment g c kept =
    opened_along c.args.identity.now g.past.calls c.args.note.now (file_history c.new.result) (file_history c.in-Err.disk) c.new.ensures.history (c.in-Err.ensures.any_moment_err kept)

pub returns-in-Ok-clause-any_moment : goal.returns-in-Ok-clause-any_moment
returns-in-Ok-clause-any_moment g c kept =
    let i = c.args.identity.now in
    let start = g.past.calls in
    let note = c.args.note.now in
    let log = c.in-Ok.log in
    let after = c.append-answer.new.self in
    let notes = map note_of c.in-Ok._notes.items in
    let kept2 : file_agrees after.disk = subst file_agrees c.into_disk.ensures kept in
    let kept1 : file_agrees log.disk = c.append-answer.ensures.kept kept2 in
    let opened = opened_along i start note (file_history c.new.result) (file_history log.disk) c.new.ensures.history (c.in-Ok.ensures.any_moment kept1) in
    let opens : Opens i (seen start) (Ok notes) = subst (λ h. Opens i (seen h) (Ok notes)) c.new.ensures.history (c.in-Ok.ensures.notes kept1) in
    let added : AllAlong (HasBeforeOrAfter i notes note) (file_history log.disk) (file_history after.disk) =
    subst (λ o. AllAlong (HasBeforeOrAfter o notes note) (file_history log.disk) (file_history after.disk)) c.in-Ok.ensures.owner (c.append-answer.ensures.any_moment kept2 notes (c.in-Ok.ensures.holds kept1)) in
    subst (λ d. AllAlong (IsAsBeforeOrAfter i start note) start (file_history d)) (sym c.into_disk.ensures) (appended_along i start note (file_history log.disk) (file_history after.disk) notes opened opens added)

pub returns-in-Ok-clause-acknowledged : goal.returns-in-Ok-clause-acknowledged
returns-in-Ok-clause-acknowledged g c kept =
    let i = c.args.identity.now in
    let start = g.past.calls in
    let note = c.args.note.now in
    let log = c.in-Ok.log in
    let after = c.append-answer.new.self in
    let notes = map note_of c.in-Ok._notes.items in
    let both : List Note = notes ++ note ∷ [] in
    let kept2 : file_agrees after.disk = subst file_agrees c.into_disk.ensures kept in
    let kept1 : file_agrees log.disk = c.append-answer.ensures.kept kept2 in
    let opens : Opens i (seen start) (Ok notes) = subst (λ h. Opens i (seen h) (Ok notes)) c.new.ensures.history (c.in-Ok.ensures.notes kept1) in
    let owner : after.identity ≡ i = c.append-answer.ensures.owner ∙ c.in-Ok.ensures.owner in
    on_ok (Holds file_history after both) ((notes : List Note) × Opens i (seen start) (Ok notes) × Leaves (HasNotes i (notes ++ note ∷ [])) (file_history c.into_disk.result)) c.append-answer.result
    (λ holds. (
      notes,
      opens,
      subst (λ d. Leaves (HasNotes i both) (file_history d)) (sym c.into_disk.ensures)
          (subst (λ o. Leaves (HasNotes o both) (file_history after.disk)) owner (settled_leaves (file_history after.disk) after.identity both after.end holds.settled)),
    ))
    (c.append-answer.ensures.acknowledged kept2 notes (c.in-Ok.ensures.holds kept1))

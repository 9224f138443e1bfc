use Rattle.std.proofs.Common.{None, inr, subst, sym}
use Rattle.std.specs.Option.{option_copied}
use Rattle.node.proofs.Finishing.{cause_told, done_invariant, done_on_log, done_taken, lacks_text, no_moments, note_moments, runs, same_fault, still_logged, still_node, still_noted}
use Rattle.node.specs.Step.{note_in}
use Rattle.node.specs.declared.fault.NodeFault.TheVariants as fault
use Rattle.node.specs.inside.Stepping.{LacksRoomFor}
use Rattle.stable_record.specs.declared.log_fault.LogFault.TheVariants as log
use Rattle.node.proofs.node.Node.finish.Goals as goal

pub returns-in-Err-clause-any_moment : goal.returns-in-Err-clause-any_moment
returns-in-Err-clause-any_moment g c =
    let i = c.self.inside in
    rw (← c.self.view_is) (λ kept on. no_moments g.D.Disk.history i.member i.noted.texts i.pieces.items i.stopped i.log c.args.ready None on)

pub invariant_of-self-in-Err-write_note : goal.invariant_of-self-in-Err-write_note
invariant_of-self-in-Err-write_note g c =
    let i = c.self.inside in
    rw (c.in-Err-write_note.ensures.not_noted, c.make_room.ensures.same)
    (still_logged g.D.Disk.history i.member i.noted.texts i.pieces.items i.stopped i.log c.write_note.new.stopped c.write_note.new.log c.in-Err-write_note.fault
    c.self.invariant c.in-Err-write_note.ensures.together c.in-Err-write_note.ensures.owner c.in-Err-write_note.ensures.same_end)

pub returns-in-Err-write_note-clause-any_moment : goal.returns-in-Err-write_note-clause-any_moment
returns-in-Err-write_note-clause-any_moment g c =
    let i = c.self.inside in
    rw (← c.self.view_is)
    (λ kept on. note_moments g.D.Disk.history i.member i.noted.texts i.pieces.items i.stopped i.log c.args.ready (option_copied c.note-note.result) _ _
    c.note-note.ensures (c.in-Err-write_note.ensures.any_moment kept) on)

pub invariant_of-self-in-Ok : goal.invariant_of-self-in-Ok
invariant_of-self-in-Ok g c =
    let i = c.self.inside in
    let ready = rw (← c.self.view_is) at c.requires.present in
    done_invariant g.D.Disk.history i.member i.noted.texts i.pieces.items i.stopped i.log c.args.ready (option_copied c.note-note.result)
    c.self.invariant ready c.note-note.ensures c.take.new.member c.write_note.new.noted.texts c.make_room.new.pieces.items c.take.new.pieces.items c.write_note.new.stopped c.write_note.new.log
    c.take.ensures.member c.in-Ok.ensures.noted c.make_room.ensures.same c.take.ensures.pieces c.in-Ok.ensures.goes_on
    c.in-Ok.ensures.together c.in-Ok.ensures.owner c.in-Ok.ensures.end

pub returns-in-Ok-clause-taken : goal.returns-in-Ok-clause-taken
returns-in-Ok-clause-taken g c =
    let i = c.self.inside in
    let ready = rw (← c.self.view_is) at c.requires.present in
    rw (← c.self.view_is)
    (done_taken g.D.Disk.history i.member i.noted.texts i.pieces.items i.stopped i.log c.args.ready (option_copied c.note-note.result)
    c.self.invariant ready c.note-note.ensures c.take.new.member c.write_note.new.noted.texts c.make_room.new.pieces.items c.take.new.pieces.items c.write_note.new.stopped c.write_note.new.log
    c.take.ensures.member c.in-Ok.ensures.noted c.make_room.ensures.same c.take.ensures.pieces c.in-Ok.ensures.goes_on
    c.take.result c.take.ensures.sends c.take.ensures.job)

pub returns-in-Ok-clause-on_log : goal.returns-in-Ok-clause-on_log
returns-in-Ok-clause-on_log g c =
    let i = c.self.inside in
    let ready = rw (← c.self.view_is) at c.requires.present in
    rw (← c.self.view_is)
    (λ kept on. done_on_log g.D.Disk.history i.member i.noted.texts i.pieces.items i.stopped i.log c.args.ready (option_copied c.note-note.result)
    c.self.invariant ready c.note-note.ensures c.take.new.member c.write_note.new.noted.texts c.make_room.new.pieces.items c.take.new.pieces.items c.write_note.new.stopped c.write_note.new.log
    c.take.ensures.member c.in-Ok.ensures.noted c.make_room.ensures.same c.take.ensures.pieces c.in-Ok.ensures.goes_on
    c.in-Ok.ensures.owner (c.in-Ok.ensures.acknowledged kept) on)

pub returns-in-Ok-clause-any_moment : goal.returns-in-Ok-clause-any_moment
returns-in-Ok-clause-any_moment g c =
    let i = c.self.inside in
    rw (← c.self.view_is)
    (λ kept on. note_moments g.D.Disk.history i.member i.noted.texts i.pieces.items i.stopped i.log c.args.ready (option_copied c.note-note.result) _ _
    c.note-note.ensures (c.in-Ok.ensures.any_moment kept) on)

pub returns-in-Err-write_note-clause-causes : goal.returns-in-Err-write_note-clause-causes
returns-in-Err-write_note-clause-causes g c =
    rw (← c.self.view_is)
    (cause_told c.self.inside.log (note_in c.args.ready.step) (option_copied c.note-note.result) c.in-Err-write_note.fault c.note-note.ensures c.in-Err-write_note.ensures.causes)

pub returns-in-Err-write_note-clause-full : goal.returns-in-Err-write_note-clause-full
returns-in-Err-write_note-clause-full g c =
    let l = c.self.inside.log in
    rw (← c.self.view_is)
    (λ lacks. inr (same_fault c.in-Err-write_note.fault (fault.Log log.Full) (c.in-Err-write_note.ensures.is_full (subst (LacksRoomFor l) (sym c.note-note.ensures) (lacks_text l (note_in c.args.ready.step) lacks)))))

pub returns-in-Err-write_note-clause-refused : goal.returns-in-Err-write_note-clause-refused
returns-in-Err-write_note-clause-refused g c =
    let i = c.self.inside in
    let ready = rw (← c.self.view_is) at c.requires.present in
    rw (c.in-Err-write_note.ensures.not_noted, c.make_room.ensures.same, ← c.self.view_is)
    (still_node g.D.Disk.history i.member i.noted.texts i.pieces.items i.stopped i.log c.write_note.new.stopped c.write_note.new.log c.in-Err-write_note.fault
    (runs _ c.args.ready ready) c.in-Err-write_note.ensures.stays)

pub returns-in-Err-write_note-clause-still_on_log : goal.returns-in-Err-write_note-clause-still_on_log
returns-in-Err-write_note-clause-still_on_log g c =
    let i = c.self.inside in
    rw (c.in-Err-write_note.ensures.not_noted, c.make_room.ensures.same, ← c.self.view_is)
    (λ kept on. still_noted g.D.Disk.history i.member i.noted.texts i.pieces.items i.stopped i.log c.write_note.new.stopped c.write_note.new.log c.in-Err-write_note.fault
    c.in-Err-write_note.ensures.owner on (c.in-Err-write_note.ensures.refused kept))

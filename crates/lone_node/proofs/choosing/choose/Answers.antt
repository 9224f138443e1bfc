use Rattle.std.proofs.Common.{◌∙◌, ap, refl, subst, sym}
use Rattle.std.proofs.lemmas.Result.{err_from_is_err_and}
use Rattle.std.specs.Prelude.{option_map}
use Rattle.turn_rules.specs.Choice.{comes_to}
use Rattle.turn_rules.specs.CausedSteps.{IsPart}
use Rattle.lone_node.proofs.Below.{still_below}
use Rattle.lone_node.proofs.Chosen.{arrival_fault, arrival_made, came_of, done_answers, done_faults, its_answer, job_made, job_wants, not_taken, taken_made}
use Rattle.lone_node.specs.Handed.{handed}
use Rattle.lone_node.specs.State.{only}
use Rattle.lone_node.specs.inside.Turning.{IsMade, solo_of}
use Rattle.lone_node.proofs.choosing.choose.Goals as goal

pub returns-in_err-readied-clause-refused : goal.returns-in_err-readied-clause-refused
returns-in_err-readied-clause-refused g c =
    let passed = handed (option_map (λ b. b.now) c.args.made) c.args.initiative in
    let p = err_from_is_err_and c.from_residual.result c.from_residual.ensures.1 in
    rw p.1 (job_wants g.P.Port
    (solo_of c.args.node.now c.args.pending.now c.args.port.now)
    (solo_of c.answered.new.node c.args.pending.now c.args.port.now) passed
    c.member.ensures.node.node.member refl
    (ap (λ n. n.node) c.answered.ensures.same) p.0 (p.2 ∙ c.in_err-readied.ensures.refused.0)
    c.in_err-readied.ensures.refused.1)

pub returns-in-Some-clause-chosen : goal.returns-in-Some-clause-chosen
returns-in-Some-clause-chosen g c =
    let passed = handed (option_map (λ b. b.now) c.args.made) c.args.initiative in
    job_made g.P.Port (solo_of c.args.node.now c.args.pending.now c.args.port.now)
    (solo_of c.answered.new.node c.args.pending.now c.args.port.now) passed
    c.member.ensures.node.node.member refl
    c.answered.ensures.same c.in-Some.readied
    (subst (IsPart c.args.node.now (its_answer c.args.node.now.node (option_map (λ b. b.now) c.args.made)))
    c.in-Some.is c.in_ok-readied.ensures.part)

pub returns-in_err-readied-2-clause-refused : goal.returns-in_err-readied-2-clause-refused
returns-in_err-readied-2-clause-refused g c =
    let passed = handed (option_map (λ b. b.now) c.args.made) c.args.initiative in
    let p = err_from_is_err_and c.from_residual-in_err-readied-2.result
    c.from_residual-in_err-readied-2.ensures.1 in
    let n = c.args.node.now in
    let came = came_of c.received-came.result in
    rw p.1 (arrival_fault g.P.Port
    (solo_of n c.args.pending.now c.args.port.now)
    (solo_of c.taken_in.new.node c.args.pending.now c.received-came.new.port) passed
    c.member.ensures.node.node.member
    (subst (IsPart n (its_answer n.node (option_map (λ b. b.now) c.args.made))) c.in_default.is
    c.in_ok-readied.ensures.part)
    came c.received-came.ensures.came p.0
    (not_taken c.answered.new.node n c.answered.ensures.same c.taken_in.new.node came
    c.in_err-readied-2.field-0.0 p.0 p.2 c.in_err-readied-2.ensures.refused))

pub returns-in-Some-2-clause-chosen : goal.returns-in-Some-2-clause-chosen
returns-in-Some-2-clause-chosen g c =
    let passed = handed (option_map (λ b. b.now) c.args.made) c.args.initiative in
    let n = c.args.node.now in
    let came = came_of c.received-came.result in
    let made = taken_made c.answered.new.node n c.answered.ensures.same c.taken_in.new.node came
    c.in_ok-readied-2.field-0 c.in_ok-readied-2.ensures.made in
    arrival_made g.P.Port (solo_of n c.args.pending.now c.args.port.now)
    (solo_of c.taken_in.new.node c.args.pending.now c.received-came.new.port) passed
    c.member.ensures.node.node.member
    (subst (IsPart n (its_answer n.node (option_map (λ b. b.now) c.args.made))) c.in_default.is
    c.in_ok-readied.ensures.part)
    came c.received-came.ensures.came made.0 c.in-Some-2.readied
    (subst (IsMade n (comes_to (only n.node) came)) c.in-Some-2.is made.1)

pub returns-clause-chosen : goal.returns-clause-chosen
returns-clause-chosen g c =
    let passed = handed (option_map (λ b. b.now) c.args.made) c.args.initiative in
    let n = c.args.node.now in
    let came = came_of c.received-came.result in
    let made = taken_made c.answered.new.node n c.answered.ensures.same c.taken_in.new.node came
    c.in_ok-readied-2.field-0 c.in_ok-readied-2.ensures.made in
    done_answers g.P.Port (solo_of n c.args.pending.now c.args.port.now)
    (solo_of c.done.new.node c.args.pending.now c.received-came.new.port) passed
    c.member.ensures.node.node.member
    (subst (IsPart n (its_answer n.node (option_map (λ b. b.now) c.args.made))) c.in_default.is
    c.in_ok-readied.ensures.part)
    came c.received-came.ensures.came
    (subst (IsMade n (comes_to (only n.node) came)) c.in_default-2.is made.1)
    c.taken_in.new.node made.0 c.me-me.result
    (c.me-me.ensures.me ∙ ap (λ s. s.me) c.member.ensures.member) c.done.ensures.same c.done.result
    c.done.ensures.part

pub returns-clause-refused : goal.returns-clause-refused
returns-clause-refused g c =
    let passed = handed (option_map (λ b. b.now) c.args.made) c.args.initiative in
    let n = c.args.node.now in
    let came = came_of c.received-came.result in
    let made = taken_made c.answered.new.node n c.answered.ensures.same c.taken_in.new.node came
    c.in_ok-readied-2.field-0 c.in_ok-readied-2.ensures.made in
    done_faults g.P.Port (solo_of n c.args.pending.now c.args.port.now)
    (solo_of c.done.new.node c.args.pending.now c.received-came.new.port) passed
    c.member.ensures.node.node.member
    (subst (IsPart n (its_answer n.node (option_map (λ b. b.now) c.args.made))) c.in_default.is
    c.in_ok-readied.ensures.part)
    came c.received-came.ensures.came
    (subst (IsMade n (comes_to (only n.node) came)) c.in_default-2.is made.1)
    c.taken_in.new.node made.0 c.me-me.result
    (c.me-me.ensures.me ∙ ap (λ s. s.me) c.member.ensures.member) c.done.ensures.same c.done.result
    c.done.ensures.refused

pub done-requires-clause-below : goal.done-requires-clause-below
done-requires-clause-below g c =
    let n = c.args.node.now in
    let p = c.args.pending.now in
    let made = taken_made c.answered.new.node n c.answered.ensures.same c.taken_in.new.node
    (came_of c.received-came.result) c.in_ok-readied-2.field-0 c.in_ok-readied-2.ensures.made in
    still_below n.node.member c.taken_in.new.node.node.member p p c.args.unfailed.now
    (ap (λ x. x.node.member) made.0) refl c.requires

pub returns-clause-below : goal.returns-clause-below
returns-clause-below g c =
    let n = c.args.node.now in
    let p = c.args.pending.now in
    let made = taken_made c.answered.new.node n c.answered.ensures.same c.taken_in.new.node
    (came_of c.received-came.result) c.in_ok-readied-2.field-0 c.in_ok-readied-2.ensures.made in
    still_below c.taken_in.new.node.node.member n.node.member p p c.done.new.unfailed
    (sym (ap (λ x. x.node.member) made.0)) refl c.done.ensures.below

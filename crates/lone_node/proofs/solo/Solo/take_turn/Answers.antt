use Rattle.std.proofs.Common.{[], ap, refl, subst, sym}
use Rattle.std.proofs.lemmas.Result.{err_from_is_err_and}
use Rattle.std.specs.Prelude.{◌≡◌, ◌⊎◌, ℕ, option_map}
use Rattle.turn_rules.specs.Acts.{asked_by}
use Rattle.turn_rules.specs.declared.fault.TurnFault.TheVariants as refused
use Rattle.node.specs.OnLog.{IsOnLog}
use Rattle.node.specs.Step.{note_in}
use Rattle.datagram_ports.specs.Kept.{GoesOnBy}
use Rattle.lone_node.proofs.Below.{same_member, still_below}
use Rattle.lone_node.proofs.Left.{alike, on_log_still}
use Rattle.lone_node.proofs.Turned.{has_now, heard_so, moments_so, readied_so, refused_so, taken_so, untouched_so}
use Rattle.lone_node.specs.Handed.{handed}
use Rattle.lone_node.specs.Turn.{HasTaken, IsHeard, IsUntouched, LeavesAtMost}
use Rattle.lone_node.specs.inside.Turning.{IsTakingFault, solo_of}
use Rattle.lone_node.proofs.solo.Solo.take_turn.Goals as goal

pub take-requires-clause-readied : goal.take-requires-clause-readied
take-requires-clause-readied g c =
    let passed = handed (option_map (λ b. b.now) c.args.made) c.args.initiative in
    let s = c.self.inside in
    let now = c.args.self.now in
    let mid = solo_of c.choose.new.node s.pending c.choose.new.port in
    readied_so g.P.Port now mid passed c.in-Some.readied
    (has_now g.P.Port (solo_of s.node s.pending s.port) now mid passed
    c.self.view_is c.in_ok-readied.field-0 c.in-Some.readied c.in-Some.is
    c.in_ok-readied.ensures.chosen)

pub returns-in_ok-act-in-Some-clause-taken : goal.returns-in_ok-act-in-Some-clause-taken
returns-in_ok-act-in-Some-clause-taken g c =
    let passed = handed (option_map (λ b. b.now) c.args.made) c.args.initiative in
    let s = c.self.inside in
    let now = c.args.self.now in
    let mid = solo_of c.choose.new.node s.pending c.choose.new.port in
    let new = solo_of c.take.new.node c.take.new.pending c.take.new.port in
    let has = has_now g.P.Port (solo_of s.node s.pending s.port) now mid passed
    c.self.view_is c.in_ok-readied.field-0 c.in-Some.readied c.in-Some.is
    c.in_ok-readied.ensures.chosen in
    subst (λ act. HasTaken g.P.Port now new passed (asked_by act))
    (sym c.in_ok-act-in-Some.ensures.act)
    (taken_so g.P.Port now mid new passed c.in-Some.readied has
    c.take.ensures.given (ap (λ x. x.pending) c.self.view_is)
    (subst (λ x. GoesOnBy [] (g.P.Port.offered x.port) (g.P.Port.offered c.choose.new.port))
    c.self.view_is c.choose.ensures.offered)
    c.in_ok-act-in-Some.ensures.taken)

pub returns-in_ok-act-in-Some-clause-heard : goal.returns-in_ok-act-in-Some-clause-heard
returns-in_ok-act-in-Some-clause-heard g c =
    let passed = handed (option_map (λ b. b.now) c.args.made) c.args.initiative in
    let s = c.self.inside in
    let now = c.args.self.now in
    let mid = solo_of c.choose.new.node s.pending c.choose.new.port in
    let new = solo_of c.take.new.node c.take.new.pending c.take.new.port in
    let has = has_now g.P.Port
    (solo_of s.node s.pending s.port) now mid passed c.self.view_is c.in_ok-readied.field-0
    c.in-Some.readied c.in-Some.is c.in_ok-readied.ensures.chosen in
    subst (λ act. IsHeard g.P.Port c.take.new.port (asked_by act))
    (sym c.in_ok-act-in-Some.ensures.act)
    (heard_so g.P.Port now mid new passed c.in-Some.readied has
    c.take.ensures.given c.take.ensures.vouches_on)

pub returns-in_ok-act-in-Some-clause-any_moment :
    goal.returns-in_ok-act-in-Some-clause-any_moment
returns-in_ok-act-in-Some-clause-any_moment g c =
    let passed = handed (option_map (λ b. b.now) c.args.made) c.args.initiative in
    let s = c.self.inside in
    let now = c.args.self.now in
    let mid = solo_of c.choose.new.node s.pending c.choose.new.port in
    let new = solo_of c.take.new.node c.take.new.pending c.take.new.port in
    let has = has_now g.P.Port (solo_of s.node s.pending s.port) now mid passed
    c.self.view_is c.in_ok-readied.field-0 c.in-Some.readied c.in-Some.is
    c.in_ok-readied.ensures.chosen in
    subst (λ act. LeavesAtMost g.D.Disk now new (asked_by act))
    (sym c.in_ok-act-in-Some.ensures.act)
    (moments_so g.D.Disk now mid new has.same
    (asked_by c.in-Some.readied.act) c.take.ensures.any_moment)

pub returns-in_err-act-in-Some-clause-refused : goal.returns-in_err-act-in-Some-clause-refused
returns-in_err-act-in-Some-clause-refused g c =
    let passed = handed (option_map (λ b. b.now) c.args.made) c.args.initiative in
    let s = c.self.inside in
    let now = c.args.self.now in
    let mid = solo_of c.choose.new.node s.pending c.choose.new.port in
    let new = solo_of c.take.new.node c.take.new.pending c.take.new.port in
    let has = has_now g.P.Port (solo_of s.node s.pending s.port) now mid passed
    c.self.view_is c.in_ok-readied.field-0 c.in-Some.readied c.in-Some.is
    c.in_ok-readied.ensures.chosen in
    let p = err_from_is_err_and c.from_residual-in_err-act-in-Some.result
    c.from_residual-in_err-act-in-Some.ensures.1 in
    rw p.1 (refused_so g.P.Port now mid new passed c.in-Some.readied has
    c.take.ensures.given c.in_err-act-in-Some.ensures.left.1
    (LeavesAtMost g.D.Disk now new)
    (moments_so g.D.Disk now mid new has.same
    (asked_by c.in-Some.readied.act) c.take.ensures.any_moment) p.0
    (subst (IsTakingFault mid.node new.node (note_in c.in-Some.readied.ready.step)) (sym p.2)
    c.in_err-act-in-Some.ensures.refused))

pub returns-in_err-act-in-Some-clause-untouched :
    goal.returns-in_err-act-in-Some-clause-untouched
returns-in_err-act-in-Some-clause-untouched g c =
    let passed = handed (option_map (λ b. b.now) c.args.made) c.args.initiative in
    let s = c.self.inside in
    let now = c.args.self.now in
    let mid = solo_of c.choose.new.node s.pending c.choose.new.port in
    let new = solo_of c.take.new.node c.take.new.pending c.take.new.port in
    let has = has_now g.P.Port (solo_of s.node s.pending s.port) now mid passed
    c.self.view_is c.in_ok-readied.field-0 c.in-Some.readied c.in-Some.is
    c.in_ok-readied.ensures.chosen in
    let p = err_from_is_err_and c.from_residual-in_err-act-in-Some.result
    c.from_residual-in_err-act-in-Some.ensures.1 in
    rw p.1 (untouched_so g.D.Disk now mid new has.same p.0
    (subst (λ f. ((k : ℕ) × (f ≡ refused.Down k))
    ⊎ IsUntouched g.D.Disk mid new) (sym p.2)
    c.in_err-act-in-Some.ensures.untouched))

pub returns-in_err-readied-clause-on_log : goal.returns-in_err-readied-clause-on_log
returns-in_err-readied-clause-on_log g c = λ kept on runs.
    let passed = handed (option_map (λ b. b.now) c.args.made) c.args.initiative in
    let s = c.self.inside in
    let old = solo_of s.node s.pending s.port in
    let new = solo_of c.choose.new.node s.pending c.choose.new.port in
    on_log_still g.D.Disk.history s.node c.choose.new.node c.choose.ensures.log
    (alike g.P.Port old new passed
    c.in_err-readied.field-0.0 c.in_err-readied.ensures.refused)
    (subst (λ x. IsOnLog g.D.Disk.history x.node) (sym c.self.view_is) on)

pub invariant_of-self : goal.invariant_of-self
invariant_of-self g c =
    let passed = handed (option_map (λ b. b.now) c.args.made) c.args.initiative in
    let s = c.self.inside in
    let old = solo_of s.node s.pending s.port in
    let new = solo_of c.choose.new.node s.pending c.choose.new.port in
    still_below s.node.node.member new.node.node.member s.pending s.pending c.choose.new.unfailed
    (alike g.P.Port old new
    passed c.in_err-readied.field-0.0
    c.in_err-readied.ensures.refused).member refl c.choose.ensures.below

pub take-requires-clause-below : goal.take-requires-clause-below
take-requires-clause-below g c =
    let s = c.self.inside in
    still_below s.node.node.member c.choose.new.node.node.member s.pending s.pending
    c.choose.new.unfailed (same_member s.node c.choose.new.node c.in_ok-readied.ensures.chosen.same)
    refl c.choose.ensures.below

use Rattle.std.proofs.Common.{ap, subst, sym}
use Rattle.scheduler.specs.CatchingUp.{StillCatchesUp, StillResumes}
use Rattle.scheduler.specs.declared.desk.Desk.{Desk}
use Rattle.scheduler.proofs.desk.Desk.tick.Goals as goal

pub returns-in_ok-self-clause-catching_up : goal.returns-in_ok-self-clause-catching_up
returns-in_ok-self-clause-catching_up c =
    let s = c.args.member.now in
    let old = c.args.self.now in
    let still = c.still_catches_up-is_catching_up.result in
    subst (λ o. StillCatchesUp s (record old { out = o }) c.args.now still)
    (sym (ap (λ (d : Desk). d.out) c.in_ok-keep_early.ensures.rest))
    c.still_catches_up-is_catching_up.ensures

pub returns-in_ok-self-clause-resumes : goal.returns-in_ok-self-clause-resumes
returns-in_ok-self-clause-resumes c =
    let s = c.args.member.now in
    let old = c.args.self.now in
    let behind = c.still_catches_up-is_catching_up.result in
    let still = c.still_resumes-self.result in
    let rest = c.in_ok-keep_early.ensures.rest in
    subst (λ o. StillResumes s (record old { out = o; is_catching_up = behind }) still)
    (sym (ap (λ (d : Desk). d.out) rest))
    (subst (λ d. StillResumes s (record d { is_catching_up = behind }) still) rest
    c.still_resumes-self.ensures)

pub returns-else-is_over-clause-catching_up : goal.returns-else-is_over-clause-catching_up
returns-else-is_over-clause-catching_up c =
    let s = c.args.member.now in
    let old = c.args.self.now in
    let still = c.still_catches_up-is_catching_up.result in
    subst (λ o. StillCatchesUp s (record old { out = o }) c.args.now still)
    (sym (ap (λ (d : Desk). d.out) c.in_ok-keep_early.ensures.rest))
    c.still_catches_up-is_catching_up.ensures

pub returns-else-is_over-clause-resumes : goal.returns-else-is_over-clause-resumes
returns-else-is_over-clause-resumes c =
    let s = c.args.member.now in
    let old = c.args.self.now in
    let behind = c.still_catches_up-is_catching_up.result in
    let still = c.still_resumes-self.result in
    let rest = c.in_ok-keep_early.ensures.rest in
    subst (λ o. StillResumes s (record old { out = o; is_catching_up = behind }) still)
    (sym (ap (λ (d : Desk). d.out) rest))
    (subst (λ d. StillResumes s (record d { is_catching_up = behind }) still) rest
    c.still_resumes-self.ensures)

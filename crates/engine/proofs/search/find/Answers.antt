use Rattle.std.proofs.Common.{◌≡◌, ◌∙◌, ap, arith, length, refl, sym}
use Rattle.graph.specs.Marks.{has_mark}
use Rattle.graph.proofs.Lists.{get_or-same}
use Rattle.graph.proofs.Walks.{found-room}
use Rattle.engine.specs.shared.Shown.{letter_at}
use Rattle.engine.proofs.Finding.{IsFinding-finds, IsFinding-keeps}
use Rattle.engine.proofs.search.find.Goals as goal
use Rattle.engine.proofs.search.find.Goals.{then-not-marks-place+in-B, then-not-marks-place+in_default, else-not-marks-place}

pub push_reserved-requires : goal.push_reserved-requires
push_reserved-requires c =
    let finding = c.loop-position.invariant.finding in
    let within : length c.loop-position.marks ≡ length c.args.marks.now = finding.each in
    let room = found-room finding.are_found _ (omega (arith, c.requires.within c.loop-position.position-index 0 c.loop-position-test.true, within)) c.if-not-marks-place.true in
    omega (arith, room, within, c.requires.room, c.loop-position.invariant.room, c.loop-position.found.ok)

pub loop-position-preserved : goal.loop-position-preserved
loop-position-preserved c =
    let finding = c.loop-position.invariant.finding in
    elim c.if-not-marks-place.branch [
      | then-not-marks-place+in-B w ↦ rw (w.marks-is, w.found-is) (record {
        finding = rw w.push_reserved.ensures.items (IsFinding-finds finding _ refl
            (omega (arith, c.requires.within c.loop-position.position-index 0 c.loop-position-test.true, finding.each)) w.if-not-marks-place.true
            (sym w.at.ensures ∙ w.in-B.is));
        room = w.push_reserved.ensures.capacity ∙ c.loop-position.invariant.room;
      })
      | then-not-marks-place+in_default w ↦ rw (w.marks-is, w.found-is) (record {
        finding = IsFinding-keeps finding (λ b. absurd (w.in_default.not-B (w.at.ensures ∙ b)));
        room = c.loop-position.invariant.room;
      })
      | else-not-marks-place w ↦ rw (w.marks-is, w.found-is) (record {
        finding = IsFinding-keeps finding (λ b. w.if-not-marks-place.false);
        room = c.loop-position.invariant.room;
      })
    ]

pub returns-clause-all : goal.returns-clause-all
returns-clause-all c = λ k d inside built.
    let is = get_or-same c.args.positions.now k d 0 inside in
    ap (has_mark c.loop-position.marks) is
    ∙ c.loop-position.invariant.finding.all k (omega (arith, inside, c.loop-position-test.false)) (ap (letter_at c.args.letters.now) (sym is) ∙ built)

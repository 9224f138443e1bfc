use Rattle.std.proofs.Common.{◌≡◌, ◌<◌, ◌≤◌, ◌∙◌, ap, arith, length, subst, sym}
use Rattle.std.specs.List.{slice_index_or}
use Rattle.engine.specs.Division.{unit_at}
use Rattle.engine.specs.State.{HasLetter}
use Rattle.protocol.specs.State.{engine_of}
use Rattle.scheduler.proofs.HeldUnits.{letter_tells_held, none_held}
use Rattle.scheduler.proofs.posted.is_held.Goals as goal

pub returns-then-unit-len : goal.returns-then-unit-len
returns-then-unit-len c =
    let s = c.args.member.now in
    let past : length s.division.units ≤ c.args.unit =
    rw (← c.units-units.ensures.division) (omega arith) in
    sym (none_held s c.args.unit c.units-units.ensures.member past)

pub letter-requires : goal.letter-requires
letter-requires c =
    rw (← c.units-units.ensures.division) (c.packages.ensures.listed 0 0 c.packages.ensures.some)

pub returns : goal.returns
returns c =
    let s = c.args.member.now in
    let u = c.args.unit in
    let lt : u < length s.division.units = rw (← c.units-units.ensures.division) (omega arith) in
    let same : c.packages.result.now ≡ (unit_at s.division u).packages =
    c.packages.ensures.value ∙ ap (λ d. (unit_at d u).packages) c.units-units.ensures.division in
    c.is_letter_held.ensures
    ∙ letter_tells_held s u c.letter.ensures.member lt c.letter.result
    (subst (λ p. HasLetter (engine_of s) p c.letter.result)
    (ap (λ ps. slice_index_or ps 0 0) same) c.letter.ensures.letter)

use Rattle.std.proofs.Common.{◌≡◌, ◌≢◌, ◌⊎◌, ◌-◌, ℕ, List, All, Contains, arith, get_or, subst}
use Rattle.std.proofs.lemmas.List.{get_or-set_same}
use Rattle.engine.specs.declared.Letter.TheVariants.{T, Q}
use Rattle.engine.specs.shared.Shown.{letter_at}
use Rattle.engine.proofs.Waiting.{AreFitting-queued}
use Rattle.engine.proofs.queueing.wait_less.Goals as goal

pub queue-requires : goal.queue-requires
queue-requires c = λ k d inside. omega (arith, c.packages.ensures.listed k d inside, c.requires.fitting.each_letter)

pub returns-then-waits-unit-eq0-clause-fitting : goal.returns-then-waits-unit-eq0-clause-fitting
returns-then-waits-unit-eq0-clause-fitting c =
    let left : ℕ = get_or c.args.waits.now c.args.unit 0 - 1 in
    let none : left ≡ 0 = omega (arith, c.if-waits-unit-eq0.true, get_or-set_same c.args.waits.now c.args.unit left 0 c.requires.listed) in
    AreFitting-queued c.requires.fitting c.args.unit left c.requires.listed (omega (arith, c.requires.some)) c.queue.new.letters none
    (λ p. subst (λ (ps : List ℕ). (letter_at c.queue.new.letters p ≡ letter_at c.args.letters.now p) ⊎ (Contains ps p × (letter_at c.args.letters.now p ≡ T) × (letter_at c.queue.new.letters p ≡ Q))) c.packages.ensures.value (c.queue.ensures.only p))
    (subst (λ (ps : List ℕ). All (λ p. letter_at c.queue.new.letters p ≢ T) ps) c.packages.ensures.value c.queue.ensures.all) c.queue.ensures.each

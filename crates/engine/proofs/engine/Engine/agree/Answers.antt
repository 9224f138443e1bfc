use Rattle.std.proofs.Common.{◌≡◌, ◌++◌, ◌<◌, ◌∙◌, ℕ, Contains, List, ap, arith, drop, false, length, refl, subst, sym, take}
use Rattle.std.proofs.lemmas.List.{length-set, take_at}
use Rattle.listing.specs.Tree.{run_at}
use Rattle.graph.specs.Lists.{AreReversed}
use Rattle.engine.specs.State.{HasLetter, State}
use Rattle.engine.specs.declared.Letter.TheVariants.{B, Ignored}
use Rattle.engine.specs.shared.Keeping.{holds}
use Rattle.engine.specs.shared.Shown.{is_held}
use Rattle.engine.proofs.Agreeing.{AreKept-agreed, AreKept-waiting, AreQueueing-built, agreed_again, agreed_more}
use Rattle.engine.proofs.Reading.{other_than_ignored}
use Rattle.engine.proofs.Settled.{built_here, lacks_few, some_told}
use Rattle.engine.proofs.engine.Engine.agree.Goals as goal

pub returns-then-is_held : goal.returns-then-is_held
returns-then-is_held c =
    agreed_again c.self.inside.units c.self.inside.letters c.args.position c.args.self.now c.self.view_is (ap is_held (sym c.at.ensures) ∙ sym c.is_held.ensures ∙ c.if-is_held.true)

pub settle-requires-clause-each : goal.settle-requires-clause-each
settle-requires-clause-each c = c.self.invariant.1.over_all ∙ sym c.self.invariant.1.runs_turned.each

pub settle-requires-clause-letters : goal.settle-requires-clause-letters
settle-requires-clause-letters c =
    ap length c.set.ensures ∙ length-set c.self.inside.letters c.args.position B ∙ c.self.invariant.1.queueing.are_fitting.each_letter ∙ sym c.self.invariant.1.runs_turned.each

pub settle-requires-clause-lacks : goal.settle-requires-clause-lacks
settle-requires-clause-lacks c = ap length c.as_mut_slice.ensures.value ∙ c.self.invariant.1.each ∙ sym c.self.invariant.1.runs_turned.each

pub settle-requires-clause-turned : goal.settle-requires-clause-turned
settle-requires-clause-turned c =
    let tree = c.self.inside.units.tree in
    let turned = c.self.invariant.1.runs_turned in
    (run_at tree, subst (λ n. AreReversed n n (run_at tree) c.self.inside.runs) (sym turned.each) turned)

pub settle-requires-clause-position : goal.settle-requires-clause-position
settle-requires-clause-position c =
    let within = subst (λ (s : State). c.args.position < length s.tree) (sym c.self.view_is) c.requires.listed in
    omega (arith, within, c.self.invariant.1.runs_turned.each)

pub settle-requires-clause-built : goal.settle-requires-clause-built
settle-requires-clause-built c =
    let within = subst (λ (s : State). c.args.position < length s.tree) (sym c.self.view_is) c.requires.listed in
    let not_held : holds c.self.inside.letters c.args.position ≡ false = ap is_held (sym c.at.ensures) ∙ sym c.is_held.ensures ∙ c.if-is_held.false in
    rw c.set.ensures (built_here c.self.invariant.1 c.args.position within not_held)

pub settle-requires-clause-some : goal.settle-requires-clause-some
settle-requires-clause-some c =
    let within = subst (λ (s : State). c.args.position < length s.tree) (sym c.self.view_is) c.requires.listed in
    let not_held : holds c.self.inside.letters c.args.position ≡ false = ap is_held (sym c.at.ensures) ∙ sym c.is_held.ensures ∙ c.if-is_held.false in
    rw (c.set.ensures, c.as_mut_slice.ensures.value) (λ p xs listed once built.
    some_told c.self.invariant.1 c.args.position within not_held p xs (omega (arith, listed, c.self.invariant.1.runs_turned.each)) once built)

pub settle-requires-clause-few : goal.settle-requires-clause-few
settle-requires-clause-few c =
    let within = subst (λ (s : State). c.args.position < length s.tree) (sym c.self.view_is) c.requires.listed in
    let not_held : holds c.self.inside.letters c.args.position ≡ false = ap is_held (sym c.at.ensures) ∙ sym c.is_held.ensures ∙ c.if-is_held.false in
    rw c.as_mut_slice.ensures.value (λ p listed. lacks_few c.self.invariant.1 c.args.position within not_held p listed)

pub install_all-requires-clause-queueing : goal.install_all-requires-clause-queueing
install_all-requires-clause-queueing c =
    let within = subst (λ (s : State). c.args.position < length s.tree) (sym c.self.view_is) c.requires.listed in
    let not_held : holds c.self.inside.letters c.args.position ≡ false = ap is_held (sym c.at.ensures) ∙ sym c.is_held.ensures ∙ c.if-is_held.false in
    let not_ignored = subst (λ (s : State). ¬ HasLetter s c.args.position Ignored) (sym c.self.view_is) c.requires.not_ignored in
    rw (c.set.ensures, c.as_mut_slice-2.ensures.value) (AreQueueing-built c.self.invariant.1 c.args.position within not_held (other_than_ignored c.self.invariant.1 c.args.position within not_ignored))

pub invariant_of-self : goal.invariant_of-self
invariant_of-self c =
    let within = subst (λ (s : State). c.args.position < length s.tree) (sym c.self.view_is) c.requires.listed in
    let not_held : holds c.self.inside.letters c.args.position ≡ false = ap is_held (sym c.at.ensures) ∙ sym c.is_held.ensures ∙ c.if-is_held.false in
    let not_ignored = subst (λ (s : State). ¬ HasLetter s c.args.position Ignored) (sym c.self.view_is) c.requires.not_ignored in
    let one = c.may_all_be_held.ensures.lacking c.if-not-may_all_be_held.true in
    let needed = subst (λ (ds : List ℕ). Contains ds one.0) (c.run_deps-own.ensures.value ∙ ap (λ t. run_at t c.args.position) c.self.invariant.0) one.1 in (
      c.self.invariant.0,
      rw c.set.ensures (AreKept-waiting c.self.invariant.1 c.args.position within not_held
          (other_than_ignored c.self.invariant.1 c.args.position within not_ignored) one.0 needed (rw c.set.ensures at one.2)),
    )

pub returns-then-not-may_all_be_held : goal.returns-then-not-may_all_be_held
returns-then-not-may_all_be_held c =
    let within = subst (λ (s : State). c.args.position < length s.tree) (sym c.self.view_is) c.requires.listed in
    agreed_more c.self.inside.units c.self.inside.letters c.set.new.self c.args.position c.args.self.now c.self.view_is
    (omega (arith, within, c.self.invariant.1.queueing.are_fitting.each_letter)) (rw c.set.ensures (λ q. refl))

pub invariant_of-self-2 : goal.invariant_of-self-2
invariant_of-self-2 c =
    let within = subst (λ (s : State). c.args.position < length s.tree) (sym c.self.view_is) c.requires.listed in
    let not_held : holds c.self.inside.letters c.args.position ≡ false = ap is_held (sym c.at.ensures) ∙ sym c.is_held.ensures ∙ c.if-is_held.false in
    let lacks = c.self.inside.lacks in
    let less = c.settle.new.lacks in
    let each : length less ≡ length lacks.items = c.settle.auto.lacks ∙ ap length c.as_mut_slice.ensures.value in
    let lacks_now : take lacks.len (less ++ drop (length less) lacks.items) ≡ less = take_at less (drop (length less) lacks.items) lacks.len (omega (arith, each, lacks.ok)) in
    let waits = c.self.inside.waits in
    let fewer = c.install_all.new.waits in
    let waits_now : take waits.len (fewer ++ drop (length fewer) waits.items) ≡ fewer =
    take_at fewer (drop (length fewer) waits.items) waits.len (omega (arith, c.install_all.auto.waits, ap length c.as_mut_slice-2.ensures.value, waits.ok)) in
    let settled = rw (c.set.ensures, c.as_mut_slice.ensures.value) at c.settle.ensures.settled in
    let installed = rw (c.set.ensures, c.as_slice.ensures.value ∙ lacks_now, c.found.ensures) at c.install_all.ensures in (
      c.self.invariant.0,
      rw (lacks_now, waits_now) (AreKept-agreed c.self.invariant.1 c.args.position within not_held c.install_all.new.letters less fewer c.settle.new.self.found c.settle.new.self
          settled each installed.held installed.queueing installed.built installed.installed installed.all
          (c.settle.ensures.each ∙ c.self.invariant.1.over_all)),
    )

pub returns : goal.returns
returns c =
    let within = subst (λ (s : State). c.args.position < length s.tree) (sym c.self.view_is) c.requires.listed in
    agreed_more c.self.inside.units c.self.inside.letters c.install_all.new.letters c.args.position c.args.self.now c.self.view_is
    (omega (arith, within, c.self.invariant.1.queueing.are_fitting.each_letter)) (rw c.set.ensures at c.install_all.ensures.held)

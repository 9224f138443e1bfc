use Rattle.std.proofs.Common.{◌≡◌, ℕ, true, List, sym, ap, subst, ◌∙◌}
use Rattle.std.specs.Prelude.{All}
use Rattle.ways_on.proofs.Walking.{all_up}
use Rattle.ways_on.proofs.route.events_of.Goals as goal
use Rattle.world.specs.Happening.{is_up, up_of}

pub ask-requires-clause-up : goal.ask-requires-clause-up
ask-requires-clause-up c =
    let w = c.args.world.now.world in
    let p = c.requires.plan in
    subst (λ (l : List ℕ). All (λ k. is_up w k ≡ true) l)
    (sym (c.as_slice-asked.ensures.value ∙ p.asked))
    (all_up w c.args.node c.args.path.now c.args.host c.args.packages
    (ap up_of p.shown.stands ∙ p.shown.up))

pub report-requires : goal.report-requires
report-requires c =
    let w = c.args.world.now.world in
    let p = c.requires.plan in
    subst (λ (l : List ℕ). All (λ k. is_up w k ≡ true) l)
    (sym (c.as_slice-asked.ensures.value ∙ p.asked))
    (all_up w c.args.node c.args.path.now c.args.host c.args.packages
    (ap up_of p.shown.stands ∙ p.shown.up))

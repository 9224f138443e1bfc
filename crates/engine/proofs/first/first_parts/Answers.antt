use Rattle.std.proofs.Common.{◌≡◌, ◌∙◌, ◌<◌, ◌^◌, ℕ, ap, get_or, length, subst, sym}
use Rattle.listing.specs.Tree.{Tree, run_at}
use Rattle.graph.specs.Lists.{AreReversed}
use Rattle.engine.specs.inside.Queueing.{needs_of}
use Rattle.engine.proofs.Beginning.{AreKept-first}
use Rattle.engine.proofs.first.first_parts.Goals as goal

pub returns-clause-kept : goal.returns-clause-kept
returns-clause-kept c =
    let units = c.args.units.now in
    let letters = c.in_ok-first.first.1 in
    let lacks = c.in_ok-counted.counted.0.items in
    let of_tree = sym c.requires in
    let counted = subst (λ (t : Tree). (length lacks ≡ length t) × ((p : ℕ) → p < length t → (get_or lacks p 0 ≡ length (run_at t p)) × (length (run_at t p) < 2 ^ 64))) of_tree c.in_ok-counted.ensures.lacks in
    AreKept-first units letters lacks c.in_ok-first.first.0.items c.in_ok-turned.turned.1 c.in_ok-turned.turned.0 c.in_ok-counted.counted.1
    c.in_ok-first.ensures.fitting c.in_ok-first.ensures.none_held c.in_ok-first.ensures.waits counted.0 counted.1
    (subst (λ (t : Tree). AreReversed (length t) (length t) (run_at t) (c.in_ok-turned.turned.1)) of_tree c.in_ok-turned.ensures.runs)
    (subst (λ (t : Tree). AreReversed (length t) (length units.units) (needs_of units) (c.in_ok-turned.turned.0)) of_tree c.in_ok-turned.ensures.needs)
    (c.in_ok-counted.ensures.over_all ∙ ap length of_tree)

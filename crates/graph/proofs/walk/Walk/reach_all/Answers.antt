use Rattle.std.proofs.Common.{◌≡◌, ◌∙◌, ap, arith, get_or, length, sym, ⊎_elim}
use Rattle.std.proofs.lemmas.Bool.{true≢false}
use Rattle.std.proofs.lemmas.List.Elements.{Contains-get_or}
use Rattle.graph.specs.Lists.{list_at}
use Rattle.graph.proofs.Marked.{marked_within}
use Rattle.graph.proofs.Walks.{AreFound-none, AreReachedFrom-found, found-marked}
use Rattle.graph.proofs.walk.Walk.reach_all.Goals as goal

pub find-requires-clause-found : goal.find-requires-clause-found
find-requires-clause-found c = rw (c.as_mut_slice-marks.ensures.value, c.clear.ensures.items) (AreFound-none _ c.self.invariant.unmarked)

pub returns-clause-reached : goal.returns-clause-reached
returns-clause-reached c =
    let v = c.as_mut_slice-marks.ensures.value in
    AreReachedFrom-found (list_at c.args.lists.now) c.args.from.now c.find.new.marks c.follow.new.marks c.follow.new.found.items c.follow.ensures.found
    (λ p marked. ⊎_elim (λ before. absurd (true≢false (sym before ∙ rw v (c.self.invariant.unmarked p)))) (λ given. given) (c.find.ensures.only p marked))
    (λ k d inside. c.follow.ensures.kept (get_or c.args.from.now k d) (c.find.ensures.all k d inside)) c.follow.ensures.closed c.follow.ensures.only

pub returns-clause-within : goal.returns-clause-within
returns-clause-within c =
    let each : length c.follow.new.marks ≡ length c.args.lists.now =
    c.follow.auto.marks ∙ c.find.auto.marks ∙ ap length c.as_mut_slice-marks.ensures.value ∙ ap (λ w. w.len) c.self.view_is ∙ c.requires.each in
    λ k d inside. omega (arith, each, marked_within c.follow.new.marks _ (found-marked c.follow.ensures.found _ (Contains-get_or c.follow.new.found.items k d inside)))

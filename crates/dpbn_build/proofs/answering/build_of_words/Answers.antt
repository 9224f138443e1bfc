use Rattle.std.proofs.Common.{inr, option_map, subst, sym, ◌<◌, ◌∙◌}
use Rattle.std.proofs.lemmas.Result.{IfOk-weaker, IfErr-weaker}
use Rattle.dpbn_build.proofs.Told.{told_len}
use Rattle.dpbn_build.specs.Build.{IsTold}
use Rattle.dpbn_node.specs.Runs.{run_at}
use Rattle.dpbn_build.proofs.answering.build_of_words.Goals as goal

pub build_on-requires : goal.build_on-requires
build_on-requires g c =
    c.in_ok-place.ensures.each
    ∙ sym (told_len c.args.site.now.members (option_map (λ t. t.now) c.args.site.now.weights)
    c.in_ok-weights.weights c.in_ok-weights.ensures.ok)

pub returns-clause-ok : goal.returns-clause-ok
returns-clause-ok g c =
    let weights = c.in_ok-weights.weights in
    let place = c.in_ok-place.place in
    let of = run_at c.in_ok-tree.tree weights place in
    let is_of : IsTold c.args.site.now c.args.peers.now c.args.run.now of = record {
      described = c.in_ok-tree.ensures.ok;
      told = c.in_ok-weights.ensures.ok;
      listen = c.in_ok-place.ensures.listen;
      has_key = c.in_ok-place.ensures.key;
      open_to = c.in_ok-place.ensures.open_to;
      continued = c.in_ok-place.ensures.continued;
    } in
    IfOk-weaker c.build_on.result _ _
    (λ answer built. record {
      of = of;
      is_of = is_of;
      member = subst (λ n. c.args.me < n)
          (told_len c.args.site.now.members (option_map (λ t. t.now) c.args.site.now.weights)
          weights c.in_ok-weights.ensures.ok) built.0;
      built = built.1;
    }) c.build_on.ensures.built

pub returns-clause-refused : goal.returns-clause-refused
returns-clause-refused g c =
    let weights = c.in_ok-weights.weights in
    let place = c.in_ok-place.place in
    let of = run_at c.in_ok-tree.tree weights place in
    let is_of : IsTold c.args.site.now c.args.peers.now c.args.run.now of = record {
      described = c.in_ok-tree.ensures.ok;
      told = c.in_ok-weights.ensures.ok;
      listen = c.in_ok-place.ensures.listen;
      has_key = c.in_ok-place.ensures.key;
      open_to = c.in_ok-place.ensures.open_to;
      continued = c.in_ok-place.ensures.continued;
    } in
    IfErr-weaker c.build_on.result _ _ (λ r why. inr (inr (inr (of, is_of, why))))
    c.build_on.ensures.refused

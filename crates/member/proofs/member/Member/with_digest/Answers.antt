use Rattle.std.proofs.Common.{◌≡◌, None, Some, ap, length, map, refl, replicate, subst, sym, ◌∙◌}
use Rattle.std.specs.FinSet as set
use Rattle.claims.specs.Member.{no_facts}
use Rattle.protocol.specs.Answers.{tree_digest}
use Rattle.protocol.specs.Member.{IsMember}
use Rattle.protocol.specs.State.{fresh}
use Rattle.member.specs.shared.Fields.{engine_with, facts_of_known}
use Rattle.member.proofs.Fresh.{each_alike, fresh_engine, fresh_member}
use Rattle.member.proofs.member.Member.with_digest.Goals as goal

pub invariant_of-result : goal.invariant_of-result
invariant_of-result c =
    let d = c.in-Ok.units in
    let tree : d.tree ≡ c.args.tree.now = ap (λ u. u.tree) c.in-Ok.ensures.units ∙ (c.units.ensures ∙ ap (λ e. e.tree) c.in_ok-engine.ensures) in
    let facts : map facts_of_known c.in-Ok.known.items ≡ map (λ x. no_facts) d.units =
    c.in-Ok.ensures.known
    ∙ (ap (λ u. replicate (length u.units) no_facts) (sym c.in-Ok.ensures.units) ∙ sym (each_alike no_facts d.units)) in
    let state : fresh d c.args.weights.now c.args.me ≡ record {
      division = d;
      weights = c.copy.result;
      me = c.args.me;
      facts = map facts_of_known c.in-Ok.known.items;
      claim = None;
    } = λ i. record {
      division = d;
      weights = sym c.copy.ensures i;
      me = c.args.me;
      facts = sym facts i;
      claim = None;
    } in
    record {
      member = subst IsMember state (fresh_member d c.args.weights.now c.args.me
          c.in-Ok.ensures.division c.as_slice.ensures.are_weights c.requires.member);
      tree = sym tree;
      digest = c.requires.digest ∙ ap tree_digest (sym tree);
      engine = c.in_ok-engine.ensures
          ∙ (ap (λ t. record { tree = t; agreed = set.empty }) (sym tree)
          ∙ (sym (fresh_engine d) ∙ ap (engine_with d) (sym facts)));
      weighed = λ o e. absurd (let no : None ≡ Some o = e in cc);
      job = refl;
    }

pub returns-in-Ok-clause-fresh : goal.returns-in-Ok-clause-fresh
returns-in-Ok-clause-fresh c =
    let d = c.in-Ok.units in
    let facts : map facts_of_known c.in-Ok.known.items ≡ map (λ x. no_facts) d.units =
    c.in-Ok.ensures.known
    ∙ (ap (λ u. replicate (length u.units) no_facts) (sym c.in-Ok.ensures.units) ∙ sym (each_alike no_facts d.units)) in
    λ i. record {
      division = d;
      weights = c.copy.ensures i;
      me = c.args.me;
      facts = facts i;
      claim = None;
    }

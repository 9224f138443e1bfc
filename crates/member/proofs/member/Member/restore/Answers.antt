use Rattle.std.proofs.lemmas.Grind.{common_steps}
use Rattle.std.proofs.Common.{ap, length, map-id, rules, subst, sym, ◌∙◌, arith}
use Rattle.std.proofs.lemmas.Iterator.Adapters.{YieldsList-from_vec}
use Rattle.std.proofs.lemmas.Iterator.Consumers.{YieldsList-end}
use Rattle.protocol.specs.Member.{IsMember}
use Rattle.protocol.specs.Restoring.{restored}
use Rattle.protocol.specs.State.{State}
use Rattle.member.proofs.Restoring.{each_restored, kept_restored, state_restored}
use Rattle.member.proofs.member.Member.restore.Goals as goal

pub loop-note-init : goal.loop-note-init
loop-note-init c = record {
  division = ap (λ (s : State). s.division) c.self.view_is;
  weights = ap (λ (s : State). s.weights) c.self.view_is;
  me = ap (λ (s : State). s.me) c.self.view_is;
  claim = c.take.ensures.after;
  job = c.take-2.ensures.after;
  tree = c.self.invariant.tree;
  digest = c.self.invariant.digest;
  facts = ap (λ (s : State). s.facts) c.self.view_is;
  engine = c.self.invariant.engine;
}

pub keep_fact-requires-clause-each : goal.keep_fact-requires-clause-each
keep_fact-requires-clause-each c =
    ap length c.as_mut_slice.ensures.value
    ∙ each_restored c.args.self.now c.loop-note.self-inside c.loop-note.yielded
    c.loop-note.invariant (subst IsMember c.self.view_is c.self.invariant.member)

pub invariant_of-self : goal.invariant_of-self
invariant_of-self c =
    kept_restored c.args.self.now c.loop-note.self-inside c.loop-note.yielded c.loop-note.invariant
    (subst IsMember c.self.view_is c.self.invariant.member)

pub returns : goal.returns
returns c =
    let notes = c.args.notes.items in
    let ys = c.loop-note.yielded in
    let ends = YieldsList-end
    (YieldsList-from_vec {s = c.into_iter-note-iterator.result} notes (search rules) (search rules))
    ys c.loop-note.note-iterator c.loop-note.yielded_by c.next.result c.next.new.self c.in-None.is
    c.next.ensures.steps in
    state_restored c.args.self.now c.loop-note.self-inside ys c.loop-note.invariant
    ∙ ap (restored c.args.self.now) (sym (map-id ys) ∙ ends.0)

pub loop-note-preserved : goal.loop-note-preserved
loop-note-preserved c = grind (arith, common_steps)

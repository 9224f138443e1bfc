use Rattle.std.proofs.Common.{◌∙◌, ap, refl, map, subst, sym}
use Rattle.stable_record.specs.Log.{gate_place, note_of}
use Rattle.protocol.specs.Restoring.{AreOnUnits}
use Rattle.node.specs.Calls.{AreNotes}
use Rattle.node.specs.OnLog.{identity_of, texts_of}
use Rattle.node.specs.State.{NodeState}
use Rattle.node.specs.inside.Opening.{IsOver}
use Rattle.node.proofs.Opened.{opened, opened_invariant}
use Rattle.node.proofs.opening.over.Goals as goal

pub restore-requires : goal.restore-requires
restore-requires g c = subst (λ d. AreOnUnits d c.in-Ok.notes.items) c.units.ensures.division c.in-Ok.ensures.notes.on_units

pub invariant_of-result : goal.invariant_of-result
invariant_of-result g c =
    let s = c.args.member in
    let texts = map note_of c.args.texts.now in
    let are = subst (λ d. AreNotes d texts c.in-Ok.notes.items) c.units.ensures.division c.in-Ok.ensures.notes in
    let is = opened s c.requires.member texts c.in-Ok.notes.items are c.restore.new.self c.in-Ok.noted.texts c.new.result.items
    c.restore.ensures c.in-Ok.ensures.texts c.new.ensures.items in
    let owner = c.requires.owner ∙ sym (ap (λ (n : NodeState). identity_of n.member) is) in
    let named = are.read ∙ sym (ap (λ (n : NodeState). texts_of n.notes) is) in
    record {
      node = opened_invariant s c.requires.member texts c.in-Ok.notes.items are _ is;
      together = c.requires.log;
      owner = owner;
      end = c.requires.end ∙ λ j. gate_place (owner j) (named j);
    }

pub returns-in-Ok-clause-node : goal.returns-in-Ok-clause-node
returns-in-Ok-clause-node g c =
    let s = c.args.member in
    let texts = map note_of c.args.texts.now in
    let are = subst (λ d. AreNotes d texts c.in-Ok.notes.items) c.units.ensures.division c.in-Ok.ensures.notes in
    let is = opened s c.requires.member texts c.in-Ok.notes.items are c.restore.new.self c.in-Ok.noted.texts c.new.result.items
    c.restore.ensures c.in-Ok.ensures.texts c.new.ensures.items in
    subst (IsOver s texts) (sym is) (record { notes = are; node = refl })

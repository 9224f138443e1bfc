use Rattle.std.proofs.Common.{◌≡◌, take}
use Rattle.auditing.specs.inside.Standing.{HasRead}
use Rattle.auditing.proofs.judging.audit_entries.Given as goal

abbrev pub invariant-loop-index : goal.invariant-loop-index
invariant-loop-index l = record {
  tree : l.standing.tree.now ≡ l.initial.standing.tree.now;
  read : HasRead l.standing (take l.index l.list);
}

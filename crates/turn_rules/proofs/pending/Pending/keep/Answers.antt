use Rattle.turn_rules.proofs.Keeping.{input_put_back, named_put_back}
use Rattle.turn_rules.proofs.pending.Pending.keep.Goals as goal

pub returns-in_ok-keep_input-in-Own-clause-before :
    goal.returns-in_ok-keep_input-in-Own-clause-before
returns-in_ok-keep_input-in-Own-clause-before c = (
  input_put_back c.args.self.now c.keep_input.new.self c.args.node c.args.member.now
      c.in-Own.input c.remembered-before.result c.remembered-before.ensures.before
      c.in_ok-keep_input-in-Own.ensures.kept,
  c.remembered-before.ensures.next,
)

pub returns-in_ok-keep_named-in-Datagram-clause-before :
    goal.returns-in_ok-keep_named-in-Datagram-clause-before
returns-in_ok-keep_named-in-Datagram-clause-before c = (
  named_put_back c.args.self.now c.keep_named.new.self _ c.remembered-before.result
      c.remembered-before.ensures.before c.in_ok-keep_named-in-Datagram.ensures.kept,
  c.remembered-before.ensures.next,
)

use Rattle.std.proofs.Common.{ℕ, subst, arith}
use Rattle.udp.proofs.Coming.{CountUp-more, longer}
use Rattle.udp.specs.Ways.{IsLocal}
use Rattle.udp.proofs.addresses.loopback.Goals as goal

pub loop-member-preserved : goal.loop-member-preserved
loop-member-preserved c =
    let before = c.loop-member.addresses.items in
    let address = c.local.result in
    record {
      count = longer before c.push.new.self.items address c.loop-member.member c.in_ok-push.ensures.items c.loop-member.invariant.count;
      few = omega arith;
      local = rw c.in_ok-push.ensures.items (CountUp-more IsLocal c.args.base before address c.loop-member.invariant.local
          (subst (λ (port : ℕ). IsLocal port address) (omega (arith, c.from.ensures, c.loop-member.invariant.count)) c.local.ensures));
    }

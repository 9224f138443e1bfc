use Rattle.std.proofs.Common.{ℕ, List, [], ◌∷◌, Bor, arith, length, ap, rules, lit<, subst}
use Rattle.std.proofs.lemmas.Iterator.Consumers.{YieldsList-at, YieldsList-end, YieldsList-so_far, YieldsList-turn}
use Rattle.std.proofs.lemmas.Iterator.Splits.{YieldsList-from_str_split}
use Rattle.std.proofs.lemmas.List.{length-append, map_push}
use Rattle.faults.specs.Bytes.{Text, comma}
use Rattle.faults.specs.Pieces.{pieces_at}
use Rattle.udp.proofs.FirstBad.{WriteHosts-more, lacking, no_other, too_many}
use Rattle.udp.specs.Hosts.{WriteHosts}
use Rattle.udp.proofs.hosts.parse_hosts.Goals as goal

pub returns-then-len-members-clause-refused : goal.returns-then-len-members-clause-refused
returns-then-len-members-clause-refused c =
    let parts = YieldsList-at c.into_iter-part-iterator.ensures.into_iter_gives (YieldsList-from_str_split 44 c.args.text.now (lit< tt) c.split-part-items.ensures.text c.split-part-items.ensures.has_more c.split-part-items.ensures.pattern) in
    let front = YieldsList-so_far parts c.loop-part.yielded _ c.loop-part.yielded_by in
    let turn = YieldsList-turn parts c.loop-part.yielded _ c.loop-part.yielded_by _ _ c.in-Some.part c.in-Some.is c.next.ensures.steps in
    too_many c.args.members (pieces_at comma c.args.text.now) c.loop-part.yielded c.loop-part.hosts.items front c.loop-part.invariant.written c.loop-part.invariant.few c.len.result (search rules) turn.0 (omega arith)

pub returns-in_default-clause-refused : goal.returns-in_default-clause-refused
returns-in_default-clause-refused c =
    let parts = YieldsList-at c.into_iter-part-iterator.ensures.into_iter_gives (YieldsList-from_str_split 44 c.args.text.now (lit< tt) c.split-part-items.ensures.text c.split-part-items.ensures.has_more c.split-part-items.ensures.pattern) in
    let front = YieldsList-so_far parts c.loop-part.yielded _ c.loop-part.yielded_by in
    let turn = YieldsList-turn parts c.loop-part.yielded _ c.loop-part.yielded_by _ _ c.in-Some.part c.in-Some.is c.next.ensures.steps in
    let none = rw c.as_slice.ensures.value at c.in_default.ensures in
    no_other c.args.members (pieces_at comma c.args.text.now) c.loop-part.yielded c.loop-part.hosts.items front c.loop-part.invariant.written c.loop-part.invariant.few c.len.result (search rules) c.in-Some.part.now turn.0 turn.1 none

pub loop-part-preserved : goal.loop-part-preserved
loop-part-preserved c =
    let next = rw c.as_slice.ensures.value at c.in-Some-next_host.ensures in
    record {
      written = rw (map_push (λ (x : Bor (List ℕ)). x.now) c.loop-part.yielded c.in-Some.part, c.in_ok-push.ensures.items) (WriteHosts-more _ c.loop-part.hosts.items c.in-Some.part.now c.in-Some-next_host.host c.loop-part.invariant.written next.0 next.1);
      few = omega (arith, ap length c.in_ok-push.ensures.items, length-append c.loop-part.hosts.items (c.in-Some-next_host.host ∷ []));
    }

pub returns-then-len-members-2-clause-refused : goal.returns-then-len-members-2-clause-refused
returns-then-len-members-2-clause-refused c =
    let parts = YieldsList-at c.into_iter-part-iterator.ensures.into_iter_gives (YieldsList-from_str_split 44 c.args.text.now (lit< tt) c.split-part-items.ensures.text c.split-part-items.ensures.has_more c.split-part-items.ensures.pattern) in
    let front = YieldsList-so_far parts c.loop-part.yielded _ c.loop-part.yielded_by in
    let end = YieldsList-end parts c.loop-part.yielded _ c.loop-part.yielded_by _ _ c.in-None.is c.next.ensures.steps in
    lacking c.args.members (pieces_at comma c.args.text.now) c.loop-part.yielded c.loop-part.hosts.items front c.loop-part.invariant.written c.len-then-len-members-2.result (search rules) end.1 (omega arith)

pub returns-clause-hosts : goal.returns-clause-hosts
returns-clause-hosts c =
    let parts = YieldsList-at c.into_iter-part-iterator.ensures.into_iter_gives (YieldsList-from_str_split 44 c.args.text.now (lit< tt) c.split-part-items.ensures.text c.split-part-items.ensures.has_more c.split-part-items.ensures.pattern) in
    let end = YieldsList-end parts c.loop-part.yielded _ c.loop-part.yielded_by _ _ c.in-None.is c.next.ensures.steps in
    subst (λ (t : List Text). WriteHosts t c.loop-part.hosts.items) end.0 c.loop-part.invariant.written
